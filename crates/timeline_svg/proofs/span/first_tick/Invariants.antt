use Rattle.std.proofs.Common.{◌≡◌, ◌-◌, ◌^◌, ◌≤◌, drop, min}
use Rattle.timeline_svg.specs.Spans.{first_tick}
use Rattle.timeline_svg.proofs.span.first_tick.Given as goal

-- the first so far, or of those left, is the first of all
abbrev pub invariant-loop-row : goal.invariant-loop-row
invariant-loop-row l = record {
  fits : l.first ≤ 2 ^ 64 - 1;
  known : min l.first (first_tick (drop l.row-index l.rows)) ≡ first_tick l.rows;
}
