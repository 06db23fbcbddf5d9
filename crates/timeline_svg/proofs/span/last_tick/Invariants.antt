use Rattle.std.proofs.Common.{◌≡◌, drop, max}
use Rattle.timeline_svg.specs.Spans.{last_tick}
use Rattle.timeline_svg.proofs.span.last_tick.Given as goal

-- the last so far, or of those left, is the last of all
abbrev pub invariant-loop-row : goal.invariant-loop-row
invariant-loop-row l = max l.last (last_tick (drop l.row-index l.rows)) ≡ last_tick l.rows
