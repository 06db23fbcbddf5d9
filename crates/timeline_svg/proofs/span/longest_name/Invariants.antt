use Rattle.std.proofs.Common.{◌≡◌, drop, max}
use Rattle.timeline_svg.specs.Spans.{longest_name}
use Rattle.timeline_svg.proofs.span.longest_name.Given as goal

-- the longest so far, or of those left, is the longest of all
abbrev pub invariant-loop-row : goal.invariant-loop-row
invariant-loop-row l = max l.longest (longest_name (drop l.row-index l.rows)) ≡ longest_name l.rows
