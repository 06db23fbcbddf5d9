use Rattle.std.proofs.Common.{◌≡◌}
use Rattle.std.specs.List.{range_with_len}
use Rattle.trace_relations.proofs.attempts.tried_once.Given as goal

-- each is the first and the last so far
abbrev pub invariant-loop-place : goal.invariant-loop-place
invariant-loop-place l = (l.first.items ≡ range_with_len 0 l.place) × (l.last.items ≡ range_with_len 0 l.place)
