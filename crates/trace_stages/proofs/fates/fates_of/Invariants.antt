use Rattle.std.proofs.Common.{◌≡◌, map}
use Rattle.std.specs.List.{range_with_len}
use Rattle.trace_stages.specs.Fates.{AreFirst, fate}
use Rattle.trace_stages.proofs.fates.fates_of.Given as goal

-- those so far
abbrev pub invariant-loop-place : goal.invariant-loop-place
invariant-loop-place l = AreFirst l.firsts l.spans × (l.fates.items ≡ map (fate l.spans) (range_with_len 0 l.place))
