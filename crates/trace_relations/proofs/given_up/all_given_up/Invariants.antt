use Rattle.std.proofs.Common.{◌≡◌, map}
use Rattle.std.specs.List.{range_with_len}
use Rattle.trace_relations.specs.GivenUp.{given_up_by}
use Rattle.trace_relations.specs.KeptCalled.{AreCallers, called_with}
use Rattle.trace_relations.proofs.given_up.all_given_up.Given as goal

-- those so far
abbrev pub invariant-loop-place : goal.invariant-loop-place
invariant-loop-place l = (l.given_up.items ≡ map (given_up_by (called_with l.called) l.order) (range_with_len 0 l.place)) × AreCallers (called_with l.called) l.order l.callers
