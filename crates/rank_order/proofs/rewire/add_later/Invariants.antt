use Rattle.std.proofs.Common.{◌≡◌, ◌++◌, take, filter, nat_lt}
use Rattle.rank_order.proofs.rewire.add_later.Given as goal

abbrev pub invariant-loop-other : goal.invariant-loop-other
invariant-loop-other l = l.list.items ≡ l.fn.list.items ++ filter (λ other. nat_lt l.place other) (take l.other-index l.places)
