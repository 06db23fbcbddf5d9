use Rattle.std.proofs.Common.{◌≡◌, ◌-◌, ◌++◌, drop, length, reverse}
use Rattle.trace_stages.proofs.order.put_after.Given as goal

-- the last ones so far
abbrev pub invariant-loop-passed : goal.invariant-loop-passed
invariant-loop-passed l = l.ids.items ≡ l.fn.ids.items ++ reverse (drop (length l.joins - l.passed) l.joins)
