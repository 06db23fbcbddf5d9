use Rattle.std.proofs.Common.{◌≡◌, ◌++◌}
use Rattle.std.specs.List.{flat_map, range_with_len}
use Rattle.reply_rescue.specs.Changes.{longer_at}
use Rattle.reply_rescue.proofs.changes.push_longer_ends.Given as goal

abbrev pub invariant-loop-index : goal.invariant-loop-index
invariant-loop-index l = l.changes.items ≡ l.fn.changes.items ++ flat_map (longer_at l.ends) (range_with_len 0 l.index)
