use Rattle.std.proofs.Common.{◌≡◌, ◌++◌, take}
use Rattle.reply_rescue.proofs.ends.push_each.Given as goal

abbrev pub invariant-loop-end : goal.invariant-loop-end
invariant-loop-end l = l.ends ≡ l.fn.ends ++ take l.end-index l.more
