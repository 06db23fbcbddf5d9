use Rattle.std.proofs.Common.{take}
use Rattle.std.specs.List.{AllZip}
use Rattle.fleet_replies.specs.Replies.{IsTried}
use Rattle.fleet_replies.proofs.reply.all_tried.Given as goal

abbrev pub invariant-loop-number : goal.invariant-loop-number
invariant-loop-number g l = AllZip (IsTried l.version.graph l.grouping l.reply l.facts) (take l.number l.changes) l.tried.items
