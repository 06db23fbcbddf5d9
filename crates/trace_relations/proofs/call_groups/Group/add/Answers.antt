use Rattle.std.proofs.Common.{rules}
use Rattle.trace_relations.proofs.FreeRows.{still_free}
use Rattle.trace_relations.proofs.call_groups.Group.add.Goals as goal

pub returns-clause-free : goal.returns-clause-free
returns-clause-free c = λ are. still_free _ _ _ (search rules) (c.in_ok-add.ensures _ _ are)
