use Rattle.std.proofs.Common.{refl, rules, set}
use Rattle.trace_relations.proofs.Adding.{number_added}
use Rattle.trace_relations.proofs.placing.add_number.Goals as goal

pub returns-clause-added : goal.returns-clause-added
returns-clause-added c = number_added c.args.all.now.items (set c.args.all.now.items c.args.clock c.push.new.self) c.args.clock c.args.number c.index_mut.result.now c.push.new.self (search rules) (search rules) c.in_ok-push.ensures.items refl
