use Rattle.std.proofs.Common.{refl, rules, set}
use Rattle.trace_relations.proofs.Adding.{free_added}
use Rattle.trace_relations.proofs.grouping.add_call.Goals as goal

pub returns-in_ok-add-clause-free : goal.returns-in_ok-add-clause-free
returns-in_ok-add-clause-free c = λ all.
    free_added c.args.groups.now.items (set c.args.groups.now.items c.args.number c.add.new.self) c.args.number c.index_mut.result.now c.add.new.self (search rules) (search rules) c.in_ok-add.ensures.free refl all
