use Rattle.std.proofs.Common.{rules}
use Rattle.trace_relations.proofs.Numbering.{one_clock, two_clocks}
use Rattle.trace_relations.proofs.placing.add_pair.Goals as goal

pub returns-else-pair-clause-added : goal.returns-else-pair-clause-added
returns-else-pair-clause-added c = one_clock c.args.pair.now c.args.number c.args.all.now.items c.add_number.new.all.items (search rules) c.in_ok-add_number.ensures.added

pub returns-in_ok-add_number-2-clause-added : goal.returns-in_ok-add_number-2-clause-added
returns-in_ok-add_number-2-clause-added c = two_clocks c.args.pair.now c.args.number c.args.all.now.items c.add_number.new.all.items c.add_number-then-pair.new.all.items (search rules) c.in_ok-add_number.ensures.added c.in_ok-add_number-2.ensures.added
