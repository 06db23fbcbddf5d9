use Rattle.std.proofs.Common.{arith, refl}
use Rattle.trace_relations.proofs.FreeRows.{first_is, further, more_taken, none_taken}
use Rattle.trace_relations.proofs.free_places.FreePlaces.first_from.Goals as goal

pub way-init : goal.way-init
way-init c = λ count free are. none_taken count free c.args.from c.args.from refl

pub way-preserved : goal.way-preserved
way-preserved c = λ count free are. more_taken c.args.self.now count free c.args.from c.way.place c.next_of-next.result are c.next_of-next.ensures (omega arith) (c.way.invariant count free are)

pub way-smaller : goal.way-smaller
way-smaller c = further c.args.self.now c.way.place c.next_of-next.result c.next_of-next.ensures (omega arith)

pub returns-then-next-place : goal.returns-then-next-place
returns-then-next-place c = λ count free are. first_is c.args.self.now count free c.args.from c.way.place c.next_of-next.result are c.next_of-next.ensures (omega arith) (c.way.invariant count free are)
