use Rattle.std.proofs.Common.{sym, None, arith}
use Rattle.stage_graph.specs.Plain.{uses}
use Rattle.stage_graph.proofs.Positions.{position_is, position_none}
use Rattle.stage_graph.proofs.graph.Graph.first_dependent.Goals as goal

pub returns-then-uses : goal.returns-then-uses
returns-then-uses g c =
    sym (position_is (uses c.args.place) c.args.self.now.places c.loop-dependent.dependent None (omega (arith, c.loop-dependent-test.true, c.len-dependent-end.ensures.len)) c.loop-dependent.invariant
    (sym c.if-uses.ensures))

pub returns : goal.returns
returns g c = sym (position_none (uses c.args.place) c.args.self.now.places None (λ k short. c.loop-dependent.invariant k (omega (arith, short, c.loop-dependent-test.false, c.len-dependent-end.ensures.len))))
