use Rattle.propagate.proofs.spread.laws.Goals as goal

pub returns-clause-soon : goal.returns-clause-soon
returns-clause-soon g c = λ mode. g.met.O.StageOps.soon c.args._ops.now mode
