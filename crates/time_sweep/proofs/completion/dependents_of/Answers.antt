use Rattle.time_sweep.proofs.Stands.{its_dependents, not_missing}
use Rattle.time_sweep.proofs.completion.dependents_of.Goals as goal

pub unreachable-requires : goal.unreachable-requires
unreachable-requires g c =
    not_missing c.args.version.now.graph.places c.args.ranks.now c.args.standing.now c.requires.standing c.args.place c.requires.known c.standing_at.result c.standing_at.ensures c.in-None.is c.requires.live

pub returns : goal.returns
returns g c =
    its_dependents c.args.version.now.graph.places c.args.ranks.now c.args.standing.now c.requires.standing c.args.place c.requires.known c.standing_at.result c.standing_at.ensures c.in-Some.one c.in-Some.is
