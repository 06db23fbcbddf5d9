use Rattle.time_sweep.proofs.Stands.{its_sound_one, its_stage_none, its_stage_one}
use Rattle.time_sweep.proofs.completion.stage_at.Goals as goal

pub returns-in-Some-clause-stage : goal.returns-in-Some-clause-stage
returns-in-Some-clause-stage g c =
    its_stage_one c.args.version.now.graph.places c.args.ranks.now c.args.standing.now c.requires.standing c.args.place c.requires.known c.standing_at.result c.standing_at.ensures c.in-Some.one c.in-Some.is

pub returns-in-Some-clause-sound : goal.returns-in-Some-clause-sound
returns-in-Some-clause-sound g c =
    its_sound_one c.args.version.now.graph.places c.args.ranks.now c.args.standing.now c.requires.standing c.args.place c.requires.known c.standing_at.result c.standing_at.ensures c.in-Some.one c.in-Some.is

pub returns-in-None-clause-stage : goal.returns-in-None-clause-stage
returns-in-None-clause-stage g c =
    its_stage_none c.args.version.now.graph.places c.args.ranks.now c.args.standing.now c.requires.standing c.args.place c.requires.known c.standing_at.result c.standing_at.ensures c.in-None.is
