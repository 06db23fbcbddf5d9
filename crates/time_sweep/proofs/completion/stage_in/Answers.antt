use Rattle.std.proofs.Common.{◌∙◌, sym, ap}
use Rattle.std.specs.Prelude.{option_copied}
use Rattle.time_sweep.proofs.Exchanging.{changed_sound, stands_changed, stands_unchanged}
use Rattle.time_sweep.proofs.completion.stage_in.Goals as goal

pub stage_among-requires : goal.stage_among-requires
stage_among-requires g c = c.requires.fit.ascend

pub returns-in-Some-clause-stage : goal.returns-in-Some-clause-stage
returns-in-Some-clause-stage g c =
    stands_changed c.args.version.now.graph c.args.changed.now c.requires.fit c.args.place c.in-Some.stage.now (sym c.stage_among.ensures ∙ ap option_copied c.in-Some.is)

pub returns-in-Some-clause-sound : goal.returns-in-Some-clause-sound
returns-in-Some-clause-sound g c =
    changed_sound c.args.version.now.graph c.args.changed.now c.requires.fit c.args.place c.in-Some.stage.now (sym c.stage_among.ensures ∙ ap option_copied c.in-Some.is)

pub returns-in-None-clause-stage : goal.returns-in-None-clause-stage
returns-in-None-clause-stage g c =
    c.stage_at.ensures.stage
    ∙ stands_unchanged c.args.version.now.graph c.args.changed.now c.requires.fit c.args.place (sym c.stage_among.ensures ∙ ap option_copied c.in-None.is)
