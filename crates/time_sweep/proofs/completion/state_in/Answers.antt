use Rattle.std.proofs.Common.{◌∙◌, Option, sym, ap}
use Rattle.std.specs.Prelude.{option_copied}
use Rattle.time_sweep.proofs.Exchanging.{changed_stands, sound_among}
use Rattle.time_sweep.proofs.completion.state_in.Goals as goal

pub state_of-requires-clause-sound : goal.state_of-requires-clause-sound
state_of-requires-clause-sound g c κs inside = sound_among _ c.args.place c.in-Some.stage.now _ c.requires.count c.in-Some.ensures.sound

pub unreachable-requires : goal.unreachable-requires
unreachable-requires g c =
    changed_stands c.args.version.now.graph c.args.changed.now c.requires.fit c.args.place c.requires.live (sym c.stage_in.ensures.stage ∙ ap option_copied c.in-None.is)
