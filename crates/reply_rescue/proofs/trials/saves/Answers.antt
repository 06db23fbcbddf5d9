use Rattle.std.proofs.Common.{◌∙◌, Option, ap, subst, sym}
use Rattle.std.specs.Option.{option_map}
use Rattle.stage_graph.specs.declared.stage.Stage.{Stage}
use Rattle.stage_ops.specs.declared.state.Done.{Done}
use Rattle.time_sweep.specs.Sweep.{completion_of}
use Rattle.time_sweep.specs.WithStage.{with_stage, IsFitting}
use Rattle.reply_rescue.specs.declared.reply.Reply.{Reply}
use Rattle.reply_rescue.specs.Replies.{reply_of}
use Rattle.reply_rescue.specs.Rescues.{completion_with, rescue_by, trial_at}
use Rattle.reply_rescue.proofs.Changing.{changed_fits}
use Rattle.reply_rescue.proofs.trials.saves.Goals as goal

pub completion_with-requires-clause-fits : goal.completion_with-requires-clause-fits
completion_with-requires-clause-fits g c κs inside =
    let places = c.args.version.now.graph.places in
    subst (IsFitting places) (sym c.in_ok-made.ensures) (changed_fits places c.args.stage.now c.requires.stands c.requires.sound c.args.change)

pub returns-clause-saves : goal.returns-clause-saves
returns-clause-saves g c =
    let graph = c.args.version.now.graph in
    let sought = c.args.sought.now in
    let target = sought.start.target in
    let trial = trial_at c.args.stage.now.place c.args.change in
    c.rescue_by.ensures
    ∙ ap (λ (reply : Option Reply). option_map (rescue_by trial) reply)
    (c.reply_of-reply.ensures
    ∙ ap (λ (done : Option Done). reply_of sought.by done)
    (c.in_ok-done.ensures.done
    ∙ ap (λ (made : Stage). completion_of (with_stage graph made) target) c.in_ok-made.ensures
    ∙ sym (ap (λ (here : Option Stage). completion_with graph target c.args.change here) c.requires.stands)))
