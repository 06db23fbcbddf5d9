use Rattle.std.proofs.Common.{◌∙◌, ℕ, Option, ap, subst, sym}
use Rattle.stage_graph.specs.declared.stage.Stage.{Stage}
use Rattle.stage_ops.specs.declared.state.Done.{Done}
use Rattle.time_sweep.specs.Sweep.{completion_of}
use Rattle.time_sweep.specs.WithStage.{with_stage, IsFitting}
use Rattle.stage_slack.specs.Slacks.{agree}
use Rattle.stage_slack.proofs.Lengthening.{longer_fits}
use Rattle.stage_slack.proofs.stays.stays.Goals as goal

pub completion_with-requires-clause-fits : goal.completion_with-requires-clause-fits
completion_with-requires-clause-fits g c κs inside =
    let places = c.args.version.now.graph.places in
    subst (IsFitting places) (sym c.in_ok-changed.ensures) (longer_fits places c.args.stage.now c.args.ticks c.requires.stands c.requires.sound c.requires.acts c.requires.ticks)

pub returns-clause-same : goal.returns-clause-same
returns-clause-same g c =
    let graph = c.args.version.now.graph in
    let target = c.args.start.now.target in
    c.agree.ensures
    ∙ ap (λ (old : Option Done). agree old c.in_ok-new.new) (c.completion_of-old.ensures ∙ ap (λ (place : ℕ). completion_of graph place) c.target.ensures)
    ∙ ap (λ (new : Option Done). agree (completion_of graph target) new) (c.in_ok-new.ensures.done ∙ ap (λ (stage : Stage). completion_of (with_stage graph stage) target) c.in_ok-changed.ensures)
