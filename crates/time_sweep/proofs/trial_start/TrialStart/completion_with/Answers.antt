use Rattle.std.proofs.Common.{◌≡◌, List, subst, sym}
use Rattle.std.specs.Prelude.{IfOk}
use Rattle.stage_graph.specs.declared.stage.Stage.{Stage}
use Rattle.time_sweep.specs.Sweep.{completion_of}
use Rattle.time_sweep.specs.WithStage.{with_stages, AreFitting}
use Rattle.time_sweep.proofs.Exchanging.{fits_alone}
use Rattle.time_sweep.proofs.trial_start.TrialStart.completion_with.Goals as goal

pub completion_with_all-requires-clause-fit : goal.completion_with_all-requires-clause-fit
completion_with_all-requires-clause-fit g c κs inside =
    let places = c.args.version.now.graph.places in
    subst (AreFitting places) (sym c.from_ref.ensures.value) (fits_alone places c.args.changed.now c.requires.fits)

pub returns-clause-done : goal.returns-clause-done
returns-clause-done g c =
    let graph = c.args.version.now.graph in
    subst (λ (stages : List Stage). IfOk c.completion_with_all.result (λ done. done ≡ completion_of (with_stages graph stages) c.args.self.now.target)) c.from_ref.ensures.value
    c.completion_with_all.ensures.done
