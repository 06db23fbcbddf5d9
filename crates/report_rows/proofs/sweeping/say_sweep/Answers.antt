use Rattle.std.proofs.Common.{ℕ, ap₂, sym, ◌∙◌}
use Rattle.version_store.specs.Plain.{PlainVersion}
use Rattle.time_sweep.specs.Sweep.{sweep}
use Rattle.report_rows.specs.Said.{sweep_of_stage}
use Rattle.report_rows.proofs.Views.{of_the_view}
use Rattle.report_rows.proofs.sweeping.say_sweep.Goals as goal

pub say_trials-requires-after_bounds : goal.say_trials-requires-after_bounds
say_trials-requires-after_bounds g c κs within =
    c.in_ok-trials-in-Some.ensures.swept
    ∙ ap₂ (λ (version : PlainVersion) (place : ℕ). sweep version.graph c.args.asked.haste place) (sym c.in-Some.ensures.version) (sym c.in-Some.ensures.place)

pub returns-in_ok-trials-in-Some-clause-value : goal.returns-in_ok-trials-in-Some-clause-value
returns-in_ok-trials-in-Some-clause-value g c =
    of_the_view _ _ _ _ _ _ c.in-Some.ensures.version c.in-Some.ensures.place c.in-Some.ensures.stage (λ version place stage. sweep_of_stage version place c.args.asked stage) _ c.say_trials.ensures
