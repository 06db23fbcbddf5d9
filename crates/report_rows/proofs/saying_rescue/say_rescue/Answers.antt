use Rattle.std.proofs.Common.{ℕ, List, ap₂, ◌∙◌}
use Rattle.std.specs.Option.{option_map}
use Rattle.stage_graph.specs.Plain.{stage_at}
use Rattle.reply_rescue.specs.declared.rescue.Rescue.{Rescue}
use Rattle.report_rows.specs.Said.{rescues_listed}
use Rattle.report_rows.proofs.Views.{of_the_view}
use Rattle.report_rows.proofs.saying_rescue.say_rescue.Goals as goal

pub returns-in_ok-found-in-Some-clause-value : goal.returns-in_ok-found-in-Some-clause-value
returns-in_ok-found-in-Some-clause-value g c =
    of_the_view _ _ _ _ _ _ c.in-Some.ensures.version c.in-Some.ensures.place c.in-Some.ensures.stage
    (λ version place stage. rescues_listed version place c.args.terms c.in_ok-found-in-Some.found.tried c.in_ok-found-in-Some.found.saved.items stage) _ c.say_rescues.ensures
    ∙ ap₂ (λ (tried : ℕ) (saved : List Rescue). option_map (rescues_listed c.args.version.now c.args.target c.args.terms tried saved) (stage_at c.args.version.now.graph.places c.args.target))
    c.in_ok-found-in-Some.ensures.tried c.in_ok-found-in-Some.ensures.rescues
