use Rattle.std.proofs.Common.{◌≡◌, ap, sym, ◌∙◌, Some, None, unwrap_or}
use Rattle.std.proofs.lemmas.Option.{unwrap_or-slice_get}
use Rattle.stage_graph.specs.Plain.{PlainGraph, stage_at}
use Rattle.stage_graph.proofs.graph.Graph.stage.Goals as goal

pub returns-in-Some-Some-clause-sound : goal.returns-in-Some-Some-clause-sound
returns-in-Some-Some-clause-sound g c =
    let places = g.R.Stages.Keeps.items c.self.inside.stages in
    let same : places ≡ c.args.self.now.places = ap (λ (graph : PlainGraph). graph.places) c.self.view_is in
    let at : stage_at places c.args.place ≡ Some c.deref.result.now =
    sym (unwrap_or-slice_get places c.args.place None) ∙ ap (λ found. unwrap_or found None) (sym c.in-Some-Some.ensures) ∙ c.in-Some-Some.field-0-is ∙ ap Some (sym c.deref.ensures) in
    rw (← same) (c.self.invariant.0.stages c.args.place c.deref.result.now at)

pub returns-in-None-clause-stage : goal.returns-in-None-clause-stage
returns-in-None-clause-stage g c =
    let places = g.R.Stages.Keeps.items c.self.inside.stages in
    let same : places ≡ c.args.self.now.places = ap (λ (graph : PlainGraph). graph.places) c.self.view_is in
    rw (← same) (ap (λ found. unwrap_or found None) c.in-None.ensures ∙ unwrap_or-slice_get places c.args.place None)
