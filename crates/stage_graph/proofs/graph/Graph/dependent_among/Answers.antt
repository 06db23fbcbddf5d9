use Rattle.std.proofs.Common.{rules, ◌≡◌, ◌∙◌, ap, slice_get}
use Rattle.stage_graph.specs.Plain.{dependents}
use Rattle.stage_graph.proofs.FirstDependent.{heads_dependents}
use Rattle.stage_graph.proofs.graph.Graph.dependent_among.Goals as goal

pub returns-in-Some : goal.returns-in-Some
returns-in-Some g c =
    let places = c.args.self.now.places in
    let known : c.in-Some.dependents.now ≡ dependents places c.args.place = search rules in
    let first : c.copied.result ≡ slice_get c.in-Some.dependents.now 0 = search rules in
    first ∙ ap (λ those. slice_get those 0) known ∙ heads_dependents places c.args.place
