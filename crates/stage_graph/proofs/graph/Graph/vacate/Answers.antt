use Rattle.std.proofs.Common.{rules, ◌≡◌, ◌∙◌, ℕ, List, Option, cond, ap, Some, None}
use Rattle.std.specs.Str.{bytes_eq}
use Rattle.stage_graph.specs.Plain.{PlainGraph, IsLive, place_named}
use Rattle.stage_graph.specs.Names.{found}
use Rattle.stage_graph.specs.Edits.{first_dependent}
use Rattle.stage_graph.proofs.Vacating.{live_named, found_after_vacate, sound_after_vacate}
use Rattle.stage_graph.proofs.graph.Graph.vacate.Goals as goal

pub invariant_of-result : goal.invariant_of-result
invariant_of-result g c =
    let mode = c.self.inside.mode in
    let places = g.R.Stages.Keeps.items c.self.inside.stages in
    let name = c.args.name.now in
    let same = ap (λ (graph : PlainGraph). graph.places) c.self.view_is in
    let named : place_named places name ≡ Some c.args.place = rw same c.requires.named in
    let unused : first_dependent places c.args.place ≡ None = rw same c.requires.unused in
    let live : IsLive places c.args.place = live_named mode places c.self.invariant.0 name c.args.place named in
    let told : (other : List ℕ) → found c.in_ok-names.names other ≡ cond (bytes_eq name other) None (found c.self.inside.names other) = search rules in (
      rw c.in_ok-stages.ensures (sound_after_vacate mode places c.self.invariant.0 c.args.place live unused),
      λ other. ap (λ table. found table other) c.in_ok-new.ensures ∙ told other
          ∙ ap (λ (at : Option ℕ). cond (bytes_eq name other) None at) (c.self.invariant.1 other)
          ∙ rw c.in_ok-stages.ensures (found_after_vacate mode places c.self.invariant.0 name c.args.place named other),
    )
