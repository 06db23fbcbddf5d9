use Rattle.std.proofs.Common.{rules, ◌≡◌, ◌<◌, ◌∙◌, ◌++◌, ◌∷◌, [], ℕ, List, Option, cond, ap, Some, None, length}
use Rattle.std.specs.Prelude.{All}
use Rattle.std.specs.Str.{bytes_eq}
use Rattle.stage_graph.specs.Plain.{PlainGraph, IsLive, place_named, feeds_of}
use Rattle.stage_graph.specs.declared.stage.Stage.{Stage}
use Rattle.stage_graph.specs.Edits.{appended}
use Rattle.stage_graph.specs.Names.{found}
use Rattle.stage_graph.proofs.Vacating.{found_after_append, sound_after_append}
use Rattle.stage_graph.proofs.graph.Graph.append.Goals as goal

pub invariant_of-result : goal.invariant_of-result
invariant_of-result g c =
    let mode = c.self.inside.mode in
    let places = g.R.Stages.Keeps.items c.self.inside.stages in
    let stage = c.args.stage in
    let same = ap (λ (graph : PlainGraph). graph.places) c.self.view_is in
    let room : length places < 65536 = rw same c.requires.room in
    let free : place_named places stage.name ≡ None = rw same c.requires.free in
    let place : stage.place ≡ length places = rw same c.requires.place in
    let feeds : All (IsLive places) (feeds_of stage) = rw same c.requires.feeds in
    let told : (name : List ℕ) → found c.in_ok-names.names name ≡ cond (bytes_eq stage.name name) (Some stage.place) (found c.self.inside.names name) = search rules in (
      rw (c.in-Ok.ensures.ok, c.in_ok-held.ensures) (sound_after_append mode places stage room free place c.requires.lawful feeds c.self.invariant.0),
      λ name. ap (λ table. found table name) c.in_ok-new.ensures ∙ told name
          ∙ ap (λ (at : ℕ). cond (bytes_eq stage.name name) (Some at) (found c.self.inside.names name)) place
          ∙ ap (λ (at : Option ℕ). cond (bytes_eq stage.name name) (Some (length places)) at) (c.self.invariant.1 name)
          ∙ rw (c.in-Ok.ensures.ok, c.in_ok-held.ensures) (found_after_append mode places stage free name),
    )

pub returns : goal.returns
returns g c =
    let places = g.R.Stages.Keeps.items c.self.inside.stages in
    ap (λ (places : List (Option Stage)). record { mode = c.self.inside.mode; places = places })
    (c.in-Ok.ensures.ok ∙ ap (λ (held : Stage). places ++ Some held ∷ []) c.in_ok-held.ensures)
    ∙ ap (λ (graph : PlainGraph). appended graph c.args.stage) c.self.view_is
