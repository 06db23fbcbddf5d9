use Rattle.std.proofs.Common.{◌≡◌, ◌∙◌, ℕ, Option, Bool, sym, ap, subst, Some, None, Ok, not, is_some, true, false, arith}
use Rattle.std.specs.Prelude.{All}
use Rattle.stage_graph.specs.declared.stage.Stage.{Stage}
use Rattle.stage_graph.specs.Plain.{place_named, IsLive, feeds_of}
use Rattle.stage_graph.specs.Checks.{checks_of, first_refusal}
use Rattle.stage_graph.specs.Names.{found}
use Rattle.stage_graph.specs.Edits.{appended}
use Rattle.stage_graph.specs.Sound.{IsLawful}
use Rattle.stage_graph.proofs.Keeping.{passes}
use Rattle.stage_graph.proofs.Making.{within_places, lawful_stage, not_found, found_live, add_answer, add_refused}
use Rattle.stage_graph.proofs.graph.Graph.add.Goals as goal

-- a place that no name has
free_is : (id : Option ℕ) (free : Bool) → is_some id ≡ not free → (there : Option ℕ) → id ≡ there → free ≡ not (is_some there)
free_is id true is there same = ap not (sym is) ∙ ap (λ id. not (is_some id)) same
free_is id false is there same = ap not (sym is) ∙ ap (λ id. not (is_some id)) same

pub returns-in-Err : goal.returns-in-Err
returns-in-Err g c =
    let free = free_is c.place_of.result c.is_none-free.result c.is_none-free.ensures _ c.place_of.ensures in
    add_refused c.args.self.now c.args.spec.now (found c.names-names.result.now) c.is_none-free.result c.len-place.result c.names-names.ensures.table free c.len-place.ensures.len c.in-Err.fault c.in-Err.ensures.fault

pub append-requires-clause-room : goal.append-requires-clause-room
append-requires-clause-room g c =
    let pass = passes (checks_of c.is_none-free.result (found c.names-names.result.now) c.len-place.result c.args.spec.now) c.in-Ok.ensures.passes in
    omega (arith, within_places c.is_none-free.result (found c.names-names.result.now) c.len-place.result c.args.spec.now pass, c.len-place.ensures.len)

pub append-requires-clause-free : goal.append-requires-clause-free
append-requires-clause-free g c κs within =
    let free = free_is c.place_of.result c.is_none-free.result c.is_none-free.ensures _ c.place_of.ensures in
    let pass = passes (checks_of c.is_none-free.result (found c.names-names.result.now) c.len-place.result c.args.spec.now) c.in-Ok.ensures.passes in
    let none : place_named c.args.self.now.places c.args.spec.now.name ≡ None = not_found (place_named c.args.self.now.places c.args.spec.now.name) (sym free ∙ pass.free) in
    rw c.in-Ok.ensures.stage none

pub append-requires-clause-lawful : goal.append-requires-clause-lawful
append-requires-clause-lawful g c κs within =
    let pass = passes (checks_of c.is_none-free.result (found c.names-names.result.now) c.len-place.result c.args.spec.now) c.in-Ok.ensures.passes in
    subst IsLawful (sym c.in-Ok.ensures.stage) (lawful_stage c.is_none-free.result (found c.names-names.result.now) c.len-place.result c.args.spec.now pass)

pub append-requires-clause-feeds : goal.append-requires-clause-feeds
append-requires-clause-feeds g c κs within =
    let pass = passes (checks_of c.is_none-free.result (found c.names-names.result.now) c.len-place.result c.args.spec.now) c.in-Ok.ensures.passes in
    subst (λ (stage : Stage). All (IsLive c.args.self.now.places) (feeds_of stage)) (sym c.in-Ok.ensures.stage)
    (found_live c.args.self.now.places (found c.names-names.result.now) c.names-names.ensures.table c.args.spec.now.sources c.args.spec.now.inner pass.known)

pub returns-in_ok-append-in-Ok : goal.returns-in_ok-append-in-Ok
returns-in_ok-append-in-Ok g c =
    let free = free_is c.place_of.result c.is_none-free.result c.is_none-free.ensures _ c.place_of.ensures in
    add_answer c.args.self.now c.args.spec.now (found c.names-names.result.now) c.is_none-free.result c.len-place.result c.names-names.ensures.table free c.len-place.ensures.len None
    (sym c.in-Ok.ensures.passes)
    ∙ ap (λ stage. Ok (appended c.args.self.now stage)) (sym c.in-Ok.ensures.stage) ∙ ap Ok (sym c.in_ok-append-in-Ok.ensures)
