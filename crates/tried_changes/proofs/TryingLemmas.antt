-- The version that edits make which a graph takes and which move no stage.
use Rattle.std.proofs.Common.{◌≡◌, ◌∙◌, ℕ, List, true, false, Option, Some, None, Result, Ok, Err, sym, ap, subst}
use Rattle.std.specs.Prelude.{IfOk, IsOk, is_ok, slice_index}
use Rattle.std.specs.List.{list_any}
use Rattle.std.proofs.lemmas.Bool.{both_ways, false≢true}
use Rattle.stage_graph.specs.declared.edit.Edit.{Edit}
use Rattle.stage_graph.specs.declared.fault.Fault.{Fault}
use Rattle.stage_graph.specs.declared.fault.Fault.TheVariants as fault_of
use Rattle.stage_graph.specs.declared.fault.Refused.{Refused}
use Rattle.stage_graph.specs.declared.stage.Stage.{Stage}
use Rattle.stage_graph.specs.Changes.{IsNewCycle, changed, is_moved, moves}
use Rattle.stage_graph.specs.Plain.{PlainGraph, stage_at}
use Rattle.change_words.specs.declared.change.Change.{Change}
use Rattle.change_words.specs.Making.{edits_of}
use Rattle.version_store.specs.Drafts.{Drafts, IsDraftOf}
use Rattle.version_store.specs.Plain.{PlainDraft, PlainVersion, numbered}
use Rattle.tried_changes.specs.Tried.{IsDrafted, IsMadeByAll}

-- what is taken is not refused
not_refused : (edits : List Edit) (graph : PlainGraph) (refused : Refused) → IsOk (changed edits graph) → changed edits graph ≡ Err refused → ⊥
not_refused edits graph refused taken is = false≢true (sym (ap is_ok is) ∙ taken)

-- the same, as a draft tells it
pub draft_not_refused : (version : PlainVersion) (edits : List Edit) (fault : Fault) (refused : Refused) → fault ≡ fault_of.Refused refused → IsOk (changed edits version.graph) → Drafts version edits (Err fault) → ⊥
draft_not_refused version edits fault refused is taken told =
    not_refused edits version.graph refused taken (subst (λ (fault : Fault). Drafts version edits (Err fault)) is told)

not_moved : (edits : List Edit) (stage : Option Stage) → ((name : List ℕ) → list_any (moves name) edits ≡ false) → is_moved edits stage ≡ true → ⊥
not_moved edits None still moved = false≢true moved
not_moved edits (Some stage) still moved = both_ways (list_any (moves stage.name) edits) (still stage.name) moved

-- no circle arises where none is moved
no_circle : (edits : List Edit) (graph : PlainGraph) (path : List ℕ) → ((name : List ℕ) → list_any (moves name) edits ≡ false) → IsNewCycle edits graph.places path → ⊥
no_circle edits graph path still circle = not_moved edits (stage_at graph.places (slice_index path 0)) still circle.1

-- the same, as a draft tells it
pub draft_no_circle : (version : PlainVersion) (edits : List Edit) (fault : Fault) (path : List ℕ) → fault ≡ fault_of.Cycle path → ((name : List ℕ) → list_any (moves name) edits ≡ false) → Drafts version edits (Err fault) → ⊥
draft_no_circle version edits fault path is still told =
    let circle = subst (λ (fault : Fault). Drafts version edits (Err fault)) is told in
    no_circle edits circle.0 path still circle.2

pub numbered_told : {E : Type 0} (r : Result PlainVersion E) (version : PlainVersion) (edits : List Edit) (draft : PlainDraft) → IsDraftOf version edits draft → IfOk r (λ made. made ≡ numbered draft 1) → IfOk r (IsDrafted version edits)
numbered_told (Ok made) version edits draft of is = record { draft = draft; of = of; is = is }
numbered_told (Err fault) version edits draft of is = tt

pub all_made : (version : PlainVersion) (changes : List Change) (graph : PlainGraph) (edits held : List Edit) (made : PlainVersion) → graph ≡ version.graph → edits_of changes graph ≡ Ok edits → held ≡ edits → IsDrafted version held made → IsMadeByAll version changes made
all_made version changes graph edits held made same are keeps drafted = record {
  edits = edits;
  are = subst (λ (graph : PlainGraph). edits_of changes graph ≡ Ok edits) same are;
  drafted = subst (λ (edits : List Edit). IsDrafted version edits made) keeps drafted;
}

pub taken_of : (graph other : PlainGraph) (edits held : List Edit) → graph ≡ other → held ≡ edits → IsOk (changed edits graph) → IsOk (changed held other)
taken_of graph other edits held same keeps taken =
    subst (λ (edits : List Edit). IsOk (changed edits other)) (sym keeps) (subst (λ (graph : PlainGraph). IsOk (changed edits graph)) same taken)

pub still_of : (edits held : List Edit) → held ≡ edits → ((name : List ℕ) → list_any (moves name) edits ≡ false) → (name : List ℕ) → list_any (moves name) held ≡ false
still_of edits held keeps still name = ap (list_any (moves name)) keeps ∙ still name
