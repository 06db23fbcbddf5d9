-- A stage with names that passes each check makes a lawful stage.
use Rattle.std.proofs.Common.{Bool, true, ◌&&◌, ◌≡◌, ◌<◌, ℕ, List, length, Option, Some, None, Err, is_some, unwrap_or, not, sym, refl, ap, ◌∙◌, subst}
use Rattle.std.proofs.lemmas.List.{length-map}
use Rattle.std.proofs.lemmas.Bool.{ltb-true}
use Rattle.stage_graph.specs.declared.stage.Stage.{Stage}
use Rattle.stage_graph.specs.declared.stage.Spec.{Spec}
use Rattle.stage_graph.specs.Plain.{place_named}
use Rattle.stage_graph.specs.Checks.{checks_of, has_arity, fits_action, are_few, is_place, is_tick, is_pin, are_ends, is_within}
use Rattle.stage_graph.specs.Names.{places_of, stage_of}
use Rattle.stage_graph.specs.Sound.{IsLawful}
use Rattle.std.specs.Prelude.{All, ◌++◌}
use Rattle.stage_graph.specs.declared.fault.Refusal.{Refusal}
use Rattle.stage_graph.specs.Plain.{PlainGraph, IsLive}
use Rattle.stage_graph.specs.Checks.{are_known, first_refusal}
use Rattle.stage_graph.specs.declared.fault.EditFault.{EditFault}
use Rattle.stage_graph.specs.declared.fault.EditFault.TheVariants.{Refused, Memory}
use Rattle.stage_graph.specs.Edits.{IsAnswer, IsFaultOf, added, appended, allowed, unless_refused}
use Rattle.stage_graph.proofs.Lists.{same_function}
use Rattle.stage_graph.proofs.Keeping.{Passes, both, known_live}

-- the numbers of a stage that are within their limits
record Within (place : ℕ) (spec : Spec) : Type 0 where
  pub in_graph : is_place place ≡ true
  pub sources : are_few (length spec.sources) ≡ true
  pub inner : are_few (length spec.inner) ≡ true
  pub created : is_tick spec.created ≡ true
  pub queued : is_tick spec.queued ≡ true
  pub runs : is_tick spec.runs ≡ true
  pub pin : is_pin spec.pin_moment ≡ true
  pub ends : are_ends spec.ends ≡ true

within_parts : (place : ℕ) (spec : Spec) → is_within place spec ≡ true → Within place spec
within_parts place spec within =
    let one = both (is_place place) _ within in
    let two = both (are_few (length spec.sources)) _ one.1 in
    let three = both (are_few (length spec.inner)) _ two.1 in
    let four = both (is_tick spec.created) _ three.1 in
    let five = both (is_tick spec.queued) _ four.1 in
    let six = both (is_tick spec.runs) _ five.1 in
    let seven = both (is_pin spec.pin_moment) (are_ends spec.ends) six.1 in
    record { in_graph = one.0; sources = two.0; inner = three.0; created = four.0; queued = five.0; runs = six.0; pin = seven.0; ends = seven.1 }

module _ (free : Bool) (find : List ℕ → Option ℕ) (place : ℕ) (spec : Spec) (passes : Passes (checks_of free find place spec)) where
  pub within_places : place < 65536
  within_places = ltb-true place 65536 (within_parts place spec passes.within).in_graph

  pub lawful_stage : IsLawful (stage_of find place spec)
  lawful_stage =
      let arity = both (has_arity spec.op (length spec.sources) (length spec.inner)) (fits_action spec.op spec.action) passes.arity in
      let within = within_parts place spec passes.within in
      let many : (names : List (List ℕ)) → length (places_of find names) ≡ length names = λ names. length-map names (λ name. unwrap_or (find name) 0) in
      record {
        named = passes.named;
        arity = rw (many spec.sources, many spec.inner) arity.0;
        acts = arity.1;
        few_sources = rw (many spec.sources) within.sources;
        few_inner = rw (many spec.inner) within.inner;
        created = within.created;
        queued = within.queued;
        runs = within.runs;
        pin = within.pin;
        ends = within.ends;
        in_time = passes.in_time;
        times = passes.acts;
        sized = passes.action;
      }

-- what is not found is nowhere
pub not_found : (found : Option ℕ) → not (is_some found) ≡ true → found ≡ None
not_found None free = refl
not_found (Some k) free = cc

-- feeds that are found by name are live
pub found_live : (places : List (Option Stage)) (find : List ℕ → Option ℕ) → ((name : List ℕ) → find name ≡ place_named places name) → (sources inner : List (List ℕ))
    → (are_known find sources && are_known find inner) ≡ true → All (IsLive places) (places_of find sources ++ places_of find inner)
found_live places find same sources inner known =
    subst (λ (find : List ℕ → Option ℕ). (are_known find sources && are_known find inner) ≡ true → All (IsLive places) (places_of find sources ++ places_of find inner))
    (sym (same_function same)) (known_live places sources inner) known

-- the answer of an addition, by what was found and checked
pub add_answer : (graph : PlainGraph) (spec : Spec) (find : List ℕ → Option ℕ) (free : Bool) (place : ℕ) → ((name : List ℕ) → find name ≡ place_named graph.places name)
    → free ≡ not (is_some (place_named graph.places spec.name)) → place ≡ length graph.places → (refusal : Option Refusal) → refusal ≡ first_refusal (checks_of free find place spec)
    → added spec graph ≡ unless_refused refusal (appended graph (stage_of find place spec))
add_answer graph spec find free place same is end refusal checked =
    ap (λ (find : List ℕ → Option ℕ). allowed (checks_of (not (is_some (place_named graph.places spec.name))) find (length graph.places) spec) (appended graph (stage_of find (length graph.places) spec))) (sym (same_function same))
    ∙ ap (λ (free : Bool). allowed (checks_of free find (length graph.places) spec) (appended graph (stage_of find (length graph.places) spec))) (sym is)
    ∙ ap (λ (place : ℕ). allowed (checks_of free find place spec) (appended graph (stage_of find place spec))) (sym end)
    ∙ ap (λ (refusal : Option Refusal). unless_refused refusal (appended graph (stage_of find place spec))) (sym checked)

-- a refused addition
pub add_refused : (graph : PlainGraph) (spec : Spec) (find : List ℕ → Option ℕ) (free : Bool) (place : ℕ) → ((name : List ℕ) → find name ≡ place_named graph.places name)
    → free ≡ not (is_some (place_named graph.places spec.name)) → place ≡ length graph.places → (fault : EditFault) → IsFaultOf (first_refusal (checks_of free find place spec)) fault
    → IsAnswer {A = PlainGraph} (Err fault) (added spec graph)
add_refused graph spec find free place same is end (Refused refusal) checked = add_answer graph spec find free place same is end (Some refusal) (sym checked)
add_refused graph spec find free place same is end Memory checked = tt
