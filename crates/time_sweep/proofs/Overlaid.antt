-- The states of a trial: those that it has changed, over those of the version.
use Rattle.std.proofs.Common.{◌≡◌, ◌<◌, ◌≤◌, ℕ, zero, suc, List, [], ◌∷◌, ◌++◌, true, false, Option, Some, None, length, refl, ap, sym, ◌∙◌, arith, unwrap_or, ⊎_elim}
use Rattle.std.specs.Prelude.{slice_get, slice_set, ◌==◌, if◌then◌else◌}
use Rattle.std.specs.Option.{option_and_then}
use Rattle.std.proofs.lemmas.Bool.{cases_lt, cases_Bool, eqb-true, eq-eqb, cond-true, cond-false, or_parts}
use Rattle.std.proofs.lemmas.List.{get_or_past}
use Rattle.std.proofs.lemmas.Option.{slice_get-get_or, slice_get_past}
use Rattle.stage_graph.proofs.Lists.{same_function}
use Rattle.stage_ops.specs.declared.state.State.{State}
use Rattle.stage_ops.specs.States.{pending, seen_at, seen_of, state_at}
use Rattle.rank_order.specs.Lists.{is_among}
use Rattle.propagate.proofs.Members.{flip_eq}
use Rattle.time_sweep.specs.declared.changes.Change.{Change}
use Rattle.time_sweep.specs.Changed.{change_of, changed_places, state_in, states_in}
use Rattle.time_sweep.proofs.Knowing.{by_place_at, by_place_long}

module _ (before : List State) (at : List ℕ) (list : List Change) where
  pub states_long : length (states_in before at list) ≡ length before
  states_long = by_place_long (state_in before at list) (length before) (states_in before at list) refl

  pub state_within : (place : ℕ) → place < length before → slice_get (states_in before at list) place ≡ Some (state_in before at list place)
  state_within place within =
      let long = states_long in
      let inside : place < length (states_in before at list) = omega arith in
      slice_get-get_or (states_in before at list) place pending inside
      ∙ ap (λ (state : State). Some state) (by_place_at (state_in before at list) (length before) (states_in before at list) refl place pending within)

  module _ (each : length at ≡ length before) where
    past_unchanged : (place : ℕ) → length before ≤ place → state_in before at list place ≡ pending
    past_unchanged place past =
        let beyond : length at ≤ place = omega arith in
        ap (λ (index : Option ℕ). unwrap_or (option_and_then (λ k. change_of place (slice_get list k)) index) (state_at before place)) (slice_get_past at place beyond)
        ∙ get_or_past before place pending past

    pub state_anywhere : (place : ℕ) → state_at (states_in before at list) place ≡ state_in before at list place
    state_anywhere place =
        ⊎_elim
        (λ within. by_place_at (state_in before at list) (length before) (states_in before at list) refl place pending within)
        (λ past.
        let long = states_long in
        let beyond : length (states_in before at list) ≤ place = omega (arith, past, long) in
        get_or_past (states_in before at list) place pending beyond ∙ sym (past_unchanged place past))
        (cases_lt place (length before))

    pub sees_same : seen_at (state_at (states_in before at list)) ≡ seen_at (state_in before at list)
    sees_same = same_function (λ place. ap seen_of (state_anywhere place))

-- nothing is changed where the list is empty
pub nothing_changed : (before : List State) (at : List ℕ) (list : List Change) → list ≡ [] → (place : ℕ) → state_in before at list place ≡ state_at before place
nothing_changed before at list none place = ap (λ (list : List Change). state_in before at list place) none ∙ empty (slice_get at place) where
  empty : (index : Option ℕ) → unwrap_or (option_and_then (λ k. change_of place (slice_get [] k)) index) (state_at before place) ≡ state_at before place
  empty None = refl
  empty (Some k) = refl

-- one change more
pushed_get : (list : List Change) (k : ℕ) (change : Change) → k < length list → slice_get (list ++ change ∷ []) k ≡ slice_get list k
pushed_get [] k change within = absurd (omega arith)
pushed_get (first ∷ list) zero change within = refl
pushed_get (first ∷ list) (suc k) change within = pushed_get list k change (omega arith)

pushed_last : (list : List Change) (change : Change) → slice_get (list ++ change ∷ []) (length list) ≡ Some change
pushed_last [] change = refl
pushed_last (first ∷ list) change = pushed_last list change

other_change : (change : Change) (place : ℕ) → (change.place == place) ≡ false → change_of place (Some change) ≡ None
other_change change place other = cond-false (change.place == place) (Some change.state) None other

own_change : (change : Change) (place : ℕ) → (change.place == place) ≡ true → change_of place (Some change) ≡ Some change.state
own_change change place own = cond-true (change.place == place) (Some change.state) None own

module _ (list : List Change) (change : Change) where
  -- what another place had changed stays
  kept_other : (place k : ℕ) → (change.place == place) ≡ false → change_of place (slice_get (list ++ change ∷ []) k) ≡ change_of place (slice_get list k)
  kept_other place k other =
      ⊎_elim
      (λ within. ap (change_of place) (pushed_get list k change within))
      (λ past. at_end place k other past)
      (cases_lt k (length list)) where
        after : (xs : List Change) (k place : ℕ) → (change.place == place) ≡ false → length xs ≤ k → change_of place (slice_get (xs ++ change ∷ []) k) ≡ None
        after [] zero place other past = other_change change place other
        after [] (suc k) place other past = refl
        after (first ∷ xs) zero place other past = absurd (omega arith)
        after (first ∷ xs) (suc k) place other past = after xs k place other (omega arith)

        at_end : (place k : ℕ) → (change.place == place) ≡ false → length list ≤ k → change_of place (slice_get (list ++ change ∷ []) k) ≡ change_of place (slice_get list k)
        at_end place k other past = after list k place other past ∙ sym (ap (change_of place) (slice_get_past list k past))

module _ (before : List State) (at : List ℕ) (list : List Change) (place : ℕ) (state : State) (within : place < length at) where
  abbrev pub grown : List Change
  grown = list ++ (record { place = place; state = state }) ∷ []

  slice_at : (other : ℕ) → (other ≡ place → slice_get (slice_set at place (length list)) other ≡ Some (length list)) × ((other ≡ place → ⊥) → slice_get (slice_set at place (length list)) other ≡ slice_get at other)
  slice_at other = (at_place, at_other) where
    get_set : (xs : List ℕ) (k x : ℕ) → k < length xs → slice_get (slice_set xs k x) k ≡ Some x
    get_set [] k x short = absurd (omega arith)
    get_set (y ∷ xs) zero x short = refl
    get_set (y ∷ xs) (suc k) x short = get_set xs k x (omega arith)

    get_other : (xs : List ℕ) (k j x : ℕ) → (j ≡ k → ⊥) → slice_get (slice_set xs k x) j ≡ slice_get xs j
    get_other [] k j x differ = refl
    get_other (y ∷ xs) zero zero x differ = absurd (differ refl)
    get_other (y ∷ xs) zero (suc j) x differ = refl
    get_other (y ∷ xs) (suc k) zero x differ = refl
    get_other (y ∷ xs) (suc k) (suc j) x differ = get_other xs k j x (λ e. differ (ap suc e))

    at_place : other ≡ place → slice_get (slice_set at place (length list)) other ≡ Some (length list)
    at_place same = ap (slice_get (slice_set at place (length list))) same ∙ get_set at place (length list) within

    at_other : (other ≡ place → ⊥) → slice_get (slice_set at place (length list)) other ≡ slice_get at other
    at_other differ = get_other at place other (length list) differ

  pub overlaid : (other : ℕ) → state_in before (slice_set at place (length list)) grown other ≡ (if place == other then state else state_in before at list other)
  overlaid other =
      ⊎_elim
      (λ same.
      let e : place ≡ other = eqb-true place other same in
      ap (λ (index : Option ℕ). unwrap_or (option_and_then (λ k. change_of other (slice_get grown k)) index) (state_at before other)) ((slice_at other).0 (sym e))
      ∙ ap (λ (change : Option Change). unwrap_or (change_of other change) (state_at before other)) (pushed_last list (record { place = place; state = state }))
      ∙ ap (λ (found : Option State). unwrap_or found (state_at before other)) (own_change (record { place = place; state = state }) other same)
      ∙ sym (cond-true (place == other) state (state_in before at list other) same))
      (λ apart.
      ap (λ (index : Option ℕ). unwrap_or (option_and_then (λ k. change_of other (slice_get grown k)) index) (state_at before other))
      ((slice_at other).1 (λ e. true_false (sym (eq-eqb place other (sym e)) ∙ apart)))
      ∙ ap (λ (found : Option State). unwrap_or found (state_at before other)) (kept (slice_get at other) other apart)
      ∙ sym (cond-false (place == other) state (state_in before at list other) apart))
      (cases_Bool (place == other)) where
        true_false : true ≡ false → ⊥
        true_false e = cc

        kept : (index : Option ℕ) (other : ℕ) → (place == other) ≡ false
            → option_and_then (λ k. change_of other (slice_get grown k)) index ≡ option_and_then (λ k. change_of other (slice_get list k)) index
        kept None other apart = refl
        kept (Some k) other apart = kept_other list (record { place = place; state = state }) other k apart

-- the changed places, with one more
pub places_more : (list : List Change) (change : Change) → changed_places (list ++ change ∷ []) ≡ changed_places list ++ change.place ∷ []
places_more [] change = refl
places_more (first ∷ list) change = ap (λ places. first.place ∷ places) (places_more list change)

pub places_long : (list : List Change) → length (changed_places list) ≡ length list
places_long [] = refl
places_long (first ∷ list) = ap suc (places_long list)

-- a place that is not changed has the state that it had
module _ (before : List State) (at : List ℕ) (list : List Change) (place : ℕ) (other : is_among place (changed_places list) ≡ false) where
  none_of : (changes : List Change) (k : ℕ) → is_among place (changed_places changes) ≡ false → change_of place (slice_get changes k) ≡ None
  none_of [] k apart = refl
  none_of (first ∷ changes) zero apart = other_change first place (flip_eq first.place place ∙ (or_parts (place == first.place) (is_among place (changed_places changes)) apart).0)
  none_of (first ∷ changes) (suc k) apart = none_of changes k (or_parts (place == first.place) (is_among place (changed_places changes)) apart).1

  not_changed : (index : Option ℕ) → option_and_then (λ k. change_of place (slice_get list k)) index ≡ None
  not_changed None = refl
  not_changed (Some k) = none_of list k other

  pub unchanged : state_in before at list place ≡ state_at before place
  unchanged = ap (λ (found : Option State). unwrap_or found (state_at before place)) (not_changed (slice_get at place))
