-- One turn of settling ranks: the first of the marked places is processed.
use Rattle.std.proofs.Common.{◌≡◌, ◌≢◌, ℕ, ◌<◌, ◌⊎◌, Bool, true, false, List, [], length, map, get_or, set, Option, refl, ap, sym, ◌∙◌, subst, inl, inr}
use Rattle.std.specs.Prelude.{Contains, slice_index, not, ◌==◌, ◌&&◌, ◌||◌, if◌then◌else◌}
use Rattle.std.proofs.lemmas.Bool.{cases_eq, true≢false, false≢true, eq-eqb, ne_eqb, eqb-true, cond-true, cond-false, and_parts, and_from, or_cases, or_parts, not-true, not_from_false, eqb-false}
use Rattle.std.proofs.lemmas.List.{get_or-set_same, get_or-set_other}
use Rattle.stage_graph.specs.declared.stage.Stage.{Stage}
use Rattle.stage_graph.specs.Plain.{feeds_at, all_places, dependents}
use Rattle.stage_graph.specs.Walk.{above_all}
use Rattle.rank_order.specs.Lists.{is_among}
use Rattle.rank_order.specs.Ranking.{feeds_left}
use Rattle.rank_order.specs.Marks.{IsFirst}
use Rattle.rank_order.proofs.Members.{among_contains, contains_among}
use Rattle.rank_order.proofs.Listed.{among_dependents, dependents_listed}
use Rattle.rank_order.proofs.PutBack.{left_in, left_feed, left_stays}
use Rattle.rank_order.proofs.Settling.{IsStep}

-- one rank set in a list of ranks
pub rank_set : (ranks : List ℕ) (place rank : ℕ) → place < length ranks → (other : ℕ) → slice_index (set ranks place rank) other ≡ (if other == place then rank else slice_index ranks other)
rank_set ranks place rank within other = elim (cases_eq other place) [
  | inl same ↦ ap (slice_index (set ranks place rank)) same ∙ get_or-set_same ranks place rank 0 within ∙ sym (cond-true (other == place) rank (slice_index ranks other) (eq-eqb other place same))
  | inr apart ↦ get_or-set_other ranks place other rank 0 apart ∙ sym (cond-false (other == place) rank (slice_index ranks other) (ne_eqb other place apart))
]

-- the stored list of a place's dependents
pub dependents_are : (places : List (Option Stage)) (lists : List (List ℕ)) (place : ℕ) (its_dependents : List ℕ) → lists ≡ map (dependents places) (all_places places) → place < length places → its_dependents ≡ get_or lists place [] → its_dependents ≡ dependents places place
dependents_are places lists place its_dependents kept within is = is ∙ ap (λ (xs : List (List ℕ)). get_or xs place []) kept ∙ dependents_listed places place within

-- the places that are marked at first
pub only_these : (was told among : Bool) → was ≡ false → told ≡ (was || (among && not false)) → told ≡ among
only_these was told true none is = is ∙ ap (λ b. b || true) none
only_these was told false none is = is ∙ ap (λ b. b || false) none

-- one more of the places, which is not removed, is marked
pub mark_joined : (was among same kept : Bool) → (same ≡ true → kept ≡ true) → ((was || (among && kept)) || same) ≡ (was || ((among || same) && kept))
mark_joined true among same kept told = refl
mark_joined false true same true told = refl
mark_joined false true true false told = absurd (false≢true (told refl))
mark_joined false true false false told = refl
mark_joined false false true kept told = sym (told refl)
mark_joined false false false kept told = refl

-- one more of the places is marked already
pub mark_kept : (was among same kept : Bool) → (same ≡ true → (was || (among && kept)) ≡ true) → (was || (among && kept)) ≡ (was || ((among || same) && kept))
mark_kept true among same kept told = refl
mark_kept false true same kept told = refl
mark_kept false false true kept told = absurd (false≢true (told refl))
mark_kept false false false kept told = refl

-- exactly this place was removed from the marks
gone : (marked left same : Bool) → left ≡ (marked && not same) → left ≡ false → (marked ≡ false) ⊎ (same ≡ true)
gone true left true is none = inr refl
gone true left false is none = absurd (true≢false (sym is ∙ none))
gone false left same is none = inl refl

stays : (marked left same : Bool) → left ≡ (marked && not same) → left ≡ true → (marked ≡ true) × (same ≡ false)
stays true left true is has = absurd (false≢true (sym is ∙ has))
stays true left false is has = (refl, refl)
stays false left same is has = absurd (false≢true (sym is ∙ has))

module _ (places : List (Option Stage)) (out moved : List ℕ) (before now : ℕ → ℕ) (marked left : ℕ → Bool) (place : ℕ) (first : IsFirst before marked left place) where
  left_or_place : (other : ℕ) → left other ≡ false → (marked other ≡ false) ⊎ (other ≡ place)
  left_or_place other none = elim (gone (marked other) (left other) (other == place) (first.rest other) none) [ inl was ↦ inl was | inr same ↦ inr (eqb-true other place same) ]

  left_was : (other : ℕ) → left other ≡ true → (marked other ≡ true) × (other ≢ place)
  left_was other has = let (was, apart) = stays (marked other) (left other) (other == place) (first.rest other) has in (was, eqb-false other place apart)

  -- the rank stays
  pub rank_stays : (count : ℕ) → above_all now (feeds_left places out place) ≡ now place → IsStep (feeds_left places out) count moved before marked left now now place
  rank_stays count same = record {
    here = first.here;
    least = first.least;
    hold = λ other. elim (cases_eq other place) [
      | inl equal ↦ sym (cond-true (other == place) (above_all now (feeds_left places out place)) (now other) (eq-eqb other place equal) ∙ same ∙ ap now (sym equal))
      | inr apart ↦ sym (cond-false (other == place) (above_all now (feeds_left places out place)) (now other) (ne_eqb other place apart))
    ];
    come = λ other has. inl (left_was other has);
    go = left_or_place;
    dependents_marked = λ other none has. same;
  }

  -- the rank changes, and the dependents that are in the graph are marked
  pub rank_changes : (count : ℕ) (now_marked : ℕ → Bool) (next : ℕ → ℕ) (its_dependents : List ℕ) → above_all now (feeds_left places out place) ≢ now place → its_dependents ≡ dependents places place
      → ((dependent : ℕ) → is_among dependent its_dependents ≡ true → is_among dependent out ≡ false → is_among dependent moved ≡ false)
      → ((other : ℕ) → next other ≡ (if other == place then above_all now (feeds_left places out place) else now other))
      → ((other : ℕ) → now_marked other ≡ (left other || (is_among other its_dependents && not (is_among other out))))
      → IsStep (feeds_left places out) count moved before marked now_marked now next place
  rank_changes count now_marked next its_dependents changed dependents_are apart hold told = record {
    here = first.here;
    least = first.least;
    hold = hold;
    come = λ other has. elim (or_cases (left other) (is_among other its_dependents && not (is_among other out)) (sym (told other) ∙ has)) [
      | inl was ↦ inl (left_was other was)
      | inr dependent ↦
          let (among, kept) = and_parts (is_among other its_dependents) (not (is_among other out)) dependent in
          let in_graph : is_among other out ≡ false = not-true (is_among other out) kept in
          inr (changed, dependent_feed other among in_graph, apart other among in_graph)
    ];
    go = λ other none. left_or_place other (or_parts (left other) (is_among other its_dependents && not (is_among other out)) (sym (told other) ∙ none)).0;
    dependents_marked = λ other none has.
        let dependent : (is_among other its_dependents && not (is_among other out)) ≡ true = and_from (is_among other its_dependents) (not (is_among other out)) (feed_dependent other has) (not_from_false (is_among other out) (left_in places out other place has)) in
        absurd (true≢false (sym dependent ∙ (or_parts (left other) (is_among other its_dependents && not (is_among other out)) (sym (told other) ∙ none)).1));
  } where
    dependent_feed : (other : ℕ) → is_among other its_dependents ≡ true → is_among other out ≡ false → Contains (feeds_left places out other) place
    dependent_feed other among in_graph =
        subst (λ xs. Contains xs place) (sym (left_stays places out other in_graph))
        (among_contains place (feeds_at places other) (sym (among_dependents places place other) ∙ ap (is_among other) (sym dependents_are) ∙ among))

    feed_dependent : (other : ℕ) → Contains (feeds_left places out other) place → is_among other its_dependents ≡ true
    feed_dependent other has = ap (is_among other) dependents_are ∙ among_dependents places place other ∙ contains_among place (feeds_at places other) (left_feed places out other place has)
