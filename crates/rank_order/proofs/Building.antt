-- The ranks of a whole graph, each found after those of its feeds.
use Rattle.std.proofs.Common.{◌≡◌, ℕ, ◌+◌, ◌<◌, ◌≤◌, ◌⊎◌, List, [], length, map, take, get_or, set, Option, Some, None, is_some, refl, ap, sym, ◌∙◌, subst, inl, inr, arith}
use Rattle.std.specs.Prelude.{All, Contains}
use Rattle.std.proofs.lemmas.Bool.{cases_eq, cases_lt}
use Rattle.std.proofs.lemmas.List.{length-set, get_or-set_same, get_or-set_other, take_all, set_past}
use Rattle.std.proofs.lemmas.List.Elements.{All-contains, All-more, All-weaker}
use Rattle.stage_graph.specs.declared.stage.Stage.{Stage}
use Rattle.stage_graph.specs.Plain.{stage_at, feeds_at, IsLive, all_places}
use Rattle.stage_graph.specs.Walk.{above_all, rank, IsRanked}
use Rattle.stage_graph.specs.Order.{IsFeedsFirst}
use Rattle.stage_graph.proofs.Placing.{place_from_live}
use Rattle.rank_order.proofs.Listed.{same_above, rank_le, rank_is_above, empty_rank, ranks_listed}

-- each rank is 0 or right, and right at these places
pub record AreRanksSoFar (places : List (Option Stage)) (found ranks : List ℕ) : Type 0 where
  pub long : length ranks ≡ length places
  pub either : (place : ℕ) → (get_or ranks place 0 ≡ 0) ⊎ (get_or ranks place 0 ≡ rank places place)
  pub right : All (λ place. get_or ranks place 0 ≡ rank places place) found

module _ (places : List (Option Stage)) where
  pub found_none : (ranks : List ℕ) → length ranks ≡ length places → ((place : ℕ) → get_or ranks place 0 ≡ 0) → AreRanksSoFar places [] ranks
  found_none ranks long zeros = record { long = long; either = λ place. inl (zeros place); right = λ k d short. absurd (omega arith) }

  pub found_small : (found ranks : List ℕ) → AreRanksSoFar places found ranks → (place : ℕ) → get_or ranks place 0 ≤ length places
  found_small found ranks are place = elim (are.either place) [ inl none ↦ omega arith | inr right ↦ omega (arith, rank_le places place) ]

  -- the rank of one more place, of which the feeds have theirs
  pub found_more : (order : List ℕ) (i : ℕ) (ranks : List ℕ) (told : ℕ) → IsRanked places → IsFeedsFirst places order → i < length order
      → AreRanksSoFar places (take i order) ranks → told ≡ above_all (λ place. get_or ranks place 0) (feeds_at places (get_or order i 0))
      → AreRanksSoFar places (take (i + 1) order) (set ranks (get_or order i 0) told)
  found_more order i ranks told ranked first within are is =
      let place = get_or order i 0 in
      let now : ℕ → ℕ = λ other. get_or ranks other 0 in
      let right : told ≡ rank places place =
      is ∙ same_above now (rank places) (feeds_at places place) (λ feed here.
      All-contains (λ other. get_or ranks other 0 ≡ rank places other) (take i order) feed are.right (All-contains (Contains (take i order)) (feeds_at places place) feed (first.feeds i within) here))
      ∙ sym (rank_is_above places ranked place) in
      let after : (other : ℕ) → (get_or (set ranks place told) other 0 ≡ get_or ranks other 0) ⊎ (get_or (set ranks place told) other 0 ≡ rank places other) =
      set_or_right place ranks told right in
      record {
        long = length-set ranks place told ∙ are.long;
        either = λ other. elim (after other) [
          | inl same ↦ elim (are.either other) [ inl none ↦ inl (same ∙ none) | inr was ↦ inr (same ∙ was) ]
          | inr now ↦ inr now
        ];
        right = All-more (λ other. get_or (set ranks place told) other 0 ≡ rank places other) order i 0 within
            (All-weaker (λ other. get_or ranks other 0 ≡ rank places other) (λ other. get_or (set ranks place told) other 0 ≡ rank places other)
            (λ other was. elim (after other) [ inl same ↦ same ∙ was | inr now ↦ now ]) (take i order) are.right)
            (get_or-set_same ranks place told 0 (live_within place (first.live i 0 within) ranks are.long) ∙ right);
      } where
        live_within : (place : ℕ) → IsLive places place → (ranks : List ℕ) → length ranks ≡ length places → place < length ranks
        live_within place live ranks long = let within : place < length places = place_from_live places place live in omega arith

        set_or_right : (place : ℕ) (ranks : List ℕ) (told : ℕ) → told ≡ rank places place → (other : ℕ)
            → (get_or (set ranks place told) other 0 ≡ get_or ranks other 0) ⊎ (get_or (set ranks place told) other 0 ≡ rank places other)
        set_or_right place ranks told right other = elim (cases_eq other place) [
          | inl same ↦ elim (cases_lt place (length ranks)) [
            | inl inside ↦ inr (ap (λ n. get_or (set ranks place told) n 0) same ∙ get_or-set_same ranks place told 0 inside ∙ right ∙ ap (rank places) (sym same))
            | inr past ↦ inl (ap (λ xs. get_or xs other 0) (set_past ranks place told past))
          ]
          | inr apart ↦ inl (get_or-set_other ranks place other told 0 apart)
        ]

  -- when all places of the order are done, all ranks are right
  pub found_all : (order : List ℕ) (i : ℕ) (ranks : List ℕ) → IsFeedsFirst places order → length order ≤ i → AreRanksSoFar places (take i order) ranks → ranks ≡ map (rank places) (all_places places)
  found_all order i ranks first past are =
      ranks_listed places ranks are.long (λ place. by_stage place (stage_at places place) refl) where
        by_stage : (place : ℕ) (here : Option Stage) → stage_at places place ≡ here → get_or ranks place 0 ≡ rank places place
        by_stage place None empty = elim (are.either place) [ inl none ↦ none ∙ sym (empty_rank places place empty) | inr right ↦ right ]
        by_stage place (Some stage) live =
            let taken : Contains (take i order) place = subst (λ (xs : List ℕ). Contains xs place) (sym (take_all i order past)) (first.all place (ap is_some live)) in
            All-contains (λ other. get_or ranks other 0 ≡ rank places other) (take i order) place are.right taken
