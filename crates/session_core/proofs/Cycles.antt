-- The test for cycles decides whether a graph is ranked.
use Rattle.std.proofs.Common.{◌≡◌, ℕ, zero, suc, ◌+◌, ◌<◌, Bool, true, false, ◌||◌, if◌then◌else◌, List, [], ◌∷◌, length, Option, get_or, refl, ap, sym, subst, ◌∙◌, arith, true≢false, Ok, Err}
use Rattle.std.proofs.lemmas.Bool.Decides.{nat_tests}
use Rattle.std.proofs.lemmas.List.FromFn.{length-range_with_len, get_or-range_with_len}
use Rattle.std.specs.Prelude.{Contains, Result}
use Rattle.std.specs.List.{list_any}
use Rattle.stage_graph.specs.declared.edit.Edit.{Edit}
use Rattle.stage_graph.specs.declared.stage.Stage.{Stage}
use Rattle.stage_graph.specs.declared.fault.Refused.{Refused}
use Rattle.stage_graph.specs.Plain.{PlainGraph, stage_at, feeds_at, all_places}
use Rattle.stage_graph.specs.Changes.{changed}
use Rattle.stage_graph.specs.Walk.{Walk, IsRanked}
use Rattle.stage_graph.specs.Order.{IsClosedWalk}
use Rattle.stage_graph.proofs.Ranked.{live_from_feed, not_ranked_from_closed_walk}
use Rattle.stage_graph.proofs.Placing.{place_from_live}
use Rattle.session_core.specs.declared.refusal.Refusal.{Refusal}
use Rattle.session_core.specs.declared.refusal.Refusal.TheVariants.{Cycle, Edits}
use Rattle.session_core.specs.Applied.{has_walk, has_cycle, settled, applied}

module _ {A : Type 0} (p : A → Bool) where
  or_first : (a b : Bool) → a ≡ true → (a || b) ≡ true
  or_first true b e = refl
  or_first false b e = absurd (true≢false (sym e))

  or_second : (a b : Bool) → b ≡ true → (a || b) ≡ true
  or_second true b e = refl
  or_second false b e = e

  any_at : (xs : List A) (x : A) (k : ℕ) → k < length xs → get_or xs k x ≡ x → p x ≡ true → list_any p xs ≡ true
  any_at [] x k low at is_so = absurd (omega (arith, low))
  any_at (y ∷ ys) x zero low at is_so = or_first (p y) (list_any p ys) (ap p at ∙ is_so)
  any_at (y ∷ ys) x (suc k) low at is_so = or_second (p y) (list_any p ys) (any_at ys x k (omega (arith, low)) at is_so)

  found_in : (x : A) (xs : List A) (b : Bool) → p x ≡ b → (list_any p xs ≡ true → (y : A) × Contains xs y × (p y ≡ true)) → list_any p (x ∷ xs) ≡ true
      → (y : A) × Contains (x ∷ xs) y × (p y ≡ true)
  found_in x xs true here later is_so = (x, (0, omega arith, refl), here)
  found_in x xs false here later is_so =
      let found = later (sym (ap (λ b. b || list_any p xs) here) ∙ is_so) in
      (found.0, (suc found.1.0, (let low = found.1.1 in omega (arith, low)), found.1.2), found.2)

  any_from : (xs : List A) → list_any p xs ≡ true → (x : A) × Contains xs x × (p x ≡ true)
  any_from [] is_so = absurd (true≢false (sym is_so))
  any_from (y ∷ ys) is_so = found_in y ys (p y) refl (any_from ys) is_so

module _ (places : List (Option Stage)) where
  walk_from_test : (steps place : ℕ) → has_walk places steps place ≡ true → Walk places steps place
  walk_from_test zero place is_so = grind (arith, nat_tests)
  walk_from_test (suc steps) place is_so =
      let next = any_from (has_walk places steps) (feeds_at places place) is_so in
      (next.0, next.1, walk_from_test steps next.0 next.2)

  test_from_walk : (steps place : ℕ) → Walk places steps place → has_walk places steps place ≡ true
  test_from_walk zero place walk = grind (arith, nat_tests)
  test_from_walk (suc steps) place (feed, (k, low, at), rest) = any_at (has_walk places steps) (feeds_at places place) feed k low at (test_from_walk steps feed rest)

  walk_within : (steps place : ℕ) → Walk places steps place → place < length places
  walk_within zero place walk = walk
  walk_within (suc steps) place (feed, here, rest) = place_from_live places place (live_from_feed (stage_at places place) feed here)

  pub ranked_from_test : has_cycle places ≡ false → IsRanked places
  ranked_from_test none place walk =
      let low : place < length places = walk_within (length places) place walk in
      let count = length-range_with_len 0 (length places) in
      let at : get_or (all_places places) place place ≡ place = get_or-range_with_len 0 (length places) place place low ∙ (let zero_more : 0 + place ≡ place = omega arith in zero_more) in
      true≢false (sym (any_at (has_walk places (length places)) (all_places places) place place (omega (arith, low, count)) at (test_from_walk (length places) place walk)) ∙ none)

  pub test_from_ranked : IsRanked places → has_cycle places ≡ false
  test_from_ranked ranked = by_test (has_cycle places) refl
    where
      by_test : (b : Bool) → has_cycle places ≡ b → has_cycle places ≡ false
      by_test true e = let some = any_from (has_walk places (length places)) (all_places places) e in absurd (ranked some.0 (walk_from_test (length places) some.0 some.2))
      by_test false e = e

  pub test_from_closed_walk : (path : List ℕ) → IsClosedWalk places path → has_cycle places ≡ true
  test_from_closed_walk path closed = by_test (has_cycle places) refl
    where
      by_test : (b : Bool) → has_cycle places ≡ b → has_cycle places ≡ true
      by_test true e = e
      by_test false e = absurd (not_ranked_from_closed_walk places path closed (ranked_from_test e))

unless_cycle : (graph : PlainGraph) (b : Bool) → has_cycle graph.places ≡ b → settled (Ok graph) ≡ (if b then Err Cycle else Ok graph)
unless_cycle graph b e = let both : Bool → Result PlainGraph Refusal = λ b. if b then Err Cycle else Ok graph in ap both e

-- what the edits make, where they make a graph without a cycle
pub applied_ok : (edits : List Edit) (graph made : PlainGraph) → changed edits graph ≡ Ok made → IsRanked made.places → applied edits graph ≡ Ok made
applied_ok edits graph made is ranked = ap settled is ∙ unless_cycle made false (test_from_ranked made.places ranked)

-- the refusal of an edit
pub applied_refused : (edits : List Edit) (graph : PlainGraph) (refused : Refused) → changed edits graph ≡ Err refused → applied edits graph ≡ Err (Edits refused)
applied_refused edits graph refused is = ap settled is

-- the refusal of a cycle
pub applied_cycle : (edits : List Edit) (graph made : PlainGraph) (path : List ℕ) → changed edits graph ≡ Ok made → IsClosedWalk made.places path → applied edits graph ≡ Err Cycle
applied_cycle edits graph made path is closed = ap settled is ∙ unless_cycle made true (test_from_closed_walk made.places path closed)

same_ok : (x y : PlainGraph) (r : Result PlainGraph Refusal) → r ≡ Ok x → r ≡ Ok y → x ≡ y
same_ok x y r a b = cc

not_both : (x : Refusal) (y : PlainGraph) (r : Result PlainGraph Refusal) → r ≡ Err x → r ≡ Ok y → ⊥
not_both x y r a b = cc

ranked_when_settled : (graph made : PlainGraph) (b : Bool) → has_cycle graph.places ≡ b → settled (Ok graph) ≡ Ok made → IsRanked made.places
ranked_when_settled graph made true test is = absurd (not_both Cycle made (settled (Ok graph)) (unless_cycle graph true test) is)
ranked_when_settled graph made false test is =
    subst (λ (g : PlainGraph). IsRanked g.places) (same_ok graph made (settled (Ok graph)) (unless_cycle graph false test) is) (ranked_from_test graph.places test)

ranked_by : (r : Result PlainGraph Refused) (made : PlainGraph) → settled r ≡ Ok made → IsRanked made.places
ranked_by (Ok graph) made is = ranked_when_settled graph made (has_cycle graph.places) refl is
ranked_by (Err refused) made is = absurd (not_both (Edits refused) made (settled (Err refused)) refl is)

-- a graph that the edits make has no cycle
pub ranked_from_applied : (edits : List Edit) (graph made : PlainGraph) → applied edits graph ≡ Ok made → IsRanked made.places
ranked_from_applied edits graph made is = ranked_by (changed edits graph) made is
