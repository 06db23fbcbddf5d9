-- The first of the dependents of a place is the first place whose stage has it as a feed.
use Rattle.std.proofs.Common.{Bool, true, false, cond, ◌≡◌, ◌<◌, ◌≤◌, ◌+◌, ℕ, suc, zero, inl, inr, List, [], ◌∷◌, length, Option, Some, None, refl, sym, ap, ◌∙◌, slice_get, arith}
use Rattle.std.specs.List.{filter, range_with_len}
use Rattle.std.proofs.lemmas.Bool.{cases_lt}
use Rattle.std.proofs.lemmas.Option.{same_Some}
use Rattle.stage_graph.specs.declared.stage.Stage.{Stage}
use Rattle.stage_graph.specs.Plain.{stage_at, uses, dependents}
use Rattle.stage_graph.specs.Edits.{first_dependent}
use Rattle.stage_graph.proofs.Positions.{position_is, position_none}

module _ (test : ℕ → Bool) where
  -- the first of the numbers from here on that pass the test
  record IsFirstOf (from count first : ℕ) : Type 0 where
    after : from ≤ first
    within : first < from + count
    passes : test first ≡ true
    before : (k : ℕ) → from ≤ k → k < first → test k ≡ false

  first_of : (from count first : ℕ) → slice_get (filter test (range_with_len from count)) 0 ≡ Some first → IsFirstOf from count first
  first_of from zero first is = cc
  first_of from (suc count) first is = by_head (test from) refl (first_of (from + 1) count first) is where
    by_head : (passes : Bool) → test from ≡ passes
        → (slice_get (filter test (range_with_len (from + 1) count)) 0 ≡ Some first → IsFirstOf (from + 1) count first)
        → slice_get (cond passes (from ∷ filter test (range_with_len (from + 1) count)) (filter test (range_with_len (from + 1) count))) 0 ≡ Some first
        → IsFirstOf from (suc count) first
    by_head true at later is =
        let same : from ≡ first = same_Some from first is in
        record { after = omega arith; within = omega arith; passes = ap test (sym same) ∙ at; before = λ k past short. absurd (omega arith) }
    by_head false at later is =
        let rest = later is in
        record {
          after = omega (arith, rest.after);
          within = omega (arith, rest.within);
          passes = rest.passes;
          before = λ k past short. elim (cases_lt from k) [
            | inl more ↦ rest.before k (omega (arith, more)) short
            | inr less ↦ let same : from ≡ k = omega (arith, past, less) in ap test (sym same) ∙ at
          ];
        }

  none_of : (from count : ℕ) → slice_get (filter test (range_with_len from count)) 0 ≡ None → (k : ℕ) → from ≤ k → k < from + count → test k ≡ false
  none_of from zero is k past short = absurd (omega arith)
  none_of from (suc count) is k past short = by_head (test from) refl (λ none more. none_of (from + 1) count none k more (omega (arith, short))) is where
    by_head : (passes : Bool) → test from ≡ passes
        → (slice_get (filter test (range_with_len (from + 1) count)) 0 ≡ None → from + 1 ≤ k → test k ≡ false)
        → slice_get (cond passes (from ∷ filter test (range_with_len (from + 1) count)) (filter test (range_with_len (from + 1) count))) 0 ≡ None
        → test k ≡ false
    by_head true at later is = cc
    by_head false at later is = elim (cases_lt from k) [
      | inl more ↦ later is (omega (arith, more))
      | inr less ↦ let same : from ≡ k = omega (arith, past, less) in ap test (sym same) ∙ at
    ]

-- the first of the dependents is the first place with this feed
pub heads_dependents : (places : List (Option Stage)) (place : ℕ) → slice_get (dependents places place) 0 ≡ first_dependent places place
heads_dependents places place = by_first (slice_get (dependents places place) 0) refl where
  by_first : (first : Option ℕ) → slice_get (dependents places place) 0 ≡ first → first ≡ first_dependent places place
  by_first (Some dependent) is =
      let first = first_of (λ dependent. uses place (stage_at places dependent)) 0 (length places) dependent is in
      sym (position_is (uses place) places dependent None (omega (arith, first.within)) (λ k short. first.before k (omega arith) short) first.passes)
  by_first None is =
      sym (position_none (uses place) places None (λ k short. none_of (λ dependent. uses place (stage_at places dependent)) 0 (length places) is k (omega arith) (omega (arith, short))))
