-- Sets of places: a bit is set or cleared, and words without places follow.
use Rattle.std.proofs.Common.{◌≡◌, ℕ, ◌/◌, ◌%◌, ◌*◌, ◌^◌, ◌-◌, ◌<◌, ◌≤◌, ◌≢◌, ◌++◌, Bool, true, false, List, length, refl, ap, sym, ◌∙◌, inl, inr, arith, w64, subst, take, take_all, get_or, get_or-set_same, get_or-set_other}
use Rattle.std.specs.Prelude.{◌==◌, ◌&&◌, ◌||◌, not, slice_index, slice_set, replicate, bit_and, bit_or, if◌then◌else◌}
use Rattle.std.specs.Int.{bit_at, bit_not}
use Rattle.std.proofs.lemmas.Bool.{eqb-true, eqb-false, cases_Bool, cases_eq, cases_lt, cond-true, cond-false, or_right, and_right}
use Rattle.std.proofs.lemmas.Grind.{get_or_default_zero}
use Rattle.std.proofs.lemmas.List.{get_or_append_left, get_or-append_right, get_or-replicate, length-replicate}
use Rattle.std.proofs.lemmas.Nat.Bits.{bit_at-zero, bit_at_set_same, bit_at_set_other, bit_at_clear_same, bit_at_clear_other}
use Rattle.std.proofs.Math.Bool.{or-false}
use Rattle.std.proofs.Math.ListN.{get_or-eq_default}
use Rattle.rank_order.specs.PlaceSets.{is_within}

low : (place : ℕ) → place % 64 < 64
low place = omega arith

and_true : (b : Bool) → b ≡ (b && true)
and_true true = refl
and_true false = refl

module _ (words : List ℕ) (place : ℕ) (within : place / 64 < length words) (word : ℕ) where
  -- the place has its bit in the new word
  own_bit : is_within (slice_set words (place / 64) word) place ≡ (bit_at word (place % 64) == 1)
  own_bit = ap (λ w. bit_at w (place % 64) == 1) (get_or-set_same words (place / 64) word 0 within)

  -- and no other place is told by it
  other_bit : ((k : ℕ) → k < 64 → k ≢ place % 64 → bit_at word k ≡ bit_at (slice_index words (place / 64)) k) → (other : ℕ) → other ≢ place → is_within (slice_set words (place / 64) word) other ≡ is_within words other
  other_bit same other apart = elim (cases_eq (other / 64) (place / 64)) [
    | inl here ↦
        ap (λ i. bit_at (slice_index (slice_set words (place / 64) word) i) (other % 64) == 1) here
        ∙ ap (λ w. bit_at w (other % 64) == 1) (get_or-set_same words (place / 64) word 0 within)
        ∙ ap (λ b. b == 1) (same (other % 64) (low other) (λ equal. apart (omega (arith, here, equal))))
        ∙ ap (λ i. bit_at (slice_index words i) (other % 64) == 1) (sym here)
    | inr elsewhere ↦ ap (λ w. bit_at w (other % 64) == 1) (get_or-set_other words (place / 64) (other / 64) word 0 elsewhere)
  ]

pub inserted : (words : List ℕ) (place other : ℕ) → place / 64 < length words
    → is_within (slice_set words (place / 64) (bit_or (slice_index words (place / 64)) (1 * 2 ^ (place % 64) % 2 ^ 64))) other ≡ (is_within words other || other == place)
inserted words place other within = elim (cases_Bool (other == place)) [
  | inl same ↦
      ap (is_within (slice_set words (place / 64) word)) (eqb-true other place same)
      ∙ own_bit words place within word
      ∙ ap (λ b. b == 1) (bit_at_set_same w64 (slice_index words (place / 64)) (place % 64) (low place))
      ∙ sym (or_right (is_within words other) (other == place) same)
  | inr apart ↦
      other_bit words place within word (λ k below differ. bit_at_set_other w64 (slice_index words (place / 64)) (place % 64) (low place) k differ) other (eqb-false other place apart)
      ∙ sym (ap (λ b. is_within words other || b) apart ∙ or-false (is_within words other))
] where
  word : ℕ
  word = bit_or (slice_index words (place / 64)) (1 * 2 ^ (place % 64) % 2 ^ 64)

pub removed : (words : List ℕ) (place other : ℕ) → place / 64 < length words
    → is_within (slice_set words (place / 64) (bit_and (slice_index words (place / 64)) (bit_not w64 (1 * 2 ^ (place % 64) % 2 ^ 64)))) other ≡ (is_within words other && not (other == place))
removed words place other within = elim (cases_Bool (other == place)) [
  | inl same ↦
      ap (is_within (slice_set words (place / 64) word)) (eqb-true other place same)
      ∙ own_bit words place within word
      ∙ ap (λ b. b == 1) (bit_at_clear_same w64 (slice_index words (place / 64)) (place % 64) (low place))
      ∙ sym (and_right (is_within words other) (not (other == place)) (ap not same))
  | inr apart ↦
      other_bit words place within word (λ k below differ. bit_at_clear_other w64 (slice_index words (place / 64)) (place % 64) (low place) k below differ) other (eqb-false other place apart)
      ∙ and_true (is_within words other)
      ∙ ap (λ b. is_within words other && not b) (sym apart)
] where
  word : ℕ
  word = bit_and (slice_index words (place / 64)) (bit_not w64 (1 * 2 ^ (place % 64) % 2 ^ 64))

-- past the words there is no place
beyond : (words : List ℕ) (place : ℕ) → length words ≤ place / 64 → is_within words place ≡ false
beyond words place past = ap (λ w. bit_at w (place % 64) == 1) (get_or-eq_default words 0 past) ∙ ap (λ b. b == 1) (bit_at-zero (place % 64))

pub removed_beyond : (words : List ℕ) (place other : ℕ) → length words ≤ place / 64 → is_within words other ≡ (is_within words other && not (other == place))
removed_beyond words place other past = elim (cases_Bool (other == place)) [
  | inl same ↦ ap (is_within words) (eqb-true other place same) ∙ beyond words place past ∙ sym (and_right (is_within words other) (not (other == place)) (ap not same))
  | inr apart ↦ and_true (is_within words other) ∙ ap (λ b. is_within words other && not b) (sym apart)
]

zeros : (count i : ℕ) → slice_index (replicate count 0) i ≡ 0
zeros count i = elim (cases_lt i count) [
  | inl below ↦ get_or-replicate count i 0 0 below
  | inr past ↦ let long : length (replicate count 0) ≡ count = length-replicate {A = ℕ} count 0 in get_or-eq_default (replicate count 0) 0 (omega (arith, long, past))
]

kept_word : (words : List ℕ) (count i : ℕ) → slice_index (words ++ replicate count 0) i ≡ slice_index words i
kept_word words count i = elim (cases_lt i (length words)) [
  | inl here ↦ get_or_append_left words (replicate count 0) 0 i here
  | inr past ↦ get_or-append_right words (replicate count 0) (length words) i 0 refl past ∙ zeros count (i - length words) ∙ sym (get_or-eq_default words 0 past)
]

grown : (words : List ℕ) (count other : ℕ) → is_within (words ++ replicate count 0) other ≡ is_within words other
grown words count other = ap (λ w. bit_at w (other % 64) == 1) (kept_word words count (other / 64))

-- ---- as the words are written

module _ (words view : List ℕ) (at held place other : ℕ) (index : at ≡ place / 64) (same : words ≡ view) (is : held ≡ get_or words at held) (within : at < length words) where
  word_is : held ≡ slice_index words at
  word_is = is ∙ get_or_default_zero words at held within

  fits : place / 64 < length words
  fits = subst (λ i. i < length words) index within

  pub inserted_at : is_within (slice_set words at (bit_or held (1 * 2 ^ (place % 64) % 2 ^ 64))) other ≡ (is_within view other || other == place)
  inserted_at =
      ap (λ w. is_within (slice_set words at (bit_or w (1 * 2 ^ (place % 64) % 2 ^ 64))) other) word_is
      ∙ ap (λ i. is_within (slice_set words i (bit_or (slice_index words i) (1 * 2 ^ (place % 64) % 2 ^ 64))) other) index
      ∙ inserted words place other fits
      ∙ ap (λ (v : List ℕ). is_within v other || other == place) same

  pub removed_at : is_within (slice_set words at (bit_and held (bit_not w64 (1 * 2 ^ (place % 64) % 2 ^ 64)))) other ≡ (is_within view other && not (other == place))
  removed_at =
      ap (λ w. is_within (slice_set words at (bit_and w (bit_not w64 (1 * 2 ^ (place % 64) % 2 ^ 64)))) other) word_is
      ∙ ap (λ i. is_within (slice_set words i (bit_and (slice_index words i) (bit_not w64 (1 * 2 ^ (place % 64) % 2 ^ 64)))) other) index
      ∙ removed words place other fits
      ∙ ap (λ (v : List ℕ). is_within v other && not (other == place)) same

grown_if : (words : List ℕ) (ok : Bool) (count more other : ℕ) → length words ≤ count → is_within (if ok then take count words ++ replicate more 0 else words) other ≡ is_within words other
grown_if words ok count more other enough = elim (cases_Bool ok) [
  | inl taken ↦
      ap (λ (v : List ℕ). is_within v other) (cond-true ok (take count words ++ replicate more 0) words taken)
      ∙ ap (λ (v : List ℕ). is_within (v ++ replicate more 0) other) (take_all count words enough)
      ∙ grown words more other
  | inr stays ↦ ap (λ (v : List ℕ). is_within v other) (cond-false ok (take count words ++ replicate more 0) words stays)
]

pub grown_any : (words view new : List ℕ) (ok : Bool) (count more other : ℕ) → words ≡ view → length words ≤ count
    → new ≡ (if ok then take count words ++ replicate more 0 else words) → is_within new other ≡ is_within view other
grown_any words view new ok count more other same enough is =
    ap (λ (v : List ℕ). is_within v other) is
    ∙ grown_if words ok count more other enough
    ∙ ap (λ (v : List ℕ). is_within v other) same
