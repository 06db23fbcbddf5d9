-- The results of the trials together.
use Rattle.std.proofs.Common.{◌≡◌, ◌+◌, ◌*◌, ◌<◌, ◌≤◌, ℕ, zero, suc, List, [], ◌∷◌, ◌++◌, Option, None, Result, Ok, Err, length, get_or, take, drop, refl, ap, sym, ◌∙◌, arith, append-nil, ⊎_elim}
use Rattle.std.specs.Prelude.{All, IfOk, IsOk, Vec, filter_map, ◌/◌, ◌%◌, ◌==◌, false}
use Rattle.std.specs.Global.{Global}
use Rattle.std.specs.List.{AllZip, cons_option, flat_map, range_with_len}
use Rattle.std.proofs.Math.Nat.{mul-le-mul_right, mul-mod_left}
use Rattle.std.proofs.lemmas.Bool.{cases_lt, cond-false, cond-true, eq-eqb, eqb-true}
use Rattle.std.proofs.lemmas.Nat.{div-add-mod'}
use Rattle.std.proofs.lemmas.Grind.{flat_map-append}
use Rattle.std.proofs.lemmas.List.{take-append-drop, take_more}
use Rattle.std.proofs.lemmas.List.Elements.{All-head, All-tail, filter_map-append}
use Rattle.propagate.proofs.Members.{false_unless}
use Rattle.time_sweep.specs.declared.trial.Trial.{Trial}
use Rattle.time_sweep.specs.Tried.{GiveAll, part_of, trials_in}
use Rattle.time_sweep.proofs.Hurrying.{range_more}

pub all_tried : {E : Type 0} (trials : ℕ → List Trial) (parts : List ℕ) (tried : List (Result (Vec Trial Global) E)) → AllZip (GiveAll trials) parts tried → All (λ one. IsOk one) tried
    → flat_map trials_in tried ≡ flat_map trials parts
all_tried trials [] [] zip all = refl
all_tried trials [] (one ∷ rest) zip all = absurd zip
all_tried trials (part ∷ parts) [] zip all = absurd zip
all_tried trials (part ∷ parts) (Ok made ∷ rest) zip all =
    ap (λ (first : List Trial). first ++ flat_map trials_in rest) zip.0
    ∙ ap (λ (later : List Trial). trials part ++ later) (all_tried trials parts rest zip.1 (All-tail (λ one. IsOk one) (Ok made) rest all))
all_tried trials (part ∷ parts) (Err error ∷ rest) zip all = let ok = All-head (λ one. IsOk one) (Err error) rest all in cc

-- what follows from two facts about a result that is there
pub both_ok : {T E : Type 0} (r : Result T E) (P Q R : T → Type 0) → ((x : T) → P x → Q x → R x) → IfOk r P → IfOk r Q → IfOk r R
both_ok (Ok x) P Q R f p q = f x p q
both_ok (Err e) P Q R f p q = tt

drop_none : (i : ℕ) → drop {A = ℕ} i [] ≡ []
drop_none zero = refl
drop_none (suc i) = refl

drop_drop : (i j : ℕ) (xs : List ℕ) → drop j (drop i xs) ≡ drop (i + j) xs
drop_drop zero j xs = let same : j ≡ zero + j = omega arith in ap (λ k. drop k xs) same
drop_drop (suc i) j [] = drop_none j ∙ sym (drop_none (suc i + j))
drop_drop (suc i) j (x ∷ xs) = let same : suc (i + j) ≡ suc i + j = omega arith in drop_drop i j xs ∙ ap (λ k. drop k (x ∷ xs)) same

drop_past : (i : ℕ) (xs : List ℕ) → length xs ≤ i → drop i xs ≡ []
drop_past zero [] past = refl
drop_past zero (x ∷ xs) past = absurd (omega arith)
drop_past (suc i) [] past = refl
drop_past (suc i) (x ∷ xs) past = drop_past i xs (omega arith)

-- a place between two multiples that follow each other is none
between : (size k q : ℕ) → k < q * size → q * size < k + size → (k % size == 0) ≡ false
between size k q below above = false_unless (k % size == 0) (λ same. let whole : k % size ≡ 0 = eqb-true (k % size) 0 same in let split = div-add-mod' k size in
    ⊎_elim
    (λ (less : k / size < q). let next : (k / size + 1) * size ≤ q * size = mul-le-mul_right size (omega arith) in let one : (k / size + 1) * size ≡ k / size * size + size = omega arith in omega arith)
    (λ (more : q ≤ k / size). let next : q * size ≤ k / size * size = mul-le-mul_right size more in omega arith)
    (cases_lt (k / size) q))

-- what is made at the numbers of the trials is the trials of all places
module _ (trial : ℕ → Option Trial) (places : List ℕ) (size : ℕ) (some : 0 < size) where
  abbrev trials_of : ℕ → List Trial
  trials_of number = filter_map trial (part_of places size number)

  -- from any number on: the parts that begin there or later
  from_number : (count k q : ℕ) → k + count ≡ length places → k ≤ q * size → q * size < k + size
      → flat_map trials_of (range_with_len k count) ≡ filter_map trial (drop (q * size) places)
  from_number zero k q all upto near = ap (filter_map trial) (sym (drop_past (q * size) places (omega (arith, all, upto))))
  from_number (suc count) k q all upto near =
      let next : (q + 1) * size ≡ q * size + size = omega arith in
      ⊎_elim
      (λ (before : k < q * size).
      ap (λ (first : List Trial). first ++ flat_map trials_of (range_with_len (k + 1) count))
      (ap (filter_map trial) (cond-false (k % size == 0) (take size (drop k places)) [] (between size k q before near)))
      ∙ from_number count (k + 1) q (omega (arith, all)) (omega (arith, before)) (omega (arith, near)))
      (λ (past : q * size ≤ k).
      let here : k ≡ q * size = omega (arith, past, upto) in
      let whole : k % size ≡ 0 = ap (λ n. n % size) here ∙ mul-mod_left q size in
      ap (λ (first : List Trial). first ++ flat_map trials_of (range_with_len (k + 1) count))
      (ap (filter_map trial) (cond-true (k % size == 0) (take size (drop k places)) [] (eq-eqb (k % size) 0 whole) ∙ ap (λ n. take size (drop n places)) here))
      ∙ ap (λ (later : List Trial). filter_map trial (take size (drop (q * size) places)) ++ later) (from_number count (k + 1) (q + 1) (omega (arith, all)) (omega (arith, here, next, some)) (omega (arith, here, next)))
      ∙ ap (λ (n : ℕ). filter_map trial (take size (drop (q * size) places)) ++ filter_map trial (drop n places)) next
      ∙ ap (λ (later : List ℕ). filter_map trial (take size (drop (q * size) places)) ++ filter_map trial later) (sym (drop_drop (q * size) size places))
      ∙ sym (filter_map-append trial (take size (drop (q * size) places)) (drop size (drop (q * size) places)))
      ∙ ap (filter_map trial) (take-append-drop size (drop (q * size) places)))
      (cases_lt k (q * size))

  pub from_numbers : flat_map trials_of (range_with_len 0 (length places)) ≡ filter_map trial places
  from_numbers =
      let none : 0 * size ≡ 0 = omega arith in
      from_number (length places) 0 0 (omega arith) (omega arith) (omega (arith, some)) ∙ ap (λ k. filter_map trial (drop k places)) none

-- ---- the places that are tried

-- one place more, which is tried
pub tried_more : (trial : ℕ → Option Trial) (places : List ℕ) (place : ℕ) → filter_map trial places ≡ filter_map trial (range_with_len 0 place)
    → filter_map trial (places ++ place ∷ []) ≡ filter_map trial (range_with_len 0 (place + 1))
tried_more trial places place so_far =
    filter_map-append trial places (place ∷ [])
    ∙ ap (λ (found : List Trial). found ++ filter_map trial (place ∷ [])) so_far
    ∙ sym (filter_map-append trial (range_with_len 0 place) (place ∷ []))
    ∙ ap (filter_map trial) (sym (range_more place))

-- and one that has no trial
pub tried_same : (trial : ℕ → Option Trial) (places : List ℕ) (place : ℕ) → filter_map trial places ≡ filter_map trial (range_with_len 0 place) → trial place ≡ None
    → filter_map trial places ≡ filter_map trial (range_with_len 0 (place + 1))
tried_same trial places place so_far none =
    so_far
    ∙ sym (append-nil (filter_map trial (range_with_len 0 place)))
    ∙ ap (λ (one : Option Trial). filter_map trial (range_with_len 0 place) ++ cons_option one []) (sym none)
    ∙ sym (filter_map-append trial (range_with_len 0 place) (place ∷ []))
    ∙ ap (filter_map trial) (sym (range_more place))

-- one place more of a list
pub found_more : (trial : ℕ → Option Trial) (places : List ℕ) (k : ℕ) → k < length places
    → filter_map trial (take (k + 1) places) ≡ filter_map trial (take k places) ++ cons_option (trial (get_or places k 0)) []
found_more trial places k within = ap (filter_map trial) (take_more places k 0 within) ∙ filter_map-append trial (take k places) (get_or places k 0 ∷ [])

-- a list of trials more
pub joined_more : {E : Type 0} (tried : List (Result (Vec Trial Global) E)) (k : ℕ) (one : Result (Vec Trial Global) E) → k < length tried → one ≡ get_or tried k one
    → flat_map trials_in (take (k + 1) tried) ≡ flat_map trials_in (take k tried) ++ trials_in one
joined_more tried k one within is =
    ap (flat_map trials_in) (take_more tried k one within)
    ∙ flat_map-append trials_in (take k tried) (get_or tried k one ∷ [])
    ∙ ap (λ (one : Result (Vec Trial Global) _). flat_map trials_in (take k tried) ++ (trials_in one ++ [])) (sym is)
    ∙ ap (λ (last : List Trial). flat_map trials_in (take k tried) ++ last) (append-nil (trials_in one))
