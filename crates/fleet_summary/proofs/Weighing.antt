-- Sums over what stands at each key below a bound.
use Rattle.std.proofs.Common.{ℕ, zero, suc, ◌≡◌, ◌+◌, ◌<◌, ◌≤◌, Bool, true, false, cond, eqb, List, [], ◌∷◌, sum_by, length, ⊎_elim, sym, refl, ap, ◌∙◌, arith}
use Rattle.std.specs.List.{AllByRecursion}
use Rattle.std.proofs.lemmas.Bool.{cases_eq, eq-eqb, ne_eqb, cond-true, cond-false}
use Rattle.std.proofs.lemmas.List.Sums.{sum_by-cons}

pub sum_by-le_each : {X : Type 0} (f g : X → ℕ) (xs : List X) → AllByRecursion (λ x. f x ≤ g x) xs → sum_by f xs ≤ sum_by g xs
sum_by-le_each f g [] each = omega arith
sum_by-le_each f g (x ∷ xs) each = omega (arith, sum_by-cons f x xs, sum_by-cons g x xs, each.0, sum_by-le_each f g xs each.1)

pub sum_by-ones : {X : Type 0} (xs : List X) → sum_by (λ x. 1) xs ≡ length xs
sum_by-ones {X = X} [] = refl
sum_by-ones {X = X} (x ∷ xs) = let one : X → ℕ = λ x. 1 in omega (arith, sum_by-cons one x xs, sum_by-ones xs)

-- the sum of f at each number below a bound
pub sum_below : (ℕ → ℕ) → ℕ → ℕ
sum_below f zero = 0
sum_below f (suc n) = f n + sum_below f n

sum_below-same : (f g : ℕ → ℕ) (n : ℕ) → ((k : ℕ) → f k ≡ g k) → sum_below f n ≡ sum_below g n
unfolding sum_below
sum_below-same f g zero same = refl
sum_below-same f g (suc n) same = omega (arith, same n, sum_below-same f g n same)

sum_below-none : (f : ℕ → ℕ) (n : ℕ) → ((k : ℕ) → k < n → f k ≡ 0) → sum_below f n ≡ 0
unfolding sum_below
sum_below-none f zero none = refl
sum_below-none f (suc n) none = omega (arith, none n (omega arith), sum_below-none f n (λ k below. none k (omega arith)))

sum_below-plus : (f g h : ℕ → ℕ) (n : ℕ) → ((k : ℕ) → h k ≡ f k + g k) → sum_below h n ≡ sum_below f n + sum_below g n
unfolding sum_below
sum_below-plus f g h zero plus = refl
sum_below-plus f g h (suc n) plus = omega (arith, plus n, sum_below-plus f g h n plus)

cond-none : (b : Bool) (number : ℕ) → number ≡ 0 → cond b number 0 ≡ 0
cond-none true number none = none
cond-none false number none = refl

cond-plus : (b : Bool) (sum left right : ℕ) → sum ≡ left + right → cond b sum 0 ≡ cond b left 0 + cond b right 0
cond-plus true sum left right plus = plus
cond-plus false sum left right plus = refl

at_one : (p : ℕ → Bool) (key number : ℕ) → ℕ → ℕ
at_one p key number k = cond (p k) (cond (eqb k key) number 0) 0

at_one-other : (p : ℕ → Bool) (key number k : ℕ) → (k ≡ key → ⊥) → at_one p key number k ≡ 0
unfolding at_one
at_one-other p key number k other = cond-none (p k) _ (cond-false (eqb k key) number 0 (ne_eqb k key other))

at_one-own : (p : ℕ → Bool) (key number k : ℕ) → k ≡ key → at_one p key number k ≡ cond (p key) number 0
unfolding at_one
at_one-own p key number k own = ap (λ n. cond (p k) n 0) (cond-true (eqb k key) number 0 (eq-eqb k key own)) ∙ ap (λ n. cond (p n) number 0) own

sum_below-one : (p : ℕ → Bool) (key number n : ℕ) → key < n → sum_below (at_one p key number) n ≡ cond (p key) number 0
unfolding sum_below
sum_below-one p key number zero below = absurd (omega arith)
sum_below-one p key number (suc n) below =
    ⊎_elim
    (λ (own : n ≡ key).
    omega (arith, at_one-own p key number n own, sum_below-none (at_one p key number) n (λ k less. at_one-other p key number k (λ (same : k ≡ key). omega arith))))
    (λ (other : n ≡ key → ⊥).
    let less : key < n = ⊎_elim (λ (same : n ≡ key). absurd (other same)) (λ (apart : n ≡ key → ⊥). omega arith) (cases_eq n key) in
    omega (arith, at_one-other p key number n other, sum_below-one p key number n less))
    (cases_eq n key)

-- A sum over the items whose keys pass is the sum, over each key that passes, of what stands there.
module _ {X : Type 0} (key : X → ℕ) (number : X → ℕ) (p : ℕ → Bool) where
  abbrev pub standing : List X → ℕ → ℕ
  standing xs k = sum_by (λ x. cond (eqb k (key x)) (number x) 0) xs

  pub passing-standing : (n : ℕ) (xs : List X) → AllByRecursion (λ x. key x < n) xs → sum_by (λ x. cond (p (key x)) (number x) 0) xs ≡ sum_below (λ k. cond (p k) (standing xs k) 0) n
  unfolding at_one
  passing-standing n [] below = sym (sum_below-none (λ k. cond (p k) 0 0) n (λ k less. cond-none (p k) 0 refl))
  passing-standing n (x ∷ xs) below =
      let split : sum_below (λ k. cond (p k) (standing (x ∷ xs) k) 0) n ≡ sum_below (at_one p (key x) (number x)) n + sum_below (λ k. cond (p k) (standing xs k) 0) n =
      sum_below-plus (at_one p (key x) (number x)) (λ k. cond (p k) (standing xs k) 0) (λ k. cond (p k) (standing (x ∷ xs) k) 0) n
      (λ k. cond-plus (p k) (standing (x ∷ xs) k) (cond (eqb k (key x)) (number x) 0) (standing xs k) (sum_by-cons (λ y. cond (eqb k (key y)) (number y) 0) x xs)) in
      omega (arith, split, sum_by-cons (λ y. cond (p (key y)) (number y) 0) x xs, sum_below-one p (key x) (number x) n below.0, passing-standing n xs below.1)

-- Where the same stands at each key, the sums over those that pass are the same.
pub passing-same : {X Y : Type 0} (key : X → ℕ) (number : X → ℕ) (other_key : Y → ℕ) (other_number : Y → ℕ) (p : ℕ → Bool) (n : ℕ) (xs : List X) (ys : List Y) →
    AllByRecursion (λ x. key x < n) xs → AllByRecursion (λ y. other_key y < n) ys →
    ((k : ℕ) → sum_by (λ x. cond (eqb k (key x)) (number x) 0) xs ≡ sum_by (λ y. cond (eqb k (other_key y)) (other_number y) 0) ys) →
    sum_by (λ x. cond (p (key x)) (number x) 0) xs ≡ sum_by (λ y. cond (p (other_key y)) (other_number y) 0) ys
passing-same key number other_key other_number p n xs ys below other_below same =
    passing-standing key number p n xs below
    ∙ sum_below-same (λ k. cond (p k) (sum_by (λ x. cond (eqb k (key x)) (number x) 0) xs) 0) (λ k. cond (p k) (sum_by (λ y. cond (eqb k (other_key y)) (other_number y) 0) ys) 0) n
    (λ k. ap {B = ℕ} (λ sum. cond (p k) sum 0) (same k))
    ∙ sym (passing-standing other_key other_number p n ys other_below)
