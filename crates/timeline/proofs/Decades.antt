-- The search for a round step, a decade at a time.
use Rattle.std.proofs.Common.{ℕ, ◌≡◌, ◌+◌, ◌*◌, ◌/◌, ◌^◌, ◌<◌, ◌≤◌, ◌⊎◌, arith, inl, inr, lit<, ap, ◌∙◌, sym, subst, refl}
use Rattle.std.proofs.lemmas.Grind.{pow_more}
use Rattle.std.proofs.lemmas.Bool.{cases_lt}
use Rattle.std.proofs.Math.Nat.{pow-le-pow_right, one-le-pow, div-mul-le_self, mul-le-mul_right}
use Rattle.timeline.specs.Rounds.{IsRound, IsPassed, IsStepOf}

-- a power of ten, and each smaller round step goes too often into the span
pub record IsReached (span most power : ℕ) : Type 0 where
  pub digits : ℕ
  pub is_power : power ≡ 10 ^ digits
  pub before : (step : ℕ) → IsRound step → step < power → most ≤ span / step

ten : 0 < 10
ten = lit< tt

pub positive_power : (digits : ℕ) → 1 ≤ 10 ^ digits
positive_power digits = one-le-pow digits 10 ten

-- a power of ten is not above one of fewer digits
not_above : (j d step : ℕ) → 10 ^ d ≤ step → step ≤ 5 * 10 ^ j → (j < d) ⊎ (d ≤ j) → d ≤ j
not_above j d step reached high (inl less) =
    let grown : 10 ^ (j + 1) ≤ 10 ^ d = pow-le-pow_right ten (omega arith) in
    let more : 10 ^ (j + 1) ≡ 10 ^ j * 10 = pow_more 10 j in
    let some : 1 ≤ 10 ^ j = positive_power j in
    absurd (omega arith)
not_above j d step reached high (inr no_less) = no_less

not_below : (j d step : ℕ) → 10 ^ j ≤ step → step < 10 ^ d * 10 → (d < j) ⊎ (j ≤ d) → j ≤ d
not_below j d step low below (inl less) =
    let grown : 10 ^ (d + 1) ≤ 10 ^ j = pow-le-pow_right ten (omega arith) in
    let more : 10 ^ (d + 1) ≡ 10 ^ d * 10 = pow_more 10 d in
    absurd (omega arith)
not_below j d step low below (inr no_less) = no_less

-- two powers of ten that are in one decade are the same
same_power : (j d step : ℕ) → 10 ^ j ≤ step → step ≤ 5 * 10 ^ j → 10 ^ d ≤ step → step < 10 ^ d * 10 → j ≡ d
same_power j d step low high reached below =
    let above : d ≤ j = not_above j d step reached high (cases_lt j d) in
    let under : j ≤ d = not_below j d step low below (cases_lt d j) in
    omega arith

-- a round step between a power of ten and the next is 1, 2 or 5 times the power
in_decade : (digits step : ℕ) → IsRound step → 10 ^ digits ≤ step → step < 10 ^ digits * 10
    → (step ≡ 10 ^ digits) ⊎ (step ≡ 2 * 10 ^ digits) ⊎ (step ≡ 5 * 10 ^ digits)
in_decade digits step (j, inl e) reached below =
    let same : j ≡ digits = same_power j digits step (omega arith) (omega arith) reached below in
    inl (e ∙ ap (λ n. 10 ^ n) same)
in_decade digits step (j, inr (inl e)) reached below =
    let same : j ≡ digits = same_power j digits step (omega arith) (omega arith) reached below in
    inr (inl (e ∙ ap (λ n. 2 * 10 ^ n) same))
in_decade digits step (j, inr (inr e)) reached below =
    let same : j ≡ digits = same_power j digits step (omega arith) (omega arith) reached below in
    inr (inr (e ∙ ap (λ n. 5 * 10 ^ n) same))

-- what goes too often before a power of ten, and at 1, 2 and 5 times it as far as these are below a bound, goes too often below the bound
at_decade : (span most power bound step : ℕ)
    → (power < bound → most ≤ span / power) → (2 * power < bound → most ≤ span / (2 * power)) → (5 * power < bound → most ≤ span / (5 * power))
    → step < bound → (step ≡ power) ⊎ (step ≡ 2 * power) ⊎ (step ≡ 5 * power) → most ≤ span / step
at_decade span most power bound step one two five below (inl e) =
    subst (λ (n : ℕ). most ≤ span / n) (sym e) (one (subst (λ (n : ℕ). n < bound) e below))
at_decade span most power bound step one two five below (inr (inl e)) =
    subst (λ (n : ℕ). most ≤ span / n) (sym e) (two (subst (λ (n : ℕ). n < bound) e below))
at_decade span most power bound step one two five below (inr (inr e)) =
    subst (λ (n : ℕ). most ≤ span / n) (sym e) (five (subst (λ (n : ℕ). n < bound) e below))

below_bound : (span most power bound : ℕ) → IsReached span most power → bound ≤ power * 10
    → (power < bound → most ≤ span / power) → (2 * power < bound → most ≤ span / (2 * power)) → (5 * power < bound → most ≤ span / (5 * power))
    → (step : ℕ) → IsRound step → step < bound → (step < power) ⊎ (power ≤ step) → most ≤ span / step
below_bound span most power bound reached least one two five step round below (inl before) = reached.before step round before
below_bound span most power bound reached least one two five step round below (inr after) =
    let decade : (step ≡ 10 ^ reached.digits) ⊎ (step ≡ 2 * 10 ^ reached.digits) ⊎ (step ≡ 5 * 10 ^ reached.digits) =
    in_decade reached.digits step round (omega arith) (omega arith) in
    at_decade span most power bound step one two five below
    (subst (λ (p : ℕ). (step ≡ p) ⊎ (step ≡ 2 * p) ⊎ (step ≡ 5 * p)) (sym reached.is_power) decade)

at_most_five : (span most power step : ℕ) → (step ≡ power) ⊎ (step ≡ 2 * power) ⊎ (step ≡ 5 * power) → step ≤ power * 10
at_most_five span most power step (inl e) = omega arith
at_most_five span most power step (inr (inl e)) = omega arith
at_most_five span most power step (inr (inr e)) = omega arith

five_last : (span most power step : ℕ) → (step ≡ power) ⊎ (step ≡ 2 * power) ⊎ (step ≡ 5 * power) → 5 * power < step → most ≤ span / (5 * power)
five_last span most power step (inl e) more = absurd (omega arith)
five_last span most power step (inr (inl e)) more = absurd (omega arith)
five_last span most power step (inr (inr e)) more = absurd (omega arith)

-- the least that serves
pub least_found : (span most power step : ℕ) → IsReached span most power → IsStepOf span most power step
    → (other : ℕ) → IsRound other → other < step → most ≤ span / other
least_found span most power step reached found other round below =
    below_bound span most power step reached (at_most_five span most power step found.factor) found.one found.two (five_last span most power step found.factor) other round below (cases_lt other power)

-- the next power of ten is reached where none of this decade serves
pub next_reached : (span most power : ℕ) → IsReached span most power → IsPassed span most power → IsReached span most (power * 10)
next_reached span most power reached passed = record {
  digits = reached.digits + 1;
  is_power = ap (λ n. n * 10) reached.is_power ∙ sym (pow_more 10 reached.digits);
  before = λ step round below.
      below_bound span most power (power * 10) reached (omega arith) (λ _. passed.one) (λ _. passed.two) (λ _. passed.five) step round below (cases_lt step power);
}

-- it is not above the span
pub next_within : (span most power : ℕ) → 2 ≤ most → IsPassed span most power → power * 10 ≤ span
next_within span most power some passed =
    let times : span / (5 * power) * (5 * power) ≤ span = div-mul-le_self span (5 * power) in
    let twice : 2 * (5 * power) ≤ span / (5 * power) * (5 * power) = mul-le-mul_right (5 * power) (omega (arith, passed.five)) in
    omega arith

-- no round step is 0
pub round_is_positive : (step : ℕ) → IsRound step → 0 < step
round_is_positive step (j, inl e) = let some : 1 ≤ 10 ^ j = positive_power j in omega arith
round_is_positive step (j, inr (inl e)) = let some : 1 ≤ 10 ^ j = positive_power j in omega arith
round_is_positive step (j, inr (inr e)) = let some : 1 ≤ 10 ^ j = positive_power j in omega arith

pub first_reached : (span most : ℕ) → IsReached span most 1
first_reached span most = record {
  digits = 0;
  is_power = refl;
  before = λ step round below. let some : 0 < step = round_is_positive step round in absurd (omega arith);
}

pub reached_is_positive : (span most power : ℕ) → IsReached span most power → 0 < power
reached_is_positive span most power reached = let some : 1 ≤ 10 ^ reached.digits = positive_power reached.digits in omega arith

form_found : (power step ten_to : ℕ) → power ≡ ten_to → (step ≡ power) ⊎ (step ≡ 2 * power) ⊎ (step ≡ 5 * power)
    → (step ≡ ten_to) ⊎ (step ≡ 2 * ten_to) ⊎ (step ≡ 5 * ten_to)
form_found power step ten_to e form = subst (λ (p : ℕ). (step ≡ p) ⊎ (step ≡ 2 * p) ⊎ (step ≡ 5 * p)) e form

pub round_found : (span most power step : ℕ) → IsReached span most power → IsStepOf span most power step → IsRound step
round_found span most power step reached found = (reached.digits, form_found power step (10 ^ reached.digits) reached.is_power found.factor)
