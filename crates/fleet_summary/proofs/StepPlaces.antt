-- Where a time stands among the steps.
use Rattle.std.proofs.Common.{ℕ, suc, ◌≡◌, ◌+◌, ◌-◌, ◌*◌, ◌/◌, ◌%◌, ◌^◌, ◌<◌, ◌≤◌, ◌⊎◌, inl, inr, ⊎_elim, sym, refl, ap, ◌∙◌, subst, arith}
use Rattle.std.proofs.lemmas.Nat.{pow_pos, pow-add, shr_split, mod_below, le-div, div_below, div-mul-add, leading_top, shl_whole, one_shl}
use Rattle.std.proofs.lemmas.Bool.{cases_lt}
use Rattle.std.proofs.Math.Nat.{add-mul, mul-le-mul_right, pow-le-pow_right}
use Rattle.std.specs.Int.Count.{count_leading_zeros, leading_of_zero}
use Rattle.fleet_summary.specs.Steps.{bits_below, step_of, bits_below_step, upper_end}

-- below the seven highest bits of a time stand so many
pub record IsAbove (time bits : ℕ) : Type 0 where
  pub least : (bits ≡ 0) ⊎ (64 * 2 ^ bits ≤ time)
  pub most : time < 128 * 2 ^ bits

-- what the seven highest bits say
pub record IsSeven (bits seven : ℕ) : Type 0 where
  pub least : (bits ≡ 0) ⊎ (64 ≤ seven)
  pub most : seven < 128

power_rises : (i j : ℕ) → i ≤ j → 2 ^ i ≤ 2 ^ j
power_rises i j rises = pow-le-pow_right {n = 2} (omega arith) {i = i} {j = j} rises

above_top : (time top bits blank : ℕ) → blank + suc top ≡ 64 → bits ≡ 57 - blank → 2 ^ top ≤ time → time < 2 ^ suc top → IsAbove time bits
above_top time top bits blank whole is least most =
    ⊎_elim
    (λ (few : top < 6).
    let none : bits ≡ 0 = omega arith in
    let one : 2 ^ bits ≡ 1 = ap (λ n. 2 ^ n) none in
    let small : 2 ^ suc top ≤ 2 ^ 7 = power_rises (suc top) 7 (omega arith) in
    record { least = inl none; most = omega (arith, one, small, most) })
    (λ (many : 6 ≤ top).
    let at : top ≡ bits + 6 = omega arith in
    let next : suc top ≡ bits + 7 = omega arith in
    let low : 2 ^ top ≡ 2 ^ bits * 2 ^ 6 = ap (λ n. 2 ^ n) at ∙ pow-add 2 bits 6 in
    let high : 2 ^ suc top ≡ 2 ^ bits * 2 ^ 7 = ap (λ n. 2 ^ n) next ∙ pow-add 2 bits 7 in
    record { least = inr (omega (arith, low, least)); most = omega (arith, high, most) })
    (cases_lt top 6)

pub is_above : (time : ℕ) → time < 2 ^ 64 → IsAbove time (bits_below time)
is_above time fits =
    ⊎_elim
    (λ (some : 0 < time). let top = leading_top 64 time some fits in above_top time top.0 (bits_below time) (count_leading_zeros 64 time) top.1 refl top.2 top.3)
    (λ (none : time ≤ 0).
    let is : time ≡ 0 = omega arith in
    let blank : count_leading_zeros 64 time ≡ 64 = ap (count_leading_zeros 64) is ∙ leading_of_zero 64 in
    let bits : bits_below time ≡ 0 = omega (arith, blank) in
    record { least = inl bits; most = omega (arith, pow_pos (bits_below time)) })
    (cases_lt 0 time)

-- a later time has no fewer bits below
pub bits_ordered : (time later bits more : ℕ) → IsAbove time bits → IsAbove later more → time ≤ later → bits ≤ more
bits_ordered time later bits more is then order =
    ⊎_elim
    (λ (fewer : more < bits).
    let twice : 2 ^ (more + 1) ≤ 2 ^ bits = power_rises (more + 1) bits (omega arith) in
    let at : 2 ^ (more + 1) ≡ 2 ^ more * 2 ^ 1 = pow-add 2 more 1 in
    ⊎_elim (λ (none : bits ≡ 0). omega arith) (λ (some : 64 * 2 ^ bits ≤ time). omega (arith, twice, at, some, then.most)) is.least)
    (λ (same : bits ≤ more). same)
    (cases_lt more bits)

pub is_seven : (time bits : ℕ) → IsAbove time bits → IsSeven bits (time / 2 ^ bits)
is_seven time bits is = record {
  least = ⊎_elim (λ (none : bits ≡ 0). inl none) (λ (some : 64 * 2 ^ bits ≤ time). inr (le-div 64 time (2 ^ bits) (pow_pos bits) some)) is.least;
  most = div_below time (2 ^ bits) 128 (pow_pos bits) is.most;
}

bits_of_step : (bits seven : ℕ) → IsSeven bits seven → bits_below_step (64 * bits + seven) ≡ bits
bits_of_step bits seven is = ⊎_elim (λ (none : bits ≡ 0). omega (arith, is.most)) (λ (some : 64 ≤ seven). omega (arith, is.most)) is.least

pub upper_end-at : (bits seven : ℕ) → IsSeven bits seven → upper_end (64 * bits + seven) ≡ seven * 2 ^ bits + (2 ^ bits - 1)
unfolding upper_end
upper_end-at bits seven is =
    let left : 64 * bits + seven - 64 * bits + 1 ≡ seven + 1 = omega arith in
    let last : (seven + 1) * 2 ^ bits - 1 ≡ seven * 2 ^ bits + (2 ^ bits - 1) = omega (arith, add-mul seven 1 (2 ^ bits), pow_pos bits) in
    ap (λ n. (64 * bits + seven - 64 * n + 1) * 2 ^ n - 1) (bits_of_step bits seven is) ∙ ap (λ n. n * 2 ^ bits - 1) left ∙ last

-- how a time stands to the upper end of its step
record Ends (time : ℕ) : Type 0 where
  bits : ℕ
  seven : ℕ
  is : IsSeven bits seven
  rest : ℕ
  split : seven * 2 ^ bits + rest ≡ time
  within : rest < 2 ^ bits
  step : step_of time ≡ 64 * bits + seven
  few : bits ≤ 57
  above : IsAbove time bits

ends : (time : ℕ) → time < 2 ^ 64 → Ends time
unfolding step_of
ends time fits =
    let bits : ℕ = bits_below time in
    let above : IsAbove time bits = is_above time fits in
    record {
      bits = bits;
      seven = time / 2 ^ bits;
      is = is_seven time bits above;
      rest = time % 2 ^ bits;
      split = shr_split time bits;
      within = mod_below time (2 ^ bits) (pow_pos bits);
      step = refl;
      few = omega arith;
      above = above;
    }

upper_end-ends : (time : ℕ) (e : Ends time) → upper_end (step_of time) ≡ e.seven * 2 ^ e.bits + (2 ^ e.bits - 1)
upper_end-ends time e = ap upper_end e.step ∙ upper_end-at e.bits e.seven e.is

pub step_of-counted : (time : ℕ) → time < 2 ^ 64 → step_of time < 3776
step_of-counted time fits = let e = ends time fits in omega (arith, e.step, e.few, e.is.most)

pub le-upper_end : (time : ℕ) → time < 2 ^ 64 → time ≤ upper_end (step_of time)
le-upper_end time fits = let e = ends time fits in omega (arith, upper_end-ends time e, e.split, e.within)

pub upper_end-near : (time : ℕ) → time < 2 ^ 64 → 64 * (upper_end (step_of time) - time) ≤ time
upper_end-near time fits =
    let e = ends time fits in
    ⊎_elim
    (λ (none : e.bits ≡ 0). let one : 2 ^ e.bits ≡ 1 = ap (λ n. 2 ^ n) none in omega (arith, one, upper_end-ends time e, e.split, e.within))
    (λ (some : 64 ≤ e.seven). omega (arith, mul-le-mul_right (2 ^ e.bits) some, upper_end-ends time e, e.split, e.within))
    e.is.least

pub step_of-ordered : (time later : ℕ) → time < 2 ^ 64 → later < 2 ^ 64 → time ≤ later → step_of time ≤ step_of later
step_of-ordered time later fits then order =
    let e = ends time fits in
    let f = ends later then in
    let fewer : e.bits ≤ f.bits = bits_ordered time later e.bits f.bits e.above f.above order in
    ⊎_elim
    (λ (less : e.bits < f.bits).
    ⊎_elim (λ (none : f.bits ≡ 0). omega arith) (λ (some : 64 ≤ f.seven). omega (arith, e.step, f.step, e.is.most)) f.is.least)
    (λ (more : f.bits ≤ e.bits).
    let same : e.bits ≡ f.bits = omega arith in
    let power : 2 ^ e.bits ≡ 2 ^ f.bits = ap (λ n. 2 ^ n) same in
    ⊎_elim
    (λ (below : f.seven < e.seven).
    let product : (f.seven + 1) * 2 ^ e.bits ≤ e.seven * 2 ^ e.bits = mul-le-mul_right (2 ^ e.bits) (omega arith) in
    let moved : f.seven * 2 ^ e.bits ≡ f.seven * 2 ^ f.bits = ap (λ n. f.seven * n) power in
    omega (arith, product, moved, power, add-mul f.seven 1 (2 ^ e.bits), e.split, f.split, f.within))
    (λ (rises : e.seven ≤ f.seven). omega (arith, e.step, f.step))
    (cases_lt f.seven e.seven))
    (cases_lt e.bits f.bits)

-- the parts of a step
record Parts (step : ℕ) : Type 0 where
  is : IsSeven (bits_below_step step) (step - 64 * bits_below_step step)
  split : 64 * bits_below_step step + (step - 64 * bits_below_step step) ≡ step
  few : bits_below_step step ≤ 57

parts : (step : ℕ) → step < 3776 → Parts step
parts step counted = record {
  is = record {
    least = ⊎_elim (λ (low : step < 128). inl (omega arith)) (λ (high : 128 ≤ step). inr (omega arith)) (cases_lt step 128);
    most = omega arith;
  };
  split = omega arith;
  few = omega arith;
}

upper_end-parts : (step : ℕ) → step < 3776 → upper_end step ≡ (step - 64 * bits_below_step step) * 2 ^ bits_below_step step + (2 ^ bits_below_step step - 1)
upper_end-parts step counted =
    let p = parts step counted in
    ap upper_end (sym p.split) ∙ upper_end-at (bits_below_step step) (step - 64 * bits_below_step step) p.is

-- what shifts of 64 bits make of the parts
pub upper_end-shifted : (step bits seven : ℕ) → step < 3776 → bits ≡ bits_below_step step → seven ≡ step - 64 * bits →
    (seven * 2 ^ bits) % 2 ^ 64 + ((1 * 2 ^ bits) % 2 ^ 64 - 1) ≡ upper_end step
upper_end-shifted step bits seven counted at is =
    let p = parts step counted in
    let rest : seven ≡ step - 64 * bits_below_step step = omega (arith, at, is) in
    let fits : bits ≤ 57 = omega (arith, at, p.few) in
    let whole : (seven * 2 ^ bits) % 2 ^ 64 ≡ seven * 2 ^ bits = shl_whole seven 7 bits 64 (omega (arith, rest, p.is.most)) (omega arith) in
    let one : (1 * 2 ^ bits) % 2 ^ 64 ≡ 2 ^ bits = one_shl bits 64 (omega arith) in
    let left : (seven * 2 ^ bits) % 2 ^ 64 + ((1 * 2 ^ bits) % 2 ^ 64 - 1) ≡ seven * 2 ^ bits + (2 ^ bits - 1) = omega (arith, whole, one) in
    let moved : seven * 2 ^ bits + (2 ^ bits - 1) ≡ (step - 64 * bits_below_step step) * 2 ^ bits_below_step step + (2 ^ bits_below_step step - 1) =
    ap (λ n. n * 2 ^ bits + (2 ^ bits - 1)) rest ∙ ap (λ n. (step - 64 * bits_below_step step) * 2 ^ n + (2 ^ n - 1)) at in
    left ∙ moved ∙ sym (upper_end-parts step counted)

last_above : (bits seven : ℕ) → IsSeven bits seven → IsAbove (seven * 2 ^ bits + (2 ^ bits - 1)) bits
last_above bits seven is = record {
  least = ⊎_elim (λ (none : bits ≡ 0). inl none) (λ (some : 64 ≤ seven). inr (omega (arith, mul-le-mul_right (2 ^ bits) some))) is.least;
  most = let product : (seven + 1) * 2 ^ bits ≤ 128 * 2 ^ bits = mul-le-mul_right (2 ^ bits) (omega (arith, is.most)) in
      omega (arith, product, add-mul seven 1 (2 ^ bits), pow_pos bits);
}

pub upper_end-fits : (step : ℕ) → step < 3776 → upper_end step < 2 ^ 64
upper_end-fits step counted =
    let p = parts step counted in
    let bits : ℕ = bits_below_step step in
    let seven : ℕ = step - 64 * bits_below_step step in
    let is : upper_end step ≡ seven * 2 ^ bits + (2 ^ bits - 1) = upper_end-parts step counted in
    let most : 2 ^ bits ≤ 2 ^ 57 = power_rises bits 57 p.few in
    omega (arith, is, most, (last_above bits seven p.is).most)

pub step_of-upper_end : (step : ℕ) → step < 3776 → step_of (upper_end step) ≡ step
step_of-upper_end step counted =
    let p = parts step counted in
    let bits : ℕ = bits_below_step step in
    let seven : ℕ = step - 64 * bits_below_step step in
    let is : upper_end step ≡ seven * 2 ^ bits + (2 ^ bits - 1) = upper_end-parts step counted in
    let e = ends (upper_end step) (upper_end-fits step counted) in
    let above : IsAbove (upper_end step) bits = subst (λ n. IsAbove n bits) (sym is) (last_above bits seven p.is) in
    let least : bits ≤ e.bits = bits_ordered (upper_end step) (upper_end step) bits e.bits above e.above (omega arith) in
    let most : e.bits ≤ bits = bits_ordered (upper_end step) (upper_end step) e.bits bits e.above above (omega arith) in
    let same : e.bits ≡ bits = omega arith in
    let power : 2 ^ e.bits ≡ 2 ^ bits = ap (λ n. 2 ^ n) same in
    let moved : e.seven * 2 ^ e.bits ≡ e.seven * 2 ^ bits = ap (λ n. e.seven * n) power in
    let sevens : e.seven ≡ seven =
    sym (div-mul-add e.seven (2 ^ bits) e.rest (omega (arith, e.within, power)))
    ∙ ap (λ n. n / 2 ^ bits) (omega (arith, e.split, moved, is))
    ∙ div-mul-add seven (2 ^ bits) (2 ^ bits - 1) (omega (arith, pow_pos bits)) in
    omega (arith, e.step, p.split, sevens, same)

pub upper_end-greatest : (step later : ℕ) → step < 3776 → later < 2 ^ 64 → upper_end step < later → step < step_of later
upper_end-greatest step later counted fits above =
    let no_less : step_of (upper_end step) ≤ step_of later = step_of-ordered (upper_end step) later (upper_end-fits step counted) fits (omega arith) in
    ⊎_elim
    (λ (less : step < step_of later). less)
    (λ (more : step_of later ≤ step).
    let same : step_of later ≡ step = omega (arith, no_less, step_of-upper_end step counted) in
    omega (arith, le-upper_end later fits, ap upper_end same))
    (cases_lt step (step_of later))

pub step_of-shifted : (time bits : ℕ) → bits ≡ bits_below time → 64 * bits + time / 2 ^ bits ≡ step_of time
unfolding step_of
step_of-shifted time bits is = ap (λ n. 64 * n + time / 2 ^ n) is
