-- The multiples of a step between two ticks.
use Rattle.std.proofs.Common.{ℕ, ◌≡◌, ◌+◌, ◌-◌, ◌*◌, ◌/◌, ◌<◌, ◌≤◌, ◌⊎◌, List, [], ◌∷◌, ◌++◌, map, length, arith, inl, inr, ap, subst, sym, ◌∙◌, Result, Ok, Err, IfOk}
use Rattle.std.specs.Int.{div_ceil}
use Rattle.std.specs.List.{range_with_len}
use Rattle.std.proofs.lemmas.Bool.{cases_lt}
use Rattle.std.proofs.lemmas.Grind.{div_ceil_times}
use Rattle.std.proofs.lemmas.List.FromFn.{map-range_with_len_more, length-map-range_with_len}
use Rattle.std.proofs.lemmas.Nat.{le-div}
use Rattle.std.proofs.Math.Nat.{div-mul-le_self}
use Rattle.timeline.specs.Rounds.{IsAxis, IsRound, multiples}

-- one more
pub multiples_more : (step low multiple : ℕ) (ticks new : List ℕ) → low ≤ multiple
    → ticks ≡ map (λ n. n * step) (range_with_len low (multiple - low))
    → new ≡ ticks ++ (multiple * step) ∷ []
    → new ≡ map (λ n. n * step) (range_with_len low (multiple + 1 - low))
multiples_more step low multiple ticks new reached so_far pushed =
    let more = map-range_with_len_more (λ n. n * step) low (multiple - low) multiple (omega arith) in
    let count : multiple - low + 1 ≡ multiple + 1 - low = omega arith in
    pushed ∙ ap (λ list. list ++ (multiple * step) ∷ []) so_far ∙ sym more ∙ ap (λ n. map (λ k. k * step) (range_with_len low n)) count

-- as many multiples as go into the span, and one more at most
count_within : (first last step from to : ℕ) → 0 < step → first ≤ from * step → to * step ≤ last → (to < from) ⊎ (from ≤ to)
    → to + 1 - from ≤ (last - first) / step + 1
count_within first last step from to some low high (inl none) = omega arith
count_within first last step from to some low high (inr ordered) =
    let whole : from + (to - from) ≡ to = omega arith in
    let times : (from + (to - from)) * step ≡ to * step = ap (λ n. n * step) whole in
    let parts : (from + (to - from)) * step ≡ from * step + (to - from) * step = omega arith in
    let fits : to - from ≤ (last - first) / step = le-div (to - from) (last - first) step some (omega (arith, times, parts)) in
    omega arith

few_multiples : (first last step most : ℕ) → 0 < step → (last - first) / step < most → length (multiples first last step) ≤ most
few_multiples first last step most some few =
    let count = length-map-range_with_len (λ (n : ℕ). n * step) (div_ceil first step) (last / step + 1 - div_ceil first step) in
    let within = count_within first last step (div_ceil first step) (last / step) some (div_ceil_times first step some).0 (div-mul-le_self last step) (cases_lt (last / step) (div_ceil first step)) in
    omega (arith, count, within)

pub axis_of : (first last most step : ℕ) (ticks : List ℕ) → IsRound step → (last - first) / step < most
    → ((other : ℕ) → IsRound other → other < step → most ≤ (last - first) / other) → ticks ≡ multiples first last step → IsAxis first last most ticks
axis_of first last most step ticks round few least named = record {
  step = step;
  round = round;
  few = few;
  least = least;
  named = named;
}

pub few_named : (first last most step : ℕ) (ticks : List ℕ) → 0 < step → (last - first) / step < most → ticks ≡ multiples first last step → length ticks ≤ most
few_named first last most step ticks some few named =
    subst (λ (list : List ℕ). length list ≤ most) (sym named) (few_multiples first last step most some few)

pub if_ok_so : {T E : Type 0} (result : Result T E) (P Q : T → Type 0) → ((x : T) → P x → Q x) → IfOk result P → IfOk result Q
if_ok_so (Ok x) P Q so holds = so x holds
if_ok_so (Err e) P Q so holds = tt
