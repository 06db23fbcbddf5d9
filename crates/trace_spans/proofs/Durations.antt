-- Durations in digits, with a sign or without one.
use Rattle.std.proofs.Common.{◌≡◌, ◌≢◌, ℕ, List, [], ◌∷◌, true, cond, refl, ap, arith}
use Rattle.std.specs.Prelude.{◌==◌, option_map}
use Rattle.std.proofs.lemmas.Bool.{false_from_ne_true}
use Rattle.std.proofs.lemmas.Bool.Decides.{nat_tests}
use Rattle.trace_spans.specs.Members.{spelled}
use Rattle.trace_spans.specs.Micros.{lasting, spelled_duration}

-- with a sign
pub below_none : (text digits : List ℕ) → text ≡ 45 ∷ digits → spelled_duration text ≡ option_map (λ n. 0) (spelled digits)
unfolding spelled_duration
below_none text digits e = rw e refl

is_45 : (c : ℕ) → (c == 45) ≡ true → c ≡ 45
is_45 c h = grind (arith, nat_tests)

-- without one
pub from_none : (text : List ℕ) → ((digits : List ℕ) → text ≢ 45 ∷ digits) → spelled_duration text ≡ option_map lasting (spelled text)
unfolding spelled_duration spelled
from_none [] unsigned = refl
from_none (x ∷ xs) unsigned = ap (λ b. cond b (option_map (λ n. 0) (spelled xs)) (option_map lasting (spelled (x ∷ xs)))) (false_from_ne_true _ (λ e. unsigned xs (ap (λ c. c ∷ xs) (is_45 x e))))
