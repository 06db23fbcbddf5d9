-- Sums over the steps of a histogram from one on.
use Rattle.std.proofs.Common.{ℕ, ◌≡◌, ◌+◌, ◌*◌, ◌^◌, ◌≤◌, Bool, true, false, cond, leb, List, [], ◌∷◌, sum_by, ap, ◌∙◌, arith}
use Rattle.std.proofs.lemmas.List.Sums.{sum_by-cons}
use Rattle.fleet_summary.specs.Histogram.{IsHistogram, total_of}
use Rattle.fleet_summary.proofs.HistogramAt.{total_of-fits}
use Rattle.fleet_summary.proofs.Ranks.{total_of-cons}
use Rattle.fleet_answer.specs.Shares.{sum_from}

pub sum_from-cons : (first step number : ℕ) (left rest : List (ℕ × ℕ)) → left ≡ (step, number) ∷ rest → sum_from first left ≡ cond (leb first step) number 0 + sum_from first rest
sum_from-cons first step number left rest is = ap (sum_from first) is ∙ sum_by-cons (λ (e : ℕ × ℕ). cond (leb first e.0) e.1 0) (step, number) rest

cond-le : (b : Bool) (n : ℕ) → cond b n 0 ≤ n
cond-le true n = omega arith
cond-le false n = omega arith

sum_from-le : (first : ℕ) (es : List (ℕ × ℕ)) → sum_from first es ≤ total_of es
sum_from-le first [] = omega arith
sum_from-le first (e ∷ es) = omega (arith, sum_by-cons (λ (e : ℕ × ℕ). cond (leb first e.0) e.1 0) e es, total_of-cons e es, cond-le (leb first e.0) e.1, sum_from-le first es)

-- it has no more than 76 bits
pub sum_from-fits : (first : ℕ) (es : List (ℕ × ℕ)) → IsHistogram es → sum_from first es ≤ 3776 * 2 ^ 64
sum_from-fits first es is = omega (arith, sum_from-le first es, total_of-fits es is)
