-- The time of a rank, and its step.
use Rattle.std.proofs.Common.{ℕ, ◌≡◌, ◌+◌, ◌*◌, ◌^◌, ◌<◌, ◌≤◌, Bool, true, false, cond, eqb, ltb, leb, List, [], ◌∷◌, ◌++◌, length, sum_by, count_by, ◌-◌, ⊎_elim, sym, refl, ap, ◌∙◌, subst, append_assoc, arith}
use Rattle.std.specs.List.{All, AllByRecursion}
use Rattle.std.specs.List.Sorted.{IsStrictlySortedBy}
use Rattle.std.specs.Map.{keys_of, values_of}
use Rattle.std.specs.Cmp.{ranked}
use Rattle.std.specs.Ordering.{nat_cmp}
use Rattle.std.specs.declared.cmp.Ordering.TheVariants.{Less}
use Rattle.std.proofs.lemmas.Bool.{cases_lt, lt-ltb, le-ltb, le-leb, lt-leb, leb-true, cond-true, cond-false}
use Rattle.std.proofs.lemmas.List.Elements.{recursion_from_All}
use Rattle.std.proofs.lemmas.List.Sums.{sum_by-cons, sum-map, count_by-le-length}
use Rattle.std.proofs.lemmas.Map.Keys.{sorted_head, sorted_tail}
use Rattle.std.proofs.Math.Nat.{mul-le-mul_right}
use Rattle.fleet_summary.specs.Histogram.{IsHistogram, count_at, total_of}
use Rattle.fleet_summary.specs.Quantiles.{IsHistogramOf, IsOfRank, IsStepOfRank, rank_of}
use Rattle.fleet_summary.specs.Steps.{step_of, upper_end}
use Rattle.fleet_summary.proofs.HistogramAt.{sum_at-ordered}
use Rattle.fleet_summary.proofs.StepPlaces.{le-upper_end, step_of-counted, step_of-ordered, upper_end-near}
use Rattle.fleet_summary.proofs.Weighing.{passing-same, sum_by-le_each, sum_by-ones}

entry_number : ℕ × ℕ → ℕ
entry_number e = e.1

pub total_of-cons : (e : ℕ × ℕ) (es : List (ℕ × ℕ)) → total_of (e ∷ es) ≡ e.1 + total_of es
total_of-cons e es = sum_by-cons (λ n. n) e.1 (values_of es)

pub total_of-append : (es fs : List (ℕ × ℕ)) → total_of (es ++ fs) ≡ total_of es + total_of fs
total_of-append [] fs = omega arith
total_of-append (e ∷ es) fs = omega (arith, total_of-cons e (es ++ fs), total_of-cons e es, total_of-append es fs)

-- what comes before a step, and what is left, are all
pub record HasReached (all left : List (ℕ × ℕ)) (reached rank : ℕ) : Type 0 where
  pub before : List (ℕ × ℕ)
  pub whole : before ++ left ≡ all
  pub sum : reached ≡ total_of before
  pub short : reached < rank

abbrev earlier : ℕ → ℕ × ℕ → ℕ
earlier step e = cond (ltb e.0 step) e.1 0

abbrev no_later : ℕ → ℕ × ℕ → ℕ
no_later step e = cond (leb e.0 step) e.1 0

none_above : (step : ℕ) (es : List (ℕ × ℕ)) → AllByRecursion (λ other. nat_cmp step other ≡ Less) (keys_of es) → (sum_by (earlier step) es ≡ 0) × (sum_by (no_later step) es ≡ 0)
none_above step [] above = (refl, refl)
none_above step (e ∷ es) above =
    let later : step < e.0 = ranked step e.0 Less (sym above.0) in
    let rest = none_above step es above.1 in
    let first : earlier step e ≡ 0 = cond-false (ltb e.0 step) e.1 0 (le-ltb e.0 step (omega arith)) in
    let second : no_later step e ≡ 0 = cond-false (leb e.0 step) e.1 0 (lt-leb e.0 step later) in
    (omega (arith, sum_by-cons (earlier step) e es, first, rest.0), omega (arith, sum_by-cons (no_later step) e es, second, rest.1))

passes_there : (P : ℕ → Type 0) (before rest : List (ℕ × ℕ)) (step number : ℕ) → AllByRecursion P (keys_of (before ++ (step, number) ∷ rest)) → P step
passes_there P [] rest step number each = each.0
passes_there P (e ∷ es) rest step number each = passes_there P es rest step number each.1

at_place : (before rest : List (ℕ × ℕ)) (step number : ℕ) → IsStrictlySortedBy nat_cmp (keys_of (before ++ (step, number) ∷ rest)) →
    (sum_by (earlier step) (before ++ (step, number) ∷ rest) ≡ total_of before) × (sum_by (no_later step) (before ++ (step, number) ∷ rest) ≡ total_of before + number)
at_place [] rest step number ordered =
    let above = none_above step rest (sorted_head nat_cmp step (keys_of rest) ordered) in
    let first : earlier step (step, number) ≡ 0 = cond-false (ltb step step) number 0 (le-ltb step step (omega arith)) in
    let second : no_later step (step, number) ≡ number = cond-true (leb step step) number 0 (le-leb step step (omega arith)) in
    (omega (arith, sum_by-cons (earlier step) (step, number) rest, first, above.0), omega (arith, sum_by-cons (no_later step) (step, number) rest, second, above.1))
at_place (e ∷ es) rest step number ordered =
    let keys : List ℕ = keys_of (es ++ (step, number) ∷ rest) in
    let less : e.0 < step = ranked e.0 step Less (sym (passes_there (λ other. nat_cmp e.0 other ≡ Less) es rest step number (sorted_head nat_cmp e.0 keys ordered))) in
    let after = at_place es rest step number (sorted_tail nat_cmp e.0 keys ordered) in
    let first : earlier step e ≡ e.1 = cond-true (ltb e.0 step) e.1 0 (lt-ltb e.0 step less) in
    let second : no_later step e ≡ e.1 = cond-true (leb e.0 step) e.1 0 (le-leb e.0 step (omega arith)) in (
      omega (arith, sum_by-cons (earlier step) e (es ++ (step, number) ∷ rest), first, after.0, total_of-cons e es),
      omega (arith, sum_by-cons (no_later step) e (es ++ (step, number) ∷ rest), second, after.1, total_of-cons e es),
    )

pub HasReached-more : (all left rest : List (ℕ × ℕ)) (reached rank step number : ℕ) → left ≡ (step, number) ∷ rest → HasReached all left reached rank → reached + number < rank → HasReached all rest (reached + number) rank
HasReached-more all left rest reached rank step number is has short = record {
  before = has.before ++ (step, number) ∷ [];
  whole = append_assoc has.before ((step, number) ∷ []) rest ∙ ap (λ es. has.before ++ es) (sym is) ∙ has.whole;
  sum = omega (arith, has.sum, total_of-append has.before ((step, number) ∷ []), total_of-cons (step, number) []);
  short = short;
}

pub HasReached-fits : (all left rest : List (ℕ × ℕ)) (reached rank step number : ℕ) → left ≡ (step, number) ∷ rest → HasReached all left reached rank → reached + number ≤ total_of all
HasReached-fits all left rest reached rank step number is has =
    let whole : has.before ++ (step, number) ∷ rest ≡ all = ap (λ es. has.before ++ es) (sym is) ∙ has.whole in
    omega (arith, has.sum, total_of-append has.before ((step, number) ∷ rest), total_of-cons (step, number) rest, ap total_of whole)

pub HasReached-there : (all left rest : List (ℕ × ℕ)) (reached rank step number : ℕ) → left ≡ (step, number) ∷ rest → HasReached all left reached rank → rank ≤ reached + number →
    IsStrictlySortedBy nat_cmp (keys_of all) → IsStepOfRank rank all step
HasReached-there all left rest reached rank step number is has far ordered =
    let whole : has.before ++ (step, number) ∷ rest ≡ all = ap (λ es. has.before ++ es) (sym is) ∙ has.whole in
    let at = at_place has.before rest step number (subst (λ es. IsStrictlySortedBy nat_cmp (keys_of es)) (sym whole) ordered) in
    record {
      above = omega (arith, ap (sum_by (earlier step)) whole, at.0, has.sum, has.short);
      reached = omega (arith, ap (sum_by (no_later step)) whole, at.1, has.sum, far);
    }

pub HasReached-counted : (all left rest : List (ℕ × ℕ)) (reached rank step number bound : ℕ) → left ≡ (step, number) ∷ rest → HasReached all left reached rank → All (λ other. other < bound) (keys_of all) → step < bound
HasReached-counted all left rest reached rank step number bound is has each =
    let whole : has.before ++ (step, number) ∷ rest ≡ all = ap (λ es. has.before ++ es) (sym is) ∙ has.whole in
    passes_there (λ other. other < bound) has.before rest step number
    (subst (λ es. AllByRecursion (λ other. other < bound) (keys_of es)) (sym whole) (recursion_from_All (λ other. other < bound) (keys_of all) each))

pub HasReached-all : (all left : List (ℕ × ℕ)) (reached rank : ℕ) → left ≡ [] → HasReached all left reached rank → total_of all < rank
HasReached-all all left reached rank none has =
    omega (arith, has.sum, has.short, total_of-append has.before left, ap total_of none, ap total_of has.whole)

keys_each : (P : ℕ → Type 0) (es : List (ℕ × ℕ)) → AllByRecursion P (keys_of es) → AllByRecursion (λ (e : ℕ × ℕ). P e.0) es
keys_each P [] each = tt
keys_each P (e ∷ es) each = (each.0, keys_each P es each.1)

-- a sum over the counts of times is a count of the times
pub counts_weighed : (times : List ℕ) (counts : List (ℕ × ℕ)) (p : ℕ → Bool) → IsHistogram counts → All (λ time. time < 2 ^ 64) times → length times < 2 ^ 64 → IsHistogramOf times counts →
    sum_by (λ e. cond (p e.0) e.1 0) counts ≡ count_by (λ time. p (step_of time)) times
counts_weighed times counts p is fits few counted =
    passing-same (λ (e : ℕ × ℕ). e.0) (λ (e : ℕ × ℕ). e.1) step_of (λ (time : ℕ). 1) p 3776 counts times
    (keys_each (λ key. key < 3776) counts (recursion_from_All (λ key. key < 3776) (keys_of counts) is.steps))
    (recursion_from_All (λ time. step_of time < 3776) times (λ k d h. step_of-counted _ (fits k d h)))
    (λ step.
    let there : count_at counts step ≡ count_by (λ time. eqb step (step_of time)) times = omega (arith, counted step, count_by-le-length (λ time. eqb step (step_of time)) times) in
    sum_at-ordered counts is.ordered step ∙ there)

pub total_of-counted : (times : List ℕ) (counts : List (ℕ × ℕ)) → IsHistogram counts → All (λ time. time < 2 ^ 64) times → length times < 2 ^ 64 → IsHistogramOf times counts → total_of counts ≡ length times
total_of-counted times counts is fits few counted =
    sum-map (λ (e : ℕ × ℕ). e.1) counts ∙ counts_weighed times counts (λ step. true) is fits few counted ∙ sum_by-ones times

cond_le : (a b : Bool) → (a ≡ true → b ≡ true) → cond a 1 0 ≤ cond b 1 0
cond_le true b then = omega (arith, ap {B = ℕ} (λ c. cond c 1 0) (then refl))
cond_le false b then = omega arith

-- fewer pass where each that passes the one test passes the other
count_by-le : (p q : ℕ → Bool) (times : List ℕ) → All (λ time. time < 2 ^ 64) times → ((time : ℕ) → time < 2 ^ 64 → p time ≡ true → q time ≡ true) → count_by p times ≤ count_by q times
count_by-le p q times fits then =
    sum_by-le_each (λ time. cond (p time) 1 0) (λ time. cond (q time) 1 0) times
    (recursion_from_All (λ time. cond (p time) 1 0 ≤ cond (q time) 1 0) times (λ k d h. cond_le (p _) (q _) (then _ (fits k d h))))

pub rank_step : (times : List ℕ) (counts : List (ℕ × ℕ)) (rank step exact : ℕ) → IsHistogram counts → All (λ time. time < 2 ^ 64) times → length times < 2 ^ 64 → IsHistogramOf times counts → exact < 2 ^ 64 →
    IsStepOfRank rank counts step → IsOfRank rank times exact → step ≡ step_of exact
rank_step times counts rank step exact is fits few counted at has own =
    let earlier_is : sum_by (earlier step) counts ≡ count_by (λ time. ltb (step_of time) step) times = counts_weighed times counts (λ other. ltb other step) is fits few counted in
    let no_later_is : sum_by (no_later step) counts ≡ count_by (λ time. leb (step_of time) step) times = counts_weighed times counts (λ other. leb other step) is fits few counted in
    ⊎_elim
    (λ (less : step < step_of exact).
    let within : count_by (λ time. leb (step_of time) step) times ≤ count_by (λ time. ltb time exact) times =
    count_by-le (λ time. leb (step_of time) step) (λ time. ltb time exact) times fits
    (λ time small passes.
    let there : step_of time ≤ step = leb-true (step_of time) step passes in
    lt-ltb time exact (⊎_elim (λ (before : time < exact). before) (λ (after : exact ≤ time). absurd (omega (arith, step_of-ordered exact time at small after))) (cases_lt time exact))) in
    absurd (omega (arith, has.reached, no_later_is, within, own.above)))
    (λ (no_less : step_of exact ≤ step).
    ⊎_elim
    (λ (more : step_of exact < step).
    let within : count_by (λ time. leb time exact) times ≤ count_by (λ time. ltb (step_of time) step) times =
    count_by-le (λ time. leb time exact) (λ time. ltb (step_of time) step) times fits
    (λ time small passes. lt-ltb (step_of time) step (let there : time ≤ exact = leb-true time exact passes in omega (arith, step_of-ordered time exact small at there))) in
    absurd (omega (arith, has.above, earlier_is, within, own.reached)))
    (λ (no_more : step ≤ step_of exact). omega arith)
    (cases_lt (step_of exact) step))
    (cases_lt step (step_of exact))

pub quantile-near : (hundredths : ℕ) (counts : List (ℕ × ℕ)) (step time : ℕ) → IsHistogram counts → IsStepOfRank (rank_of hundredths (total_of counts)) counts step → time ≡ upper_end step →
    (times : List ℕ) (exact : ℕ) → All (λ other. other < 2 ^ 64) times → length times < 2 ^ 64 → IsHistogramOf times counts → exact < 2 ^ 64 →
    IsOfRank (rank_of hundredths (length times)) times exact → (exact ≤ time) × (64 * (time - exact) ≤ exact)
quantile-near hundredths counts step time is has at times exact fits few counted small own =
    let all : total_of counts ≡ length times = total_of-counted times counts is fits few counted in
    let there : step ≡ step_of exact =
    rank_step times counts (rank_of hundredths (length times)) step exact is fits few counted small (subst (λ n. IsStepOfRank (rank_of hundredths n) counts step) all has) own in
    let end : time ≡ upper_end (step_of exact) = at ∙ ap upper_end there in
    (omega (arith, end, le-upper_end exact small), subst (λ n. 64 * (n - exact) ≤ exact) (sym end) (upper_end-near exact small))

-- no more than all are below a rank, unless there are none
pub none_counted : (hundredths : ℕ) (counts : List (ℕ × ℕ)) → IsHistogram counts → hundredths ≤ 100 → total_of counts < rank_of hundredths (total_of counts) → counts ≡ []
none_counted hundredths [] is part short = refl
none_counted hundredths (e ∷ es) is part short =
    let some : 0 < e.1 = is.positive 0 0 (omega arith) in
    let most : hundredths * total_of (e ∷ es) ≤ 100 * total_of (e ∷ es) = mul-le-mul_right (total_of (e ∷ es)) part in
    absurd (omega (arith, some, most, short, total_of-cons e es))
