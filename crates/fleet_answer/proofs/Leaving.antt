-- What is left of a histogram where another is taken away.
use Rattle.std.proofs.Common.{ℕ, ◌≡◌, ◌+◌, ◌-◌, ◌^◌, ◌<◌, ◌≤◌, Bool, true, false, cond, eqb, List, [], ◌∷◌, sum_by, ⊎_elim, sym, refl, ap, ◌∙◌, subst, arith}
use Rattle.std.specs.Cmp.{ranked}
use Rattle.std.specs.List.{AllByRecursion}
use Rattle.std.specs.List.Sorted.{IsStrictlySortedBy}
use Rattle.std.specs.Map.{keys_of}
use Rattle.std.specs.Ordering.{nat_cmp}
use Rattle.std.specs.declared.cmp.Ordering.TheVariants.{Less}
use Rattle.std.proofs.lemmas.Bool.{cases_eq, eq-eqb, ne_eqb, cond-true, cond-false}
use Rattle.std.proofs.lemmas.List.Elements.{recursion_from_All}
use Rattle.std.proofs.lemmas.List.Sums.{sum_by-cons}
use Rattle.std.proofs.lemmas.Map.Keys.{sorted_head, sorted_tail}
use Rattle.fleet_summary.specs.Histogram.{IsHistogram, capped, count_at}
use Rattle.fleet_summary.specs.declared.steps.TheConstants.{STEPS}
use Rattle.fleet_summary.proofs.HistogramAt.{at_step, count_at-fits, sum_at, sum_at-ordered}
use Rattle.fleet_answer.specs.Without.{IsLeft}

-- what is left of an entry, at a step
abbrev pub left_at : List (ℕ × ℕ) → ℕ → ℕ × ℕ → ℕ
left_at taken step entry = cond (eqb step entry.0) (entry.1 - count_at taken entry.0) 0

abbrev pub sum_left : List (ℕ × ℕ) → List (ℕ × ℕ) → ℕ → ℕ
sum_left taken entries step = sum_by (left_at taken step) entries

cond-le : (b : Bool) (less more : ℕ) → less ≤ more → cond b less 0 ≤ cond b more 0
cond-le true less more h = h
cond-le false less more h = omega arith

sum_left-le : (taken entries : List (ℕ × ℕ)) (step : ℕ) → sum_left taken entries step ≤ sum_at entries step
sum_left-le taken [] step = omega arith
sum_left-le taken (e ∷ es) step =
    let first : left_at taken step e ≤ at_step step e = cond-le (eqb step e.0) (e.1 - count_at taken e.0) e.1 (omega arith) in
    omega (arith, sum_by-cons (left_at taken step) e es, sum_by-cons (at_step step) e es, first, sum_left-le taken es step)

-- no later step is the first one
none_at : (step : ℕ) (entries : List (ℕ × ℕ)) → AllByRecursion (λ other. nat_cmp step other ≡ Less) (keys_of entries) → sum_at entries step ≡ 0
none_at step [] above = refl
none_at step (e ∷ es) above =
    let later : step < e.0 = ranked step e.0 Less (sym above.0) in
    let here : at_step step e ≡ 0 = cond-false (eqb step e.0) e.1 0 (ne_eqb step e.0 (λ (same : step ≡ e.0). omega arith)) in
    omega (arith, sum_by-cons (at_step step) e es, here, none_at step es above.1)

sum_left-ordered : (taken entries : List (ℕ × ℕ)) → IsStrictlySortedBy nat_cmp (keys_of entries) → (step : ℕ) → sum_left taken entries step ≡ sum_at entries step - count_at taken step
sum_left-ordered taken [] ordered step = omega arith
sum_left-ordered taken (e ∷ es) ordered step =
    let rest : sum_left taken es step ≡ sum_at es step - count_at taken step = sum_left-ordered taken es (sorted_tail nat_cmp e.0 (keys_of es) ordered) step in
    ⊎_elim
    (λ (same : step ≡ e.0).
    let later : sum_at es step ≡ 0 = ap (sum_at es) same ∙ none_at e.0 es (sorted_head nat_cmp e.0 (keys_of es) ordered) in
    let there : count_at taken e.0 ≡ count_at taken step = ap (count_at taken) (sym same) in
    let here : left_at taken step e ≡ e.1 - count_at taken e.0 = cond-true (eqb step e.0) (e.1 - count_at taken e.0) 0 (eq-eqb step e.0 same) in
    let own : at_step step e ≡ e.1 = cond-true (eqb step e.0) e.1 0 (eq-eqb step e.0 same) in
    omega (arith, sum_by-cons (left_at taken step) e es, sum_by-cons (at_step step) e es, later, there, here, own, rest))
    (λ (other : step ≡ e.0 → ⊥).
    let here : left_at taken step e ≡ 0 = cond-false (eqb step e.0) (e.1 - count_at taken e.0) 0 (ne_eqb step e.0 other) in
    let own : at_step step e ≡ 0 = cond-false (eqb step e.0) e.1 0 (ne_eqb step e.0 other) in
    omega (arith, sum_by-cons (left_at taken step) e es, sum_by-cons (at_step step) e es, here, own, rest))
    (cases_eq step e.0)

-- What was put down, and what is yet to be, come to what is left of all.
pub record IsPartLeft (all taken now entries : List (ℕ × ℕ)) : Type 0 where
  pub whole : (step : ℕ) → count_at now step + sum_left taken entries step ≡ sum_left taken all step
  pub steps : AllByRecursion (λ step. step < STEPS) (keys_of entries)
  pub counts : IsHistogram now

pub IsPartLeft-none : (all taken now entries : List (ℕ × ℕ)) → entries ≡ all → now ≡ [] → IsHistogram all → IsHistogram now → IsPartLeft all taken now entries
IsPartLeft-none all taken now entries is none sound counts = record {
  whole = λ step. let nothing : count_at now step ≡ 0 = ap (λ es. count_at es step) none in let same : sum_left taken entries step ≡ sum_left taken all step = ap (λ es. sum_left taken es step) is in omega (arith, nothing, same);
  steps = subst (λ es. AllByRecursion (λ step. step < STEPS) (keys_of es)) (sym is) (recursion_from_All (λ step. step < STEPS) (keys_of all) sound.steps);
  counts = counts;
}

pub IsPartLeft-counted : (all taken now entries rest : List (ℕ × ℕ)) (step number : ℕ) → entries ≡ (step, number) ∷ rest → IsPartLeft all taken now entries → step < STEPS
IsPartLeft-counted all taken now entries rest step number is part = (subst (λ es. AllByRecursion (λ other. other < STEPS) (keys_of es)) is part.steps).0

pub IsPartLeft-more : (all taken now later entries rest : List (ℕ × ℕ)) (step number left : ℕ) → entries ≡ (step, number) ∷ rest → left ≡ number - count_at taken step → IsHistogram all →
    IsPartLeft all taken now entries → ((other : ℕ) → count_at later other ≡ capped (count_at now other + cond (eqb other step) left 0)) → IsHistogram later → IsPartLeft all taken later rest
IsPartLeft-more all taken now later entries rest step number left is left_is sound part adds counts = record {
  whole = λ other.
      let more : sum_left taken entries other ≡ cond (eqb other step) (number - count_at taken step) 0 + sum_left taken rest other =
      ap (λ es. sum_left taken es other) is ∙ sum_by-cons (left_at taken other) (step, number) rest in
      let same : cond (eqb other step) left 0 ≡ cond (eqb other step) (number - count_at taken step) 0 = ap (λ n. cond (eqb other step) n 0) left_is in
      let whole : count_at now other + sum_left taken entries other ≡ sum_left taken all other = part.whole other in
      let next : count_at later other ≡ capped (count_at now other + cond (eqb other step) left 0) = adds other in
      let most : sum_left taken all other ≤ sum_at all other = sum_left-le taken all other in
      let fits : sum_at all other < 2 ^ 64 = let below = count_at-fits all sound other in let at = sum_at-ordered all sound.ordered other in omega (arith, below, at) in
      omega (arith, more, same, whole, next, most, fits);
  steps = (subst (λ es. AllByRecursion (λ other. other < STEPS) (keys_of es)) is part.steps).1;
  counts = counts;
}

pub IsPartLeft-all : (all taken now entries : List (ℕ × ℕ)) → entries ≡ [] → IsPartLeft all taken now entries → IsHistogram all → IsLeft all taken now
IsPartLeft-all all taken now entries none part sound step =
    let nothing : sum_left taken entries step ≡ 0 = ap (λ es. sum_left taken es step) none in
    let whole : count_at now step + sum_left taken entries step ≡ sum_left taken all step = part.whole step in
    let left : sum_left taken all step ≡ sum_at all step - count_at taken step = sum_left-ordered taken all sound.ordered step in
    let at : sum_at all step ≡ count_at all step = sum_at-ordered all sound.ordered step in
    omega (arith, nothing, whole, left, at)
