-- A number added at a step.
use Rattle.std.proofs.Common.{ℕ, ◌≡◌, ◌+◌, ◌^◌, ◌<◌, cond, eqb, List, [], ◌∷◌, Some, unwrap_or, ⊎_elim, sym, ap, ◌∙◌, subst, arith}
use Rattle.std.specs.BTreeMap.{insert_entry, is_at}
use Rattle.std.specs.Cmp.{unsigned_tied}
use Rattle.std.specs.List.{AllByRecursion}
use Rattle.std.specs.List.Sorted.{IsStrictlySortedBy}
use Rattle.std.specs.Map.{keys_of, lookup}
use Rattle.std.specs.Ordering.{nat_cmp}
use Rattle.std.proofs.lemmas.Bool.{cases_eq, eq-eqb, ne_eqb, cond-true, cond-false}
use Rattle.std.proofs.lemmas.List.Elements.{All-nil, recursion_from_All}
use Rattle.std.proofs.lemmas.List.Sums.{sum_by-cons}
use Rattle.std.proofs.lemmas.Map.Views.{All-keys-insert_entry, All-values-insert_entry}
use Rattle.fleet_summary.specs.Histogram.{IsHistogram, IsJoin, capped, count_at}
use Rattle.fleet_summary.specs.declared.steps.TheConstants.{STEPS}
use Rattle.fleet_summary.proofs.HistogramAt.{at_step, count_at-fits, sum_at, sum_at-ordered}

-- what a look-up finds after the sum was put at the step
pub count_at-added : (before after : List (ℕ × ℕ)) (step number sum : ℕ) → sum ≡ capped (count_at before step + number) → IsHistogram before →
    ((other : ℕ) → lookup (is_at (nat_cmp other)) after ≡ cond (is_at (nat_cmp step) other) (Some sum) (lookup (is_at (nat_cmp other)) before)) →
    (other : ℕ) → count_at after other ≡ capped (count_at before other + cond (eqb other step) number 0)
count_at-added before after step number sum is counts updates other =
    ⊎_elim
    (λ (same : other ≡ step).
    let put : count_at after other ≡ sum =
    ap (λ o. unwrap_or o 0) (updates other ∙ cond-true (is_at (nat_cmp step) other) (Some sum) (lookup (is_at (nat_cmp other)) before) (unsigned_tied step other ∙ eq-eqb step other (sym same))) in
    let adds : cond (eqb other step) number 0 ≡ number = cond-true (eqb other step) number 0 (eq-eqb other step same) in
    let there : count_at before other ≡ count_at before step = ap (count_at before) same in
    omega (arith, put, adds, there, is))
    (λ (apart : other ≡ step → ⊥).
    let kept : count_at after other ≡ count_at before other =
    ap (λ o. unwrap_or o 0) (updates other ∙ cond-false (is_at (nat_cmp step) other) (Some sum) (lookup (is_at (nat_cmp other)) before) (unsigned_tied step other ∙ ne_eqb step other (λ (same : step ≡ other). apart (sym same)))) in
    let adds : cond (eqb other step) number 0 ≡ 0 = cond-false (eqb other step) number 0 (ne_eqb other step apart) in
    omega (arith, kept, adds, count_at-fits before counts other))
    (cases_eq other step)

-- adding 0 changes nothing
pub count_at-kept : (counts : List (ℕ × ℕ)) (step number : ℕ) → number ≡ 0 → IsHistogram counts → (other : ℕ) → count_at counts other ≡ capped (count_at counts other + cond (eqb other step) number 0)
count_at-kept counts step number none is other =
    let adds : cond (eqb other step) number 0 ≡ 0 =
    ⊎_elim
    (λ (same : other ≡ step). cond-true (eqb other step) number 0 (eq-eqb other step same) ∙ none)
    (λ (apart : other ≡ step → ⊥). cond-false (eqb other step) number 0 (ne_eqb other step apart))
    (cases_eq other step) in
    omega (arith, adds, count_at-fits counts is other)

pub IsHistogram-inserted : (before after : List (ℕ × ℕ)) (step number : ℕ) → IsHistogram before → after ≡ insert_entry nat_cmp before step number → IsStrictlySortedBy nat_cmp (keys_of after) →
    step < STEPS → 0 < number → number < 2 ^ 64 → IsHistogram after
IsHistogram-inserted before after step number is entries ordered counted some fits = record {
  ordered = ordered;
  steps = rw entries (All-keys-insert_entry nat_cmp step number (λ other. other < STEPS) before is.steps counted);
  positive = rw entries (All-values-insert_entry nat_cmp step number (λ other. 0 < other) before is.positive some);
  fits = rw entries (All-values-insert_entry nat_cmp step number (λ other. other < 2 ^ 64) before is.fits fits);
}

-- What was added of another, and what is left of it, come to the whole.
pub record IsPartAdded (before added now left : List (ℕ × ℕ)) : Type 0 where
  pub whole : (step : ℕ) → capped (count_at now step + sum_at left step) ≡ capped (count_at before step + sum_at added step)
  pub steps : AllByRecursion (λ step. step < STEPS) (keys_of left)
  pub counts : IsHistogram now

pub IsPartAdded-none : (before added left : List (ℕ × ℕ)) → left ≡ added → IsHistogram before → IsHistogram added → IsPartAdded before added before left
IsPartAdded-none before added left is own counts = record {
  whole = λ step. ap (λ es. capped (count_at before step + sum_at es step)) is;
  steps = subst (λ es. AllByRecursion (λ step. step < STEPS) (keys_of es)) (sym is) (recursion_from_All (λ step. step < STEPS) (keys_of added) counts.steps);
  counts = own;
}

pub IsPartAdded-counted : (before added now left rest : List (ℕ × ℕ)) (step number : ℕ) → left ≡ (step, number) ∷ rest → IsPartAdded before added now left → step < STEPS
IsPartAdded-counted before added now left rest step number is part =
    (subst (λ es. AllByRecursion (λ other. other < STEPS) (keys_of es)) is part.steps).0

pub IsPartAdded-more : (before added now later left rest : List (ℕ × ℕ)) (step number : ℕ) → left ≡ (step, number) ∷ rest → IsPartAdded before added now left →
    ((other : ℕ) → count_at later other ≡ capped (count_at now other + cond (eqb other step) number 0)) → IsHistogram later → IsPartAdded before added later rest
IsPartAdded-more before added now later left rest step number is part adds counts = record {
  whole = λ other.
      let more : sum_at left other ≡ cond (eqb other step) number 0 + sum_at rest other = ap (λ es. sum_at es other) is ∙ sum_by-cons (at_step other) (step, number) rest in
      let whole : capped (count_at now other + sum_at left other) ≡ capped (count_at before other + sum_at added other) = part.whole other in
      let next : count_at later other ≡ capped (count_at now other + cond (eqb other step) number 0) = adds other in
      omega (arith, more, whole, next);
  steps = (subst (λ es. AllByRecursion (λ other. other < STEPS) (keys_of es)) is part.steps).1;
  counts = counts;
}

pub IsJoin-all_added : (before added now left : List (ℕ × ℕ)) → left ≡ [] → IsPartAdded before added now left → IsHistogram added → IsJoin before added now
IsJoin-all_added before added now left none part is step =
    let rest : sum_at left step ≡ 0 = ap (λ es. sum_at es step) none in
    let whole : capped (count_at now step + sum_at left step) ≡ capped (count_at before step + sum_at added step) = part.whole step in
    omega (arith, rest, whole, sum_at-ordered added is.ordered step, count_at-fits now part.counts step)

-- to nothing one was added, and then the other
pub IsJoin-both : (left right first both : List (ℕ × ℕ)) → IsJoin [] left first → IsJoin first right both → IsHistogram left → IsJoin left right both
IsJoin-both left right first both one two is step =
    let begun : count_at first step ≡ capped (0 + count_at left step) = one step in
    let done : count_at both step ≡ capped (count_at first step + count_at right step) = two step in
    omega (arith, begun, done)

pub IsHistogram-none : IsHistogram []
unfolding IsStrictlySortedBy
IsHistogram-none = record { ordered = tt; steps = All-nil (λ step. step < STEPS); positive = All-nil (λ number. 0 < number); fits = All-nil (λ number. number < 2 ^ 64) }
