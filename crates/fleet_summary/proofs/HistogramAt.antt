-- What stands at a step of counts, as a sum over them.
use Rattle.std.proofs.Common.{ℕ, ◌≡◌, ◌*◌, ◌^◌, ◌<◌, ◌≤◌, Bool, true, false, cond, eqb, List, [], ◌∷◌, Option, Some, None, IfSome, unwrap_or, sum_by, length, ⊎_elim, sym, refl, ap, ◌∙◌, arith}
use Rattle.std.specs.BTreeMap.{is_at}
use Rattle.std.specs.Cmp.{ranked, unsigned_tied}
use Rattle.std.specs.List.{AllByRecursion}
use Rattle.std.specs.List.Sorted.{IsStrictlySortedBy}
use Rattle.std.specs.Map.{keys_of, lookup, values_of}
use Rattle.std.specs.Ordering.{nat_cmp, is_eq}
use Rattle.std.specs.declared.cmp.Ordering.TheVariants.{Less}
use Rattle.std.proofs.lemmas.Bool.{cases_eq, eq-eqb, ne_eqb, cond-true, cond-false}
use Rattle.std.proofs.lemmas.List.Sums.{sum_by-cons, sum_by-le}
use Rattle.std.proofs.lemmas.Map.Entries.{length-keys_of, length-values_of}
use Rattle.std.proofs.lemmas.Map.Keys.{sorted_head, sorted_tail}
use Rattle.std.proofs.lemmas.Map.Views.{IfSome-lookup_from_All, length-le_from_below}
use Rattle.fleet_summary.specs.Histogram.{IsHistogram, count_at, total_of}

-- what an entry adds to the number at a step
abbrev pub at_step : ℕ → ℕ × ℕ → ℕ
at_step step entry = cond (eqb step entry.0) entry.1 0

abbrev pub sum_at : List (ℕ × ℕ) → ℕ → ℕ
sum_at counts step = sum_by (at_step step) counts

-- no later step is the first one
none_at : (step : ℕ) (counts : List (ℕ × ℕ)) → AllByRecursion (λ other. nat_cmp step other ≡ Less) (keys_of counts) → sum_at counts step ≡ 0
none_at step [] above = refl
none_at step (e ∷ es) above =
    let later : step < e.0 = ranked step e.0 Less (sym above.0) in
    let here : at_step step e ≡ 0 = cond-false (eqb step e.0) e.1 0 (ne_eqb step e.0 (λ (same : step ≡ e.0). omega arith)) in
    omega (arith, sum_by-cons (at_step step) e es, here, none_at step es above.1)

pub sum_at-ordered : (counts : List (ℕ × ℕ)) → IsStrictlySortedBy nat_cmp (keys_of counts) → (step : ℕ) → sum_at counts step ≡ count_at counts step
sum_at-ordered [] ordered step = refl
sum_at-ordered (e ∷ es) ordered step =
    let rest : sum_at es step ≡ count_at es step = sum_at-ordered es (sorted_tail nat_cmp e.0 (keys_of es) ordered) step in
    let stands : (b : Bool) → is_eq (nat_cmp step e.0) ≡ b → count_at (e ∷ es) step ≡ unwrap_or (cond b (Some e.1) (lookup (is_at (nat_cmp step)) es)) 0 =
    λ b is. ap (λ c. unwrap_or (cond c (Some e.1) (lookup (is_at (nat_cmp step)) es)) 0) is in
    ⊎_elim
    (λ (same : step ≡ e.0).
    let later : sum_at es step ≡ 0 = ap (sum_at es) same ∙ none_at e.0 es (sorted_head nat_cmp e.0 (keys_of es) ordered) in
    let here : at_step step e ≡ e.1 = cond-true (eqb step e.0) e.1 0 (eq-eqb step e.0 same) in
    let found : count_at (e ∷ es) step ≡ e.1 = stands true (unsigned_tied step e.0 ∙ eq-eqb step e.0 same) in
    omega (arith, sum_by-cons (at_step step) e es, later, here, found))
    (λ (other : step ≡ e.0 → ⊥).
    let here : at_step step e ≡ 0 = cond-false (eqb step e.0) e.1 0 (ne_eqb step e.0 other) in
    let passed : count_at (e ∷ es) step ≡ count_at es step = stands false (unsigned_tied step e.0 ∙ ne_eqb step e.0 other) in
    omega (arith, sum_by-cons (at_step step) e es, rest, here, passed))
    (cases_eq step e.0)

unwrap_below : (o : Option ℕ) (bound : ℕ) → 0 < bound → IfSome o (λ number. number < bound) → unwrap_or o 0 < bound
unwrap_below None bound some each = some
unwrap_below (Some number) bound some each = each

pub count_at-fits : (counts : List (ℕ × ℕ)) → IsHistogram counts → (step : ℕ) → count_at counts step < 2 ^ 64
count_at-fits counts is step =
    unwrap_below (lookup (is_at (nat_cmp step)) counts) (2 ^ 64) (omega arith)
    (IfSome-lookup_from_All (λ number. number < 2 ^ 64) (is_at (nat_cmp step)) counts is.fits)

-- all numbers together are far below 2 ^ 128
pub total_of-fits : (counts : List (ℕ × ℕ)) → IsHistogram counts → total_of counts ≤ 3776 * 2 ^ 64
total_of-fits counts is =
    let few : length (keys_of counts) ≤ 3776 = length-le_from_below 3776 (keys_of counts) is.ordered is.steps in
    let sums : total_of counts ≤ length (values_of counts) * 2 ^ 64 = sum_by-le (λ number. number) (2 ^ 64) (values_of counts) (λ k d h. let below = is.fits k d h in omega (arith, below)) in
    omega (arith, few, sums, length-keys_of counts, length-values_of counts)
