-- A number of replies, added at what they failed by.
use Rattle.std.proofs.Common.{ℕ, ◌≡◌, ◌+◌, ◌^◌, ◌<◌, Bool, true, false, cond, List, [], ◌∷◌, Option, Some, None, IfSome, unwrap_or, refl, arith}
use Rattle.std.specs.BTreeMap.{insert_entry, is_at}
use Rattle.std.specs.List.Sorted.{IsStrictlySortedBy}
use Rattle.std.specs.Map.{keys_of, lookup}
use Rattle.std.specs.Ordering.{is_eq}
use Rattle.std.proofs.lemmas.List.Elements.{All-nil}
use Rattle.std.proofs.lemmas.Map.Views.{All-values-insert_entry, IfSome-lookup_from_All}
use Rattle.fleet_summary.specs.declared.facts.Failure.{Failure}
use Rattle.fleet_summary.specs.Histogram.{capped}
use Rattle.fleet_summary.specs.Failures.{IsFailures, failed_by}
use Rattle.fleet_summary.specs.Names.{failure_cmp}
use Rattle.fleet_summary.proofs.Keys.{failure_cmp-total}
use Rattle.fleet_summary.proofs.Tables.{IsPart, IsPart-all, IsPart-more, IsPart-none, read_at-added}

abbrev pub replies_in : Option ℕ → ℕ
replies_in found = unwrap_or found 0

replies_in-fits : (found : Option ℕ) → IfSome found (λ n. n < 2 ^ 64) → replies_in found < 2 ^ 64
replies_in-fits None fits = omega arith
replies_in-fits (Some n) fits = fits

pub failed_by-fits : (failures : List (Failure × ℕ)) (failure : Failure) → IsFailures failures → failed_by failures failure < 2 ^ 64
failed_by-fits failures failure is = replies_in-fits (lookup (is_at (failure_cmp failure)) failures) (IfSome-lookup_from_All (λ n. n < 2 ^ 64) (is_at (failure_cmp failure)) failures is.fits)

pub failed_by-added : (before after : List (Failure × ℕ)) (failure : Failure) (replies sum : ℕ) → sum ≡ capped (failed_by before failure + replies) → IsFailures before →
    ((other : Failure) → lookup (is_at (failure_cmp other)) after ≡ cond (is_at (failure_cmp failure) other) (Some sum) (lookup (is_at (failure_cmp other)) before)) →
    (other : Failure) → failed_by after other ≡ capped (failed_by before other + cond (is_eq (failure_cmp other failure)) replies 0)
failed_by-added before after failure replies sum is sound updates =
    read_at-added failure_cmp-total replies_in before after failure (Some sum) replies is (λ other. failed_by-fits before other sound) updates

cond-none : (b : Bool) (number : ℕ) → number ≡ 0 → cond b number 0 ≡ 0
cond-none true number none = none
cond-none false number none = refl

pub failed_by-kept : (failures : List (Failure × ℕ)) (failure : Failure) (replies : ℕ) → replies ≡ 0 → IsFailures failures → (other : Failure) → failed_by failures other ≡ capped (failed_by failures other + cond (is_eq (failure_cmp other failure)) replies 0)
failed_by-kept failures failure replies none is other = omega (arith, cond-none (is_eq (failure_cmp other failure)) replies none, failed_by-fits failures other is)

pub IsFailures-put : (before after : List (Failure × ℕ)) (failure : Failure) (sum : ℕ) → IsFailures before → after ≡ insert_entry failure_cmp before failure sum → IsStrictlySortedBy failure_cmp (keys_of after) → 0 < sum → sum < 2 ^ 64 → IsFailures after
IsFailures-put before after failure sum is entries ordered some fits = record {
  ordered = ordered;
  positive = rw entries (All-values-insert_entry failure_cmp failure sum (λ n. 0 < n) before is.positive some);
  fits = rw entries (All-values-insert_entry failure_cmp failure sum (λ n. n < 2 ^ 64) before is.fits fits);
}

pub IsFailures-none : IsFailures []
unfolding IsStrictlySortedBy
IsFailures-none = record { ordered = tt; positive = All-nil (λ n. 0 < n); fits = All-nil (λ n. n < 2 ^ 64) }

-- What was added of another table, and what is left of it, come to the whole.
pub record IsFailuresPart (before added now left : List (Failure × ℕ)) : Type 0 where
  pub whole : IsPart failure_cmp replies_in (failed_by before) (failed_by now) added left
  pub failures : IsFailures now

pub IsFailuresPart-none : (before added left : List (Failure × ℕ)) → left ≡ added → IsFailures before → IsFailuresPart before added before left
IsFailuresPart-none before added left is own = record { whole = IsPart-none failure_cmp replies_in (failed_by before) added left is; failures = own }

pub IsFailuresPart-more : (before added now later left rest : List (Failure × ℕ)) (failure : Failure) (replies : ℕ) → left ≡ (failure, replies) ∷ rest → IsFailuresPart before added now left →
    ((other : Failure) → failed_by later other ≡ capped (failed_by now other + cond (is_eq (failure_cmp other failure)) replies 0)) → IsFailures later → IsFailuresPart before added later rest
IsFailuresPart-more before added now later left rest failure replies is part adds sound = record {
  whole = IsPart-more failure_cmp replies_in (failed_by before) (failed_by now) (failed_by later) added left rest failure replies is part.whole adds;
  failures = sound;
}

pub IsFailuresPart-all : (before added now left : List (Failure × ℕ)) → left ≡ [] → IsFailuresPart before added now left → IsFailures added →
    (failure : Failure) → failed_by now failure ≡ capped (failed_by before failure + failed_by added failure)
IsFailuresPart-all before added now left none part is =
    IsPart-all failure_cmp-total replies_in refl (failed_by before) (failed_by now) added left none part.whole is.ordered (λ failure. failed_by-fits now failure part.failures)
