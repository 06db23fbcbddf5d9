-- What spans called, as it is kept.
use Rattle.std.specs.Prelude.{◌≡◌, ℕ, ◌<◌, List, true, length, map, nat_eq, if◌then◌else◌, Option, None, Some, option_and_then, filter}
use Rattle.std.specs.List.{last_or, list_any}
use Rattle.trace_relations.specs.declared.given_up.Called.{Called as Kept}
use Rattle.trace_relations.specs.declared.given_up.Callers.{Callers}
use Rattle.trace_relations.specs.Ancestry.{parent_at}
use Rattle.trace_relations.specs.GivenUp.{Called, answers, is_failure, is_failure_of, may_answer, places, ran_on, runs_on}

abbrev pub called_with : Kept → Called
called_with called = record {
  spans = called.spans.now;
  intervals = called.intervals.now;
  references = called.references.now;
  parents = called.parents.now;
  waiting = called.waiting.now;
  next = parent_at called.next.now;
}

-- the order has each span
abbrev pub HasAllPlaces : Called → List ℕ → Type 0
HasAllPlaces called order = (place : ℕ) → place < length called.spans → list_any (nat_eq place) order ≡ true

abbrev pub ParentsAreSpans : Called → Type 0
ParentsAreSpans called = (place caller : ℕ) → parent_at called.parents place ≡ Some caller → caller < length called.spans

-- the caller that waits for a span which failed
abbrev pub failed_for : Called → ℕ → Option ℕ
failed_for called place = if is_failure called place then parent_at called.waiting place else None

abbrev pub if_answers : Called → ℕ → ℕ → Option ℕ
if_answers called place caller = if answers called caller place then Some caller else None

-- the caller that a span may answer
abbrev pub answered : Called → ℕ → Option ℕ
answered called place = option_and_then (if_answers called place) (parent_at called.waiting place)

abbrev pub if_runs_on : Called → ℕ → ℕ → Option ℕ
if_runs_on called place caller = if runs_on called caller place then Some caller else None

-- the caller that a span outlives
abbrev pub outlived : Called → ℕ → Option ℕ
outlived called place = option_and_then (if_runs_on called place) (parent_at called.parents place)

-- what is known of each span as a caller by the calls in an order: whether one of its own failed, whether one ran on, and which was to answer last
pub record AreCallers (called : Called) (order : List ℕ) (callers : Callers) : Type 0 where
  pub has_failure : callers.has_failure.items ≡ map (λ caller. list_any (is_failure_of called caller) order) (places called)
  pub has_run_on : callers.has_run_on.items ≡ map (λ caller. list_any (ran_on called caller) order) (places called)
  pub answer : callers.answer.items ≡ map (λ caller. last_or None (filter (may_answer called caller) order)) (places called)
