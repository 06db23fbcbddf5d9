-- Spans that were given up: they are called by a span that has ended, and started before it did.
use Rattle.std.proofs.Common.{◌≡◌, ℕ, suc, zero, ◌<◌, ◌≤◌, inl, inr, List, [], ◌∷◌, Bool, true, false, cond, length, map, Option, Some, None, refl, sym, ap, ◌∙◌, subst, arith}
use Rattle.std.specs.Prelude.{◌⊎◌, ◌&&◌, ◌||◌, filter, is_some, nat_le, not, slice_get}
use Rattle.std.specs.List.{last_or, list_any}
use Rattle.std.specs.Option.{option_and_then, option_map}
use Rattle.std.proofs.lemmas.Bool.{false≢true, leb-true}
use Rattle.std.proofs.lemmas.Option.{none-some, same_Some}
use Rattle.trace_relations.specs.Ancestry.{parent_at, start_at}
use Rattle.trace_relations.specs.Attempts.{has_failed}
use Rattle.trace_relations.specs.GivenUp.{Called, all_given_up, answers, failed_by_itself, given_up_by, has_end, if_given_up, is_child, is_last_answer, is_late, is_unnamed, may_answer, places, ran_on, runs_on, sends_none, was_called}
use Rattle.trace_relations.specs.Moments.{end_after, end_moment, ended_before, interval_at, start_moment}
use Rattle.trace_relations.specs.Relations.{PlainRelations, called_of}
use Rattle.trace_relations.specs.Parents.{all_references}
use Rattle.trace_relations.specs.Waits.{is_named, is_within}
use Rattle.trace_relations.specs.declared.as_told.AsTold.{AsTold}
use Rattle.trace_relations.specs.declared.moment.Moment.{Moment}
use Rattle.trace_spans.specs.declared.span.Span.{Span}
use Rattle.trace_laws.proofs.Each.{In, each-in, filter_each}
use Rattle.trace_laws.proofs.Numbers.{number, start_number}
use Rattle.trace_laws.proofs.Relations.{IsFamily, Parents, Waits, and_left, and_right, known_known, mapped_at, not_past_number, not_true, same_option, start_before_end, waits_is, within_number}

last_in : (xs : List ℕ) (first : Option ℕ) (x : ℕ) → last_or first xs ≡ Some x → (first ≡ Some x) ⊎ In xs x
last_in [] first x is = inl is
last_in (y ∷ ys) first x is = elim (last_in ys (Some y) x is) [
  | inl same ↦ inr (inl (same_Some y x same))
  | inr later ↦ inr (inr later)
]

last_of : (xs : List ℕ) (x : ℕ) → last_or None xs ≡ Some x → In xs x
last_of xs x is = elim (last_in xs None x is) [
  | inl none ↦ absurd (none-some x none)
  | inr here ↦ here
]

none_given : (spans : List Span) (place : ℕ) → parent_at (map (λ (span : Span). None) spans) place ≡ None
none_given [] place = refl
none_given (span ∷ spans) zero = refl
none_given (span ∷ spans) (suc place) = none_given spans place

-- a span has an end
pub end_of : (place : ℕ) (start : ℕ) (end : Option ℕ) → is_some end ≡ true → (moment : Moment) × (option_map (end_after start) end ≡ Some moment)
end_of place start None ends = absurd (false≢true ends)
end_of place start (Some tick) ends = (end_after start tick, refl)

-- what ended by its parent has ended
pub end_exists : (child parent : Option Moment) → is_within child parent ≡ true → (last : Moment) × (child ≡ Some last)
end_exists None parent within = absurd (false≢true within)
end_exists (Some last) parent within = (last, refl)

module _ {as_told : AsTold} (spans : List Span) (relations : PlainRelations) (is : IsFamily as_told spans relations) where
  -- the caller that gave a span up has ended, after the span started
  pub record GaveUp (caller place : ℕ) : Type 0 where
    pub child : parent_at (Parents spans relations is) place ≡ Some caller
    pub end : Moment
    pub ends : end_moment (interval_at relations.intervals caller) ≡ Some end
    pub sooner : start_number relations.intervals place < number end
    pub since : start_at relations.intervals caller ≤ start_at relations.intervals place

  abbrev Told : Called
  Told = called_of spans relations.intervals relations.parents relations.waiting relations.attempts

  sooner_by_running : (caller place : ℕ) (end : Moment) → end_moment (interval_at relations.intervals caller) ≡ Some end → ran_on Told caller place ≡ true → start_number relations.intervals place < number end
  sooner_by_running caller place end ends ran =
      let runs : runs_on Told caller place ≡ true = and_right (is_child relations.parents caller place) (runs_on Told caller place) ran in
      let open_then = and_left (not (ended_before (interval_at relations.intervals caller) (start_moment (interval_at relations.intervals place)))) _
      (and_right (nat_le (start_at relations.intervals caller) (start_at relations.intervals place)) _
      (and_right (sends_none (slice_get spans caller) (slice_get spans place)) _ (and_right (is_named (all_references spans) place) _ runs))) in
      not_past_number relations.intervals caller place end (not_true (ended_before (interval_at relations.intervals caller) (start_moment (interval_at relations.intervals place))) open_then) ends

  sooner_by_waiting : (caller place : ℕ) (end : Moment) → end_moment (interval_at relations.intervals caller) ≡ Some end → may_answer Told caller place ≡ true → start_number relations.intervals place < number end
  sooner_by_waiting caller place end ends may =
      let waited : parent_at relations.waiting place ≡ Some caller = same_option (parent_at relations.waiting place) caller (and_left (is_child relations.waiting caller place) (answers Told caller place) may) in
      let waits : Waits spans relations is caller place = waits_is spans relations is place caller (known_known (slice_get relations.waiting place) caller waited) in
      let last = end_exists (end_moment (interval_at relations.intervals place)) (end_moment (interval_at relations.intervals caller)) waits.ends in
      let before : start_number relations.intervals place < number last.0 = start_before_end (interval_at relations.intervals place) last.0 (is.forward place) last.1 in
      let by : number last.0 ≤ number end = within_number (end_moment (interval_at relations.intervals place)) (end_moment (interval_at relations.intervals caller)) last.0 end waits.ends last.1 ends in
      omega arith

  sooner_by : (b : Bool) (caller place : ℕ) (end : Moment) (late named : Bool) → end_moment (interval_at relations.intervals caller) ≡ Some end
      → cond b (ran_on Told caller place && named) (late && is_last_answer Told relations.order caller place) ≡ true → start_number relations.intervals place < number end
  sooner_by true caller place end late named ends called = sooner_by_running caller place end ends (and_left (ran_on Told caller place) named called)
  sooner_by false caller place end late named ends called =
      let last = last_of (filter (may_answer Told caller) relations.order) place (same_option (last_or None (filter (may_answer Told caller) relations.order)) place (and_right late (is_last_answer Told relations.order caller place) called)) in
      sooner_by_waiting caller place end ends
      (each-in (λ p. may_answer Told caller p ≡ true) (filter (may_answer Told caller) relations.order) (filter_each (may_answer Told caller) relations.order) place last)

  since_by : (b : Bool) (caller place : ℕ) (late named : Bool) → cond b (ran_on Told caller place && named) (late && is_last_answer Told relations.order caller place) ≡ true → start_at relations.intervals caller ≤ start_at relations.intervals place
  since_by true caller place late named called =
      let runs : runs_on Told caller place ≡ true = and_right (is_child relations.parents caller place) (runs_on Told caller place) (and_left (ran_on Told caller place) named called) in
      leb-true (start_at relations.intervals caller) (start_at relations.intervals place)
      (and_left (nat_le (start_at relations.intervals caller) (start_at relations.intervals place)) _
      (and_right (sends_none (slice_get spans caller) (slice_get spans place)) _ (and_right (is_named (all_references spans) place) _ runs)))
  since_by false caller place late named called =
      let last = last_of (filter (may_answer Told caller) relations.order) place (same_option (last_or None (filter (may_answer Told caller) relations.order)) place (and_right late (is_last_answer Told relations.order caller place) called)) in
      let may = each-in (λ p. may_answer Told caller p ≡ true) (filter (may_answer Told caller) relations.order) (filter_each (may_answer Told caller) relations.order) place last in
      leb-true (start_at relations.intervals caller) (start_at relations.intervals place)
      (and_left (nat_le (start_at relations.intervals caller) (start_at relations.intervals place)) _ (and_right (is_child relations.waiting caller place) (answers Told caller place) may))

  by_caller : (place caller : ℕ) (found : Option ℕ) → parent_at relations.parents place ≡ found → option_and_then (if_given_up Told relations.order place) found ≡ Some caller → GaveUp caller place
  by_caller place caller None at given = absurd (none-some caller given)
  by_caller place caller (Some other) at given = by_tests (failed_by_itself Told other) (was_called Told relations.order other place) refl refl given
    where
      by_tests : (a b : Bool) → failed_by_itself Told other ≡ a → was_called Told relations.order other place ≡ b → cond (a && b) (Some other) None ≡ Some caller → GaveUp caller place
      by_tests true true failed called given =
          let ended : has_end relations.intervals other ≡ true = and_left (has_end relations.intervals other) _ (and_right (has_failed (slice_get spans other)) _ failed) in
          let end = end_of other (interval_at relations.intervals other).start (interval_at relations.intervals other).end ended in
          let gave : GaveUp other place = record {
            child = sym (ap (λ parents. parent_at parents place) is.parents) ∙ at;
            end = end.0;
            ends = end.1;
            since = since_by (list_any (ran_on Told other) (places Told)) other place (is_late (slice_get spans other)) (is_late (slice_get spans other) || is_unnamed (slice_get spans other)) called;
            sooner = sooner_by (list_any (ran_on Told other) (places Told)) other place end.0 (is_late (slice_get spans other)) (is_late (slice_get spans other) || is_unnamed (slice_get spans other)) end.1 called;
          } in
          subst (λ c. GaveUp c place) (same_Some other caller given) gave
      by_tests true false failed called given = absurd (none-some caller given)
      by_tests false b failed called given = absurd (none-some caller given)

  pub gave_up_is : (place caller : ℕ) → parent_at relations.given_up place ≡ Some caller → GaveUp caller place
  gave_up_is place caller here = by_told as_told.calls (sym (ap (λ those. parent_at those place) is.given_up) ∙ here)
    where
      by_told : (b : Bool) → parent_at (cond b (map (λ (span : Span). None) spans) (all_given_up Told relations.order)) place ≡ Some caller → GaveUp caller place
      by_told true none = absurd (none-some caller (sym (none_given spans place) ∙ none))
      by_told false some =
          let at = mapped_at (given_up_by Told relations.order) (length spans) place (Some caller) (known_known (slice_get (all_given_up Told relations.order) place) caller some) in
          by_caller place caller (parent_at relations.parents place) refl at.1
