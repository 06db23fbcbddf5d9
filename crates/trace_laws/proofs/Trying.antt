-- The attempts of the calls of a trace.
use Rattle.std.proofs.Common.{◌≡◌, ℕ, suc, zero, ◌+◌, ◌<◌, ◌≤◌, List, [], ◌∷◌, Bool, true, false, cond, Option, Some, None, refl, sym, ap, ◌∙◌, subst, arith}
use Rattle.std.specs.Prelude.{max, slice_get}
use Rattle.std.specs.Option.{option_and_then}
use Rattle.std.proofs.lemmas.Option.{none-some, same_Some}
use Rattle.trace_relations.proofs.Turns.{in_turn}
use Rattle.trace_relations.specs.Ancestry.{parent_at}
use Rattle.trace_relations.specs.Attempts.{CallsOf, can_try, if_inside, is_inside, is_same_call, same_caller}
use Rattle.trace_relations.specs.Moments.{end_moment, ended_before, interval_at, start_moment}
use Rattle.trace_relations.specs.Relations.{PlainRelations, calls_of}
use Rattle.trace_relations.specs.declared.as_told.AsTold.{AsTold}
use Rattle.trace_relations.specs.declared.moment.Interval.{Interval}
use Rattle.trace_relations.specs.declared.moment.Moment.{Moment}
use Rattle.trace_spans.specs.declared.span.Span.{Span}
use Rattle.trace_laws.proofs.Attempting.{AreTried, all_tried, has_caller, turns}
use Rattle.trace_laws.proofs.GivingUp.{end_exists}
use Rattle.trace_laws.proofs.Numbers.{end_number, number, number_or, start_number}
use Rattle.trace_laws.proofs.Relations.{IsFamily, Waits, and_left, and_right, ended_number, known_known, start_before_end, waits_is}

-- the latest end
pub latest_end : List Interval → ℕ
latest_end [] = 0
latest_end (interval ∷ intervals) = max (number_or (end_moment interval)) (latest_end intervals)

pub latest_is : (intervals : List Interval) (place : ℕ) → end_number intervals place ≤ latest_end intervals
unfolding latest_end
latest_is [] place = omega arith
latest_is (interval ∷ intervals) zero = omega arith
latest_is (interval ∷ intervals) (suc place) = let le : end_number intervals place ≤ latest_end intervals = latest_is intervals place in omega arith

module _ {as_told : AsTold} (spans : List Span) (relations : PlainRelations) (is : IsFamily as_told spans relations) where
  abbrev pub Calls : CallsOf
  Calls = calls_of spans relations.intervals relations.hosts relations.waiting

  pub tried : AreTried Calls is.forward relations.attempts
  tried = subst (AreTried Calls is.forward) (sym is.attempts) (all_tried Calls is.forward as_told.calls relations.order (turns Calls relations.order (in_turn relations.intervals relations.order is.by_start)))

  -- the last attempt of a call
  abbrev pub Last : ℕ → ℕ
  Last place = relations.attempts.last (relations.attempts.first place)

  pub caller_waits : (place caller : ℕ) → Calls.callers place ≡ Some caller → slice_get relations.waiting place ≡ Some (Some caller)
  caller_waits place caller here = by_parent (parent_at relations.waiting place) refl here
    where
      by_test : (b : Bool) (parent : ℕ) → cond b (Some parent) None ≡ Some caller → parent ≡ caller
      by_test true parent some = same_Some parent caller some
      by_test false parent some = absurd (none-some caller some)

      by_parent : (parent : Option ℕ) → parent_at relations.waiting place ≡ parent → option_and_then (if_inside relations.hosts place) parent ≡ Some caller → slice_get relations.waiting place ≡ Some (Some caller)
      by_parent None at some = absurd (none-some caller some)
      by_parent (Some parent) at some = known_known (slice_get relations.waiting place) caller (at ∙ ap Some (by_test (is_inside (slice_get relations.hosts place) parent) parent some))

  -- a call is tried again by one of the same caller, which starts when it has ended
  pub record IsTriedBy (call again : ℕ) : Type 0 where
    pub caller : ℕ
    pub callers : Calls.callers call ≡ Some caller
    pub waits : Waits spans relations is caller call
    pub waits_again : Waits spans relations is caller again
    pub end : Moment
    pub ends : end_moment (interval_at relations.intervals call) ≡ Some end
    pub sooner : number end < start_number relations.intervals again

  pub can_is : (call again : ℕ) → can_try Calls call again ≡ true → IsTriedBy call again
  can_is call again can =
      let both = has_caller (Calls.callers call) (Calls.callers again) (and_left (same_caller (Calls.callers call) (Calls.callers again)) _ can) in
      let ended = ended_number relations.intervals call again
      (and_right (is_same_call (slice_get spans call) (slice_get spans again)) (ended_before (interval_at relations.intervals call) (start_moment (interval_at relations.intervals again)))
      (and_right (same_caller (Calls.callers call) (Calls.callers again)) _ can)) in
      record {
        caller = both.0;
        callers = both.1;
        waits = waits_is spans relations is call both.0 (caller_waits call both.0 both.1);
        waits_again = waits_is spans relations is again both.0 (caller_waits again both.0 both.2);
        end = ended.0;
        ends = ended.1;
        sooner = ended.2;
      }

  pub tried_by : (call again : ℕ) → relations.attempts.next call ≡ Some again → IsTriedBy call again
  tried_by call again next = can_is call again (tried.next call again next).0

  pub last_same : (call again : ℕ) → relations.attempts.next call ≡ Some again → Last again ≡ Last call
  last_same call again next = ap relations.attempts.last (tried.first call again (tried.next call again next).1)

  -- it ends later
  pub ends_later : (call again : ℕ) → relations.attempts.next call ≡ Some again → end_number relations.intervals call < end_number relations.intervals again
  ends_later call again next =
      let by = tried_by call again next in
      let last = end_exists (end_moment (interval_at relations.intervals again)) (end_moment (interval_at relations.intervals by.caller)) by.waits_again.ends in
      later (end_number relations.intervals call) (number by.end) (start_number relations.intervals again) (number last.0) (end_number relations.intervals again) (ap number_or by.ends) by.sooner
      (start_before_end (interval_at relations.intervals again) last.0 (is.forward again) last.1) (ap number_or last.1)
    where
      later : (a b c d e : ℕ) → a ≡ b → b < c → c < d → e ≡ d → a < e
      later a b c d e first lt less second = omega arith

  -- the last attempt ends no earlier, and has the same caller
  pub record HasLast (call : ℕ) : Type 0 where
    pub ends : end_number relations.intervals call ≤ end_number relations.intervals (Last call)
    pub callers : Calls.callers (Last call) ≡ Calls.callers call

  up_to_last : (a b c : ℕ) → a < b → b ≤ c → a ≤ c
  up_to_last a b c lt le = omega arith

  last_in : (fuel call : ℕ) → latest_end relations.intervals < fuel + end_number relations.intervals call → HasLast call
  last_in zero call few = let le : end_number relations.intervals call ≤ latest_end relations.intervals = latest_is relations.intervals call in absurd (omega arith)
  last_in (suc fuel) call few = by_next (relations.attempts.next call) refl (λ again lt. last_in fuel again (more (latest_end relations.intervals) fuel (end_number relations.intervals call) (end_number relations.intervals again) few lt))
    where
      more : (a b c d : ℕ) → a < suc b + c → c < d → a < b + d
      more a b c d lt less = omega arith

      by_next : (next : Option ℕ) → relations.attempts.next call ≡ next → ((again : ℕ) → end_number relations.intervals call < end_number relations.intervals again → HasLast again) → HasLast call
      by_next None none again =
          let same : Last call ≡ call = tried.last call none in
          record { ends = subst (λ p. end_number relations.intervals call ≤ end_number relations.intervals p) (sym same) (omega arith); callers = ap Calls.callers same }
      by_next (Some other) some again =
          let lt : end_number relations.intervals call < end_number relations.intervals other = ends_later call other some in
          let rest = again other lt in
          let same : Last other ≡ Last call = last_same call other some in
          record {
            ends = up_to_last (end_number relations.intervals call) (end_number relations.intervals other) (end_number relations.intervals (Last call)) lt (subst (λ p. end_number relations.intervals other ≤ end_number relations.intervals p) same rest.ends);
            callers = ap Calls.callers (sym same) ∙ rest.callers ∙ same_callers other some;
          }
        where
          same_callers : (other : ℕ) → relations.attempts.next call ≡ Some other → Calls.callers other ≡ Calls.callers call
          same_callers other some =
              let both = has_caller (Calls.callers call) (Calls.callers other) (and_left (same_caller (Calls.callers call) (Calls.callers other)) _ (tried.next call other some).0) in
              both.2 ∙ sym both.1

  pub last_is : (call : ℕ) → HasLast call
  last_is call = last_in (suc (latest_end relations.intervals)) call (omega arith)

  -- strictly later where it is tried again
  pub last_later : (call again : ℕ) → relations.attempts.next call ≡ Some again → end_number relations.intervals call < end_number relations.intervals (Last call)
  last_later call again next =
      still (end_number relations.intervals call) (end_number relations.intervals again) (end_number relations.intervals (Last call)) (ends_later call again next)
      (subst (λ p. end_number relations.intervals again ≤ end_number relations.intervals p) (last_same call again next) (last_is again).ends)
    where
      still : (a b c : ℕ) → a < b → b ≤ c → a < c
      still a b c lt le = omega arith

  -- ---- the first attempt of a call that has ended

  pub first_last : (child : ℕ) → relations.attempts.next child ≡ None → Last (relations.attempts.first child) ≡ child
  first_last child last = ap relations.attempts.last (tried.same child) ∙ tried.last child last

  -- one that is tried once is its own
  pub first_itself : (child : ℕ) → relations.attempts.next child ≡ None → relations.attempts.next (relations.attempts.first child) ≡ None → relations.attempts.first child ≡ child
  first_itself child last none = sym (tried.last (relations.attempts.first child) none) ∙ first_last child last

  -- one that is tried again has the parent that waits for the last
  pub first_parent : (child again parent : ℕ) → relations.attempts.next (relations.attempts.first child) ≡ Some again → slice_get relations.waiting child ≡ Some (Some parent) → Waits spans relations is parent (relations.attempts.first child)
  first_parent child again parent next waits =
      let by = tried_by (relations.attempts.first child) again next in
      let at : slice_get relations.waiting child ≡ Some (Some by.caller) = caller_waits child by.caller (sym (tried.callers child) ∙ by.callers) in
      let same : by.caller ≡ parent = same_Some by.caller parent (same_Some (Some by.caller) (Some parent) (sym at ∙ waits)) in
      subst (λ p. Waits spans relations is p (relations.attempts.first child)) same by.waits
