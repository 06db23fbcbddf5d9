-- What is left as it is told.
use Rattle.std.proofs.Common.{◌≡◌, ℕ, List, [], ◌∷◌, Bool, true, false, cond, length, map, replicate, Option, None, refl, sym, ap, ◌∙◌, pos, ℤ}
use Rattle.trace_spans.specs.declared.span.Span.{Span}
use Rattle.trace_relations.specs.declared.as_told.AsTold.{AsTold}
use Rattle.trace_relations.specs.declared.hosts.Host.{Host}
use Rattle.trace_relations.specs.declared.moment.Interval.{Interval}
use Rattle.trace_relations.specs.declared.placing.Moved.{Moved}
use Rattle.trace_relations.specs.declared.times.Times.{Times}
use Rattle.trace_relations.specs.Attempts.{Attempts, attempts_of, tried_once}
use Rattle.trace_relations.specs.GivenUp.{Called, all_given_up}
use Rattle.trace_relations.specs.LateEnds.{with_callers_ends}
use Rattle.trace_relations.specs.Moves.{all_moves, moved_clocks}
use Rattle.trace_relations.specs.Parents.{all_references}
use Rattle.trace_relations.specs.Relations.{calls_of, ended, given_up_of, moved_of, told_times, tried_of}
use Rattle.trace_relations.specs.Times.{times_of}
use Rattle.trace_relations.proofs.Clocked.{none_told}

chosen : {X : Type 0} (b : Bool) (x y : X) → b ≡ true → x ≡ cond b x y
chosen b x y is = sym (ap (λ c. cond c x y) is)

passed_over : {X : Type 0} (b : Bool) (x y : X) → b ≡ false → y ≡ cond b x y
passed_over b x y is = sym (ap (λ c. cond c x y) is)

-- clocks that are taken as they are, or moved
pub times_told : (as_told : AsTold) (spans : List Span) (times : List Times) → as_told.clocks ≡ true → times ≡ times_of (λ place. pos 0) spans → times ≡ told_times as_told spans
times_told as_told spans times told are = are ∙ ap (λ (moves : ℕ → ℤ). times_of moves spans) (chosen as_told.clocks (λ place. pos 0) (all_moves spans) told)

pub times_found : (as_told : AsTold) (spans : List Span) (times : List Times) → as_told.clocks ≡ false → times ≡ times_of (all_moves spans) spans → times ≡ told_times as_told spans
times_found as_told spans times found are = are ∙ ap (λ (moves : ℕ → ℤ). times_of moves spans) (passed_over as_told.clocks (λ place. pos 0) (all_moves spans) found)

pub moved_told : (as_told : AsTold) (spans : List Span) (moved : List Moved) → as_told.clocks ≡ true → moved ≡ [] → moved ≡ moved_of as_told spans
moved_told as_told spans moved told none = none ∙ sym (none_told spans) ∙ ap (λ (moves : ℕ → ℤ). moved_clocks spans moves) (chosen as_told.clocks (λ place. pos 0) (all_moves spans) told)

pub moved_found : (as_told : AsTold) (spans : List Span) (moved : List Moved) → as_told.clocks ≡ false → moved ≡ moved_clocks spans (all_moves spans) → moved ≡ moved_of as_told spans
moved_found as_told spans moved found are = are ∙ ap (λ (moves : ℕ → ℤ). moved_clocks spans moves) (passed_over as_told.clocks (λ place. pos 0) (all_moves spans) found)

-- ends that are left, or cut
pub ends_told : (as_told : AsTold) (spans : List Span) (order : List ℕ) (intervals : List Interval) → as_told.clocks ≡ true → intervals ≡ ended as_told spans order intervals
ends_told as_told spans order intervals told = chosen as_told.clocks intervals (with_callers_ends spans (all_references spans) order intervals) told

pub ends_found : (as_told : AsTold) (spans : List Span) (references : List (List ℕ × Bool)) (order : List ℕ) (old new : List Interval) → as_told.clocks ≡ false → references ≡ all_references spans → new ≡ with_callers_ends spans references order old → new ≡ ended as_told spans order old
ends_found as_told spans references order old new found meant are =
    are ∙ ap (λ those. with_callers_ends spans those order old) meant ∙ passed_over as_told.clocks old (with_callers_ends spans (all_references spans) order old) found

-- calls that are each tried once, or again
pub tries_told : (as_told : AsTold) (spans : List Span) (intervals : List Interval) (order : List ℕ) (hosts : List Host) (waiting : List (Option ℕ)) (attempts : Attempts) → as_told.calls ≡ true → attempts ≡ tried_once → attempts ≡ tried_of as_told spans intervals order hosts waiting
tries_told as_told spans intervals order hosts waiting attempts told are = are ∙ chosen as_told.calls tried_once (attempts_of (calls_of spans intervals hosts waiting) order) told

pub tries_found : (as_told : AsTold) (spans : List Span) (intervals : List Interval) (order : List ℕ) (hosts : List Host) (waiting : List (Option ℕ)) (attempts : Attempts) → as_told.calls ≡ false → attempts ≡ attempts_of (calls_of spans intervals hosts waiting) order
    → attempts ≡ tried_of as_told spans intervals order hosts waiting
tries_found as_told spans intervals order hosts waiting attempts found are = are ∙ passed_over as_told.calls tried_once (attempts_of (calls_of spans intervals hosts waiting) order) found

-- calls of which none is given up, or some
none_of_each : (spans : List Span) → replicate (length spans) None ≡ map {B = Option ℕ} (λ span. None) spans
none_of_each [] = refl
none_of_each (span ∷ spans) = ap (λ those. None ∷ those) (none_of_each spans)

pub given_up_told : (as_told : AsTold) (spans : List Span) (order : List ℕ) (called : Called) (given_up : List (Option ℕ)) → as_told.calls ≡ true → given_up ≡ replicate (length spans) None → given_up ≡ given_up_of as_told spans order called
given_up_told as_told spans order called given_up told are = are ∙ none_of_each spans ∙ chosen as_told.calls (map (λ span. None) spans) (all_given_up called order) told

pub given_up_found : (as_told : AsTold) (spans : List Span) (order : List ℕ) (called : Called) (given_up : List (Option ℕ)) → as_told.calls ≡ false → given_up ≡ all_given_up called order → given_up ≡ given_up_of as_told spans order called
given_up_found as_told spans order called given_up found are = are ∙ passed_over as_told.calls (map (λ span. None) spans) (all_given_up called order) found
