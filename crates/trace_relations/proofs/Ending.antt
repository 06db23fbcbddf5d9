-- Ends that are cut leave starts as they are; ticks are of each span.
use Rattle.std.proofs.Common.{◌≡◌, ℕ, suc, zero, ◌+◌, List, [], ◌∷◌, Bool, true, false, cond, length, set, Option, Some, None, refl, sym, ap, ◌∙◌, subst, arith, ℤ}
use Rattle.std.specs.Prelude.{IsPermutation, Result, Ok, Err}
use Rattle.std.specs.List.{zip}
use Rattle.std.specs.Result.{IsErrAnd}
use Rattle.std.proofs.lemmas.List.{length-set}
use Rattle.std.proofs.lemmas.Slice.Zip.{length-zip}
use Rattle.trace_spans.specs.declared.span.Span.{Span}
use Rattle.trace_relations.specs.declared.as_told.AsTold.{AsTold}
use Rattle.trace_relations.specs.declared.fault.RelationsFault.{RelationsFault}
use Rattle.trace_relations.specs.declared.fault.RelationsFault.TheVariants.{NoTime, TooLate, TooManyStages, Memory}
use Rattle.trace_relations.specs.declared.moment.Interval.{Interval}
use Rattle.trace_relations.specs.declared.relations.Timed.{Timed}
use Rattle.trace_relations.specs.declared.times.Times.{Times}
use Rattle.trace_relations.specs.declared.unit.Unit.{Unit as TickUnit}
use Rattle.trace_relations.specs.ByStart.{AreByStart, all_starts, starts_from}
use Rattle.trace_relations.specs.LateEnds.{end_of_caller, ended_with, with_callers_end, with_callers_ends}
use Rattle.trace_relations.specs.Moments.{interval_at}
use Rattle.trace_relations.specs.Parents.{all_references}
use Rattle.trace_relations.specs.Reads.{IsFault}
use Rattle.trace_relations.specs.Relations.{IsTimed, ended, moves_of, ticks_of, told_times}
use Rattle.trace_relations.specs.Ticks.{earliest_time, interval_of, intervals_from, intervals_of, is_too_late, then_on, too_late}
use Rattle.trace_relations.specs.Times.{times_from}

-- ---- starts stay

set_starts : (i : ℕ) (xs : List Interval) (k : ℕ) (end : Option ℕ) → starts_from i (set xs k (record { start = (interval_at xs k).start; end = end })) ≡ starts_from i xs
set_starts i [] k end = refl
set_starts i (x ∷ xs) zero end = refl
set_starts i (x ∷ xs) (suc k) end = ap (λ rest. (x.start, i) ∷ rest) (set_starts (i + 1) xs k end)

one_starts : (intervals : List Interval) (place : ℕ) (end : Option ℕ) → all_starts (ended_with intervals place end) ≡ all_starts intervals
one_starts intervals place None = refl
one_starts intervals place (Some end) = set_starts 0 intervals place (Some end)

one_long : (intervals : List Interval) (place : ℕ) (end : Option ℕ) → length (ended_with intervals place end) ≡ length intervals
one_long intervals place None = refl
one_long intervals place (Some end) = length-set intervals place (record { start = (interval_at intervals place).start; end = Some end })

all_starts_kept : (spans : List Span) (references : List (List ℕ × Bool)) (order : List ℕ) (intervals : List Interval) → all_starts (with_callers_ends spans references order intervals) ≡ all_starts intervals
all_starts_kept spans references [] intervals = refl
all_starts_kept spans references (place ∷ order) intervals = all_starts_kept spans references order (with_callers_end spans references intervals place) ∙ one_starts intervals place (end_of_caller spans references intervals place)

all_long : (spans : List Span) (references : List (List ℕ × Bool)) (order : List ℕ) (intervals : List Interval) → length (with_callers_ends spans references order intervals) ≡ length intervals
all_long spans references [] intervals = refl
all_long spans references (place ∷ order) intervals = all_long spans references order (with_callers_end spans references intervals place) ∙ one_long intervals place (end_of_caller spans references intervals place)

either_same : {X : Type 0} (f : List Interval → X) (b : Bool) (xs ys : List Interval) → f ys ≡ f xs → f (cond b xs ys) ≡ f xs
either_same f true xs ys same = refl
either_same f false xs ys same = same

pub ended_starts : (as_told : AsTold) (spans : List Span) (order : List ℕ) (intervals : List Interval) → all_starts (ended as_told spans order intervals) ≡ all_starts intervals
ended_starts as_told spans order intervals = either_same all_starts as_told.clocks intervals (with_callers_ends spans (all_references spans) order intervals) (all_starts_kept spans (all_references spans) order intervals)

pub ended_long : (as_told : AsTold) (spans : List Span) (order : List ℕ) (intervals : List Interval) → length (ended as_told spans order intervals) ≡ length intervals
ended_long as_told spans order intervals = either_same (λ (those : List Interval). length those) as_told.clocks intervals (with_callers_ends spans (all_references spans) order intervals) (all_long spans (all_references spans) order intervals)

-- so the order of starts does
pub ended_by_start : (as_told : AsTold) (spans : List Span) (order : List ℕ) (told intervals : List Interval) → intervals ≡ ended as_told spans order told → AreByStart told order → AreByStart intervals order
ended_by_start as_told spans order told intervals is by =
    (by.0, (subst (λ starts. IsPermutation starts by.0) (sym (ap all_starts is ∙ ended_starts as_told spans order told)) by.1.0, by.1.1), by.2)

-- ---- ticks are of each span

then_ok : {A B : Type 0} (r : Result A RelationsFault) (next : A → Result B RelationsFault) (b : B) → then_on r next ≡ Ok b → (a : A) × (r ≡ Ok a) × (next a ≡ Ok b)
then_ok (Ok a) next b is = (a, refl, is)
then_ok (Err fault) next b is = absurd (cc)

unless_ok : {A : Type 0} (c : Bool) (fault : RelationsFault) (r : Result A RelationsFault) (a : A) → cond c (Err fault) r ≡ Ok a → r ≡ Ok a
unless_ok true fault r a is = absurd (cc)
unless_ok false fault r a is = is

same_Ok : {A : Type 0} (a b : A) → ◌≡◌ {A = Result A RelationsFault} (Ok a) (Ok b) → a ≡ b
same_Ok a b e = cc

from_long : (unit : TickUnit) (origin : ℤ) (late : Span → RelationsFault) (pairs : List (Span × Times)) (intervals : List Interval) → intervals_from unit origin late pairs ≡ Ok intervals → length intervals ≡ length pairs
from_long unit origin late [] intervals is = sym (ap length (same_Ok [] intervals is))
from_long unit origin late ((span, times) ∷ pairs) intervals is =
    let rest = then_ok (intervals_from unit origin late pairs) (λ others. Ok (interval_of unit origin times ∷ others)) intervals (unless_ok (is_too_late unit origin times) (late span) (then_on (intervals_from unit origin late pairs) (λ others. Ok (interval_of unit origin times ∷ others))) intervals is) in
    sym (ap length (same_Ok (interval_of unit origin times ∷ rest.0) intervals rest.2)) ∙ ap suc (from_long unit origin late pairs rest.0 rest.1)

times_long : (moves : ℕ → ℤ) (i : ℕ) (spans : List Span) → length (times_from moves i spans) ≡ length spans
times_long moves i [] = refl
times_long moves i (span ∷ spans) = ap suc (times_long moves (i + 1) spans)

pub ticks_long : (unit : TickUnit) (as_told : AsTold) (spans : List Span) (origin : ℤ) (intervals : List Interval) → ticks_of unit as_told spans ≡ Ok (origin, intervals) → length intervals ≡ length spans
ticks_long unit as_told spans origin intervals is =
    let first = then_ok (earliest_time spans (told_times as_told spans)) (λ time. then_on (intervals_of unit time spans (told_times as_told spans)) (λ those. Ok (time, those))) (origin, intervals) is in
    let rest = then_ok (intervals_of unit first.0 spans (told_times as_told spans)) (λ those. Ok (first.0, those)) (origin, intervals) first.2 in
    let same : rest.0 ≡ intervals = ap (λ (pair : ℤ × List Interval). pair.1) (same_Ok (first.0, rest.0) (origin, intervals) rest.2) in
    let long : length (told_times as_told spans) ≡ length spans = times_long (moves_of as_told spans) 0 spans in
    let zipped = from_long unit first.0 (too_late first.0 spans (told_times as_told spans)) (zip spans (told_times as_told spans)) rest.0 rest.1 in
    let e : length rest.0 ≡ length intervals = ap (λ (those : List Interval). length those) same in
    omega (arith, zipped, e, length-zip spans (told_times as_told spans), long)

-- ---- the ticks of a trace, or the first fault

then_fault : {A B : Type 0} (fault : RelationsFault) (r : Result A RelationsFault) (next : A → Result B RelationsFault) → IsFault fault r → IsFault fault (then_on r next)
then_fault Memory r next is = tt
then_fault (NoTime span) r next is = ap (λ x. then_on x next) is
then_fault (TooLate late) r next is = ap (λ x. then_on x next) is
then_fault TooManyStages r next is = ap (λ x. then_on x next) is

same_fault : {A : Type 0} (fault : RelationsFault) (r s : Result A RelationsFault) → r ≡ s → IsFault fault r → IsFault fault s
same_fault fault r s same is = subst (IsFault fault) same is

ticks_with : TickUnit → List Span → List Times → Result (ℤ × List Interval) RelationsFault
ticks_with unit spans times = then_on (earliest_time spans times) (λ origin. then_on (intervals_of unit origin spans times) (λ intervals. Ok (origin, intervals)))

ticks_same : (unit : TickUnit) (as_told : AsTold) (spans : List Span) (times : List Times) → times ≡ told_times as_told spans → ticks_with unit spans times ≡ ticks_of unit as_told spans
unfolding ticks_with
ticks_same unit as_told spans times is = ap (λ those. then_on (earliest_time spans those) (λ origin. then_on (intervals_of unit origin spans those) (λ intervals. Ok (origin, intervals)))) is

pub no_origin : (unit : TickUnit) (as_told : AsTold) (spans : List Span) (times : List Times) (fault : RelationsFault) → times ≡ told_times as_told spans → IsFault fault (earliest_time spans times) → IsFault fault (ticks_of unit as_told spans)
unfolding ticks_with
no_origin unit as_told spans times fault is at =
    same_fault fault (ticks_with unit spans times) (ticks_of unit as_told spans) (ticks_same unit as_told spans times is)
    (then_fault fault (earliest_time spans times) (λ origin. then_on (intervals_of unit origin spans times) (λ intervals. Ok (origin, intervals))) at)

pub no_intervals : (unit : TickUnit) (as_told : AsTold) (spans : List Span) (times : List Times) (origin : ℤ) (fault : RelationsFault) → times ≡ told_times as_told spans → earliest_time spans times ≡ Ok origin → IsFault fault (intervals_of unit origin spans times) → IsFault fault (ticks_of unit as_told spans)
unfolding ticks_with
no_intervals unit as_told spans times origin fault is from at =
    same_fault fault (ticks_with unit spans times) (ticks_of unit as_told spans) (ticks_same unit as_told spans times is)
    (same_fault fault (then_on (intervals_of unit origin spans times) (λ intervals. Ok (origin, intervals))) (ticks_with unit spans times)
    (sym (ap (λ r. then_on r (λ first. then_on (intervals_of unit first spans times) (λ intervals. Ok (first, intervals)))) from))
    (then_fault fault (intervals_of unit origin spans times) (λ intervals. Ok (origin, intervals)) at))

pub ticks_are : (unit : TickUnit) (as_told : AsTold) (spans : List Span) (times : List Times) (origin : ℤ) (intervals : List Interval) → times ≡ told_times as_told spans → earliest_time spans times ≡ Ok origin → intervals_of unit origin spans times ≡ Ok intervals → ticks_of unit as_told spans ≡ Ok (origin, intervals)
unfolding ticks_with
ticks_are unit as_told spans times origin intervals is from at =
    sym (ticks_same unit as_told spans times is)
    ∙ ap (λ r. then_on r (λ first. then_on (intervals_of unit first spans times) (λ those. Ok (first, those)))) from
    ∙ ap (λ r. then_on r (λ those. Ok (origin, those))) at

-- a fault is passed on
pub passed_on : (unit : TickUnit) (as_told : AsTold) (spans : List Span) (result : Result Timed RelationsFault) (fault : RelationsFault) → IsErrAnd result (λ other. other ≡ fault) → IsFault fault (ticks_of unit as_told spans) → IsTimed unit as_told spans result
passed_on unit as_told spans (Ok timed) fault is at = absurd is
passed_on unit as_told spans (Err other) fault is at = subst (λ those. IsFault those (ticks_of unit as_told spans)) (sym is) at
