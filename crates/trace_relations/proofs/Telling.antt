-- Ticks of times, one span after another.
use Rattle.std.proofs.Common.{◌≡◌, ℕ, ◌+◌, ◌<◌, ℤ, pos, negsuc, ◌-ℤ◌, ◌<ℤ◌, List, [], ◌∷◌, ◌++◌, Bool, true, false, cond, drop, get_or, length, min, Option, Some, None, refl, sym, ap, ◌∙◌, subst, arith}
use Rattle.std.specs.Prelude.{◌||◌, Result, Ok, Err, find, is_none, nat_lt, option_and_then, option_map}
use Rattle.std.specs.Int.{int_gap}
use Rattle.std.specs.Int.RustNames.{unsigned_abs}
use Rattle.std.specs.List.{zip}
use Rattle.std.specs.Option.{option_eq}
use Rattle.std.specs.Ordering.{int_eq}
use Rattle.std.proofs.lemmas.Bool.{cond-false, cond-true, true≢false}
use Rattle.std.proofs.lemmas.Int.{ints}
use Rattle.std.proofs.lemmas.List.{append_assoc, drop_all, drop_more}
use Rattle.std.proofs.lemmas.Option.{none-some, same_Some}
use Rattle.std.proofs.lemmas.Slice.Zip.{get_or-zip, length-zip}
use Rattle.trace_spans.specs.declared.span.Span.{Span}
use Rattle.trace_relations.specs.declared.fault.RelationsFault.{RelationsFault}
use Rattle.trace_relations.specs.declared.fault.RelationsFault.TheVariants.{NoTime}
use Rattle.trace_relations.specs.declared.moment.Interval.{Interval}
use Rattle.trace_relations.specs.declared.times.Times.{Times}
use Rattle.trace_relations.specs.declared.unit.Unit.{Unit as TickUnit}
use Rattle.trace_relations.specs.declared.unit.Unit.TheVariants.{Nanosecond, Microsecond, Millisecond}
use Rattle.trace_relations.specs.Reads.{IsFault}
use Rattle.trace_relations.specs.SpanNames.{name_of}
use Rattle.trace_relations.specs.Ticks.{earlier, earliest_from, interval_between, interval_if, interval_of, intervals_from, is_first, is_late, is_too_late, last_tick, then_on, tick_if, tick_of, told_time, too_late}
use Rattle.trace_relations.specs.Units.{nanoseconds}

-- ---- one pair after another

abbrev pub timed : Span → Times → Span × Times
timed span times = (span, times)

abbrev pub span_of : Span × Times → Span
span_of pair = pair.0

-- the spans from one on, with their times
pub zipped_more : (spans : List Span) (times : List Times) (k : ℕ) (span : Span) (of_span : Times) → k < length spans → k < length times → span ≡ get_or spans k span → of_span ≡ get_or times k of_span
    → drop k (zip spans times) ≡ timed span of_span ∷ drop (k + 1) (zip spans times)
zipped_more spans times k span of_span lt_spans lt_times is_span is_times =
    let long = length-zip spans times in
    let lt : k < length (zip spans times) = omega arith in
    drop_more (zip spans times) k (span, of_span) lt
    ∙ ap (λ pair. pair ∷ drop (k + 1) (zip spans times)) (get_or-zip spans times k (span, of_span) lt_spans lt_times ∙ ap (λ x. timed x (get_or times k of_span)) (sym is_span) ∙ ap (timed span) (sym is_times))

pub zipped_all : (spans : List Span) (times : List Times) (k : ℕ) → k ≡ min (length spans) (length times) → drop k (zip spans times) ≡ []
zipped_all spans times k all = let long = length-zip spans times in drop_all k (zip spans times) (omega arith)

-- ---- the earliest time

pub earliest_more : (earliest : Option ℤ) (span : Span) (times : Times) (others : List (Span × Times)) (time : Option ℤ) → time ≡ earlier times.start times.end → is_none time ≡ false → earliest_from earliest (timed span times ∷ others) ≡ earliest_from (earlier earliest time) others
earliest_more earliest span times others None is told = absurd (true≢false told)
earliest_more earliest span times others (Some time) is told = ap (λ o. then_on (told_time span o) (λ each. earliest_from (earlier earliest (Some each)) others)) (sym is)

pub earliest_fails : (earliest : Option ℤ) (span : Span) (times : Times) (others : List (Span × Times)) (time : Option ℤ) → time ≡ earlier times.start times.end → is_none time ≡ true → earliest_from earliest (timed span times ∷ others) ≡ Err (NoTime (name_of span))
earliest_fails earliest span times others (Some time) is none = absurd (true≢false (sym none))
earliest_fails earliest span times others None is none = ap (λ o. then_on (told_time span o) (λ each. earliest_from (earlier earliest (Some each)) others)) (sym is)

-- ---- ticks

pub not_late : (unit : TickUnit) (origin : ℤ) (o : Option ℤ) → is_late unit origin o ≡ false → option_and_then (tick_if unit origin) o ≡ option_map (tick_of unit origin) o
not_late unit origin None low = refl
not_late unit origin (Some time) low = cond-false (nat_lt last_tick (tick_of unit origin time)) None (Some (tick_of unit origin time)) low

pub interval_is : (unit : TickUnit) (origin : ℤ) (times : Times) (start end : Option ℕ) (interval : Interval) → is_late unit origin times.start ≡ false → is_late unit origin times.end ≡ false → start ≡ option_and_then (tick_if unit origin) times.start → end ≡ option_and_then (tick_if unit origin) times.end
    → interval ≡ interval_between start end → Some interval ≡ interval_if unit origin times
unfolding interval_of
interval_is unit origin times start end interval low_start low_end start_is end_is is =
    ap Some (is ∙ ap (λ o. interval_between o end) (start_is ∙ not_late unit origin times.start low_start) ∙ ap (interval_between (option_map (tick_of unit origin) times.start)) (end_is ∙ not_late unit origin times.end low_end))
    ∙ sym (cond-false (is_too_late unit origin times) None (Some (interval_of unit origin times)) (ap (λ b. b || is_late unit origin times.end) low_start ∙ low_end))

then_push : (r : Result (List Interval) RelationsFault) (interval : Interval) (so_far : List Interval) → then_on (then_on r (λ others. Ok (interval ∷ others))) (λ rest. Ok (so_far ++ rest)) ≡ then_on r (λ rest. Ok ((so_far ++ interval ∷ []) ++ rest))
then_push (Ok others) interval so_far = ap Ok (sym (append_assoc so_far (interval ∷ []) others))
then_push (Err fault) interval so_far = refl

pub intervals_more : (unit : TickUnit) (origin : ℤ) (late : Span → RelationsFault) (span : Span) (times : Times) (others : List (Span × Times)) (so_far : List Interval) → is_too_late unit origin times ≡ false
    → then_on (intervals_from unit origin late (timed span times ∷ others)) (λ rest. Ok (so_far ++ rest)) ≡ then_on (intervals_from unit origin late others) (λ rest. Ok ((so_far ++ interval_of unit origin times ∷ []) ++ rest))
intervals_more unit origin late span times others so_far low =
    ap (λ r. then_on r (λ rest. Ok (so_far ++ rest))) (cond-false (is_too_late unit origin times) (Err (late span)) (then_on (intervals_from unit origin late others) (λ rest. Ok (interval_of unit origin times ∷ rest))) low)
    ∙ then_push (intervals_from unit origin late others) (interval_of unit origin times) so_far

pub intervals_fail : (unit : TickUnit) (origin : ℤ) (late : Span → RelationsFault) (span : Span) (times : Times) (others : List (Span × Times)) (so_far : List Interval) → is_too_late unit origin times ≡ true
    → then_on (intervals_from unit origin late (timed span times ∷ others)) (λ rest. Ok (so_far ++ rest)) ≡ Err (late span)
intervals_fail unit origin late span times others so_far high =
    ap (λ r. then_on r (λ rest. Ok (so_far ++ rest))) (cond-true (is_too_late unit origin times) (Err (late span)) (then_on (intervals_from unit origin late others) (λ rest. Ok (interval_of unit origin times ∷ rest))) high)

-- the ticks of a span that are told
pub interval_told : (unit : TickUnit) (origin : ℤ) (times : Times) (interval : Interval) → Some interval ≡ interval_if unit origin times → (is_too_late unit origin times ≡ false) × (interval ≡ interval_of unit origin times)
interval_told unit origin times interval is = by_test (is_too_late unit origin times) is
  where
    by_test : (b : Bool) → Some interval ≡ cond b None (Some (interval_of unit origin times)) → (b ≡ false) × (interval ≡ interval_of unit origin times)
    by_test true told = absurd (none-some interval (sym told))
    by_test false told = (refl, same_Some interval (interval_of unit origin times) told)

pub interval_late : (unit : TickUnit) (origin : ℤ) (times : Times) → None ≡ interval_if unit origin times → is_too_late unit origin times ≡ true
interval_late unit origin times is = by_test (is_too_late unit origin times) is
  where
    by_test : (b : Bool) → None ≡ cond b None (Some (interval_of unit origin times)) → b ≡ true
    by_test true told = refl
    by_test false told = absurd (none-some (interval_of unit origin times) told)

pub fault_is : {S : Type 0} (fault : RelationsFault) (origin : ℤ) (spans : List Span) (times : List Times) (span : Span) (meant : Result S RelationsFault) → fault ≡ too_late origin spans times span → meant ≡ Err (too_late origin spans times span) → IsFault fault meant
fault_is fault origin spans times span meant is told = subst (λ f. IsFault f meant) (sym is) told

pub no_time_is : {S : Type 0} (fault : RelationsFault) (span : Span) (meant : Result S RelationsFault) → fault ≡ NoTime (name_of span) → meant ≡ Err (NoTime (name_of span)) → IsFault fault meant
no_time_is fault span meant is told = subst (λ f. IsFault f meant) (sym is) told

-- a tick takes time
pub some_nanoseconds : (unit : TickUnit) → 0 < nanoseconds unit
some_nanoseconds Nanosecond = omega arith
some_nanoseconds Microsecond = omega arith
some_nanoseconds Millisecond = omega arith

-- ---- the first span of all

pub first_passed : (origin : ℤ) (span : Span) (times : Times) (others : List (Span × Times)) → option_eq int_eq (earlier times.start times.end) (Some origin) ≡ false → find (is_first origin) (timed span times ∷ others) ≡ find (is_first origin) others
first_passed origin span times others fails = cond-false (is_first origin (timed span times)) (Some (timed span times)) (find (is_first origin) others) fails

pub first_found : (origin : ℤ) (span : Span) (times : Times) (others : List (Span × Times)) → option_eq int_eq (earlier times.start times.end) (Some origin) ≡ true → find (is_first origin) (timed span times ∷ others) ≡ Some (timed span times)
first_found origin span times others passes = cond-true (is_first origin (timed span times)) (Some (timed span times)) (find (is_first origin) others) passes

-- ---- how much later a time is

pub gap_after : (origin time : ℤ) (n : ℕ) → origin <ℤ time → n ≡ unsigned_abs (time -ℤ origin) → n ≡ int_gap origin time
gap_after (pos a) (pos b) n lt is = is ∙ omega (arith, ints)
gap_after (pos a) (negsuc b) n lt is = is ∙ omega (arith, ints)
gap_after (negsuc a) (pos b) n lt is = is ∙ omega (arith, ints)
gap_after (negsuc a) (negsuc b) n lt is = is ∙ omega (arith, ints)
