-- Pairs of spans and their callers.
use Rattle.std.proofs.Common.{◌≡◌, ℕ, ◌+◌, ◌<◌, ◌≤◌, List, [], ◌∷◌, ◌++◌, Bool, drop, get_or, length, Option, Some, None, sym, ap, ◌∙◌, subst, arith}
use Rattle.std.specs.Prelude.{All, IfSome, option_and_then, slice_get}
use Rattle.std.specs.Option.{option_to_list}
use Rattle.std.proofs.lemmas.List.{append-nil, append_assoc, drop_all, drop_more}
use Rattle.std.proofs.lemmas.List.Elements.{All-append, All-cons, All-nil}
use Rattle.std.proofs.lemmas.Option.{same_Some, slice_get-get_or}
use Rattle.trace_spans.specs.declared.span.Span.{Span}
use Rattle.trace_relations.specs.declared.clocks.Pair.{Pair}
use Rattle.trace_relations.specs.ClockNumbers.{all_pairs, clock_at, pairs_from}
use Rattle.trace_relations.specs.Clocks.{clock_of, pair_of, pair_with}
use Rattle.trace_relations.specs.KeptMoves.{IsPairAmong}
use Rattle.trace_relations.specs.Parents.{all_references, named_parent}
use Rattle.trace_relations.specs.Waits.{caller_named}
use Rattle.trace_relations.proofs.ClockFinding.{clock_at_is, clock_below, named_is}
use Rattle.trace_relations.proofs.Gets.{slice_get_there}

named_by : (spans : List Span) (references : List (List ℕ × Bool)) (place : ℕ) (span : Span) → references ≡ all_references spans → slice_get spans place ≡ Some span → caller_named references place ≡ named_parent spans place span
named_by spans references place span are is = ap (λ those. caller_named those place) are ∙ named_is spans place span is

-- a span that names no parent
pub pair_none : (spans : List Span) (references : List (List ℕ × Bool)) (place : ℕ) (span : Span) → references ≡ all_references spans → slice_get spans place ≡ Some span → None ≡ caller_named references place → [] ≡ pair_of spans place span
pair_none spans references place span are is none = ap (λ o. pair_with spans span (option_and_then (slice_get spans) o)) (none ∙ named_by spans references place span are is)

-- one that does
pub pair_some : (spans : List Span) (references : List (List ℕ × Bool)) (place caller : ℕ) (span : Span) → references ≡ all_references spans → slice_get spans place ≡ Some span → Some caller ≡ caller_named references place → pair_with spans span (slice_get spans caller) ≡ pair_of spans place span
pair_some spans references place caller span are is named = ap (λ o. pair_with spans span (option_and_then (slice_get spans) o)) (named ∙ named_by spans references place span are is)

-- the clock of a span that is known by a place is that of one of the spans
pub known_clock : (spans : List Span) (clocks : List ℕ) (place clock : ℕ) (span : Span) → slice_get spans place ≡ Some span → clock_at spans place ≡ clock → (clock ≡ clock_of spans span) × (clock < length spans)
known_clock spans clocks place clock span is at =
    let same : clock ≡ clock_of spans span = sym at ∙ clock_at_is spans place span is in
    (same, omega (arith, same, clock_below spans place span is))

-- ---- one pair after another

pub no_pairs : (spans : List Span) (pairs : List Pair) → pairs ≡ [] → all_pairs spans ≡ pairs ++ pairs_from spans 0 (drop 0 spans)
no_pairs spans pairs none = sym (ap (λ those. those ++ pairs_from spans 0 spans) none)

pub pairs_more : (spans : List Span) (i : ℕ) (so_far new more : List Pair) → i < length spans → ((span : Span) → slice_get spans i ≡ Some span → more ≡ pair_of spans i span) → new ≡ so_far ++ more → all_pairs spans ≡ so_far ++ pairs_from spans i (drop i spans) → all_pairs spans ≡ new ++ pairs_from spans (i + 1) (drop (i + 1) spans)
pairs_more spans i so_far new more lt is now before = with_span (slice_get_there spans i lt)
  where
    with_span : (span : Span) × (slice_get spans i ≡ Some span) → all_pairs spans ≡ new ++ pairs_from spans (i + 1) (drop (i + 1) spans)
    with_span one =
        let here : get_or spans i one.0 ≡ one.0 = same_Some (get_or spans i one.0) one.0 (sym (slice_get-get_or spans i one.0 lt) ∙ one.1) in
        before ∙ ap (λ rest. so_far ++ pairs_from spans i rest) (drop_more spans i one.0 lt ∙ ap (λ span. span ∷ drop (i + 1) spans) here)
        ∙ ap (λ those. so_far ++ (those ++ pairs_from spans (i + 1) (drop (i + 1) spans))) (sym (is one.0 one.1))
        ∙ sym (append_assoc so_far more (pairs_from spans (i + 1) (drop (i + 1) spans))) ∙ ap (λ those. those ++ pairs_from spans (i + 1) (drop (i + 1) spans)) (sym now)

pub all_said : (spans : List Span) (pairs : List Pair) (i : ℕ) → length spans ≤ i → all_pairs spans ≡ pairs ++ pairs_from spans i (drop i spans) → pairs ≡ all_pairs spans
all_said spans pairs i le is = sym (is ∙ ap (λ rest. pairs ++ pairs_from spans i rest) (drop_all i spans le) ∙ append-nil pairs)

one_among : (count : ℕ) (o : Option Pair) → IfSome o (IsPairAmong count) → All (IsPairAmong count) (option_to_list o)
one_among count None among = All-nil (IsPairAmong count)
one_among count (Some pair) among = All-cons (IsPairAmong count) pair [] among (All-nil (IsPairAmong count))

pub among_more : (count : ℕ) (pairs new : List Pair) (o : Option Pair) → new ≡ pairs ++ option_to_list o → All (IsPairAmong count) pairs → IfSome o (IsPairAmong count) → All (IsPairAmong count) new
among_more count pairs new o is all one = subst (All (IsPairAmong count)) (sym is) (All-append (IsPairAmong count) pairs (option_to_list o) all (one_among count o one))
