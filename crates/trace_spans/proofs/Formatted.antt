-- The spans of a text in a format, or of the texts that it is a list of.
use Rattle.std.proofs.Common.{◌≡◌, ◌<◌, ◌≤◌, List, [], ◌++◌, Bool, true, false, Option, Some, None, Result, Ok, Err, refl, sym, ap, subst, ◌∙◌, arith}
use Rattle.std.specs.Option.{option_or}
use Rattle.std.proofs.lemmas.Bool.{false≢true}
use Rattle.std.specs.Prelude.{if◌then◌else◌, max}
use Rattle.std.proofs.lemmas.List.{append-nil}
use Rattle.serde_json.specs.Data.{Data, null, boolean, number, string, array, object, Items, item, depth, items_depth}
use Rattle.serde_json.specs.Find.{as_array}
use Rattle.trace_spans.specs.declared.fault.Fault.{Fault}
use Rattle.trace_spans.specs.declared.fault.Fault.TheVariants.{TooLong, Json, NotATrace, Shape, SeveralTraces, NoTrace, Memory}
use Rattle.trace_spans.specs.declared.span.Span.{Span}
use Rattle.trace_spans.specs.Formats.{added}
use Rattle.trace_spans.specs.Members.{then_on}
use Rattle.trace_spans.specs.Reads.{IsFault}
use Rattle.trace_spans.specs.Spans.{not_a_trace, spans_of_list, spans_of_text, told_in_a_format, told_or}
use Rattle.trace_spans.proofs.Reading.{after_both, fault_of_added, fault_of_part}

abbrev pub list_or_none : Option Items → Result (List Span) Fault
list_or_none None = not_a_trace
list_or_none (Some ds) = spans_of_list ds

pub by_formats : (d : Data) → spans_of_text d ≡ told_or (told_in_a_format d) (list_or_none (as_array d))
by_formats null = refl
by_formats (boolean b) = refl
by_formats (number n) = refl
by_formats (string s) = refl
by_formats (array ds) = refl
by_formats (object ms) = refl

is_of : Result (Bool × List Span) Fault → Bool
is_of (Ok told) = told.0
is_of (Err fault) = false

spans_in : Result (Bool × List Span) Fault → List Span
spans_in (Ok told) = told.1
spans_in (Err fault) = []

is_told : Result (Bool × List Span) Fault → Bool
is_told (Ok told) = true
is_told (Err fault) = false

-- a text of a format
pub told_some : (told : Option (Result (List Span) Fault)) (old new : List Span) (other : Result (List Span) Fault) → added told old ≡ Ok (true, new) → then_on (told_or told other) (λ more. Ok (old ++ more)) ≡ Ok new
unfolding is_of spans_in is_told
told_some None old new other e = absurd (false≢true (ap is_of e))
told_some (Some (Ok more)) old new other e = ap Ok (ap spans_in e)
told_some (Some (Err fault)) old new other e = absurd (false≢true (ap is_told e))

-- one of none
pub told_none : (told : Option (Result (List Span) Fault)) (old new : List Span) (other : Result (List Span) Fault) → added told old ≡ Ok (false, new) → (told_or told other ≡ other) × (new ≡ old)
unfolding is_of spans_in is_told
told_none None old new other e = (refl, sym (ap spans_in e))
told_none (Some (Ok more)) old new other e = absurd (false≢true (sym (ap is_of e)))
told_none (Some (Err fault)) old new other e = absurd (false≢true (ap is_told e))

first_of : (told other : Option (Result (List Span) Fault)) (old new : List Span) → added told old ≡ Ok (true, new) → added (option_or told other) old ≡ Ok (true, new)
unfolding is_of
first_of None other old new e = absurd (false≢true (ap is_of e))
first_of (Some (Ok more)) other old new e = e
first_of (Some (Err fault)) other old new e = e

second_of : (told other : Option (Result (List Span) Fault)) (old new : List Span) → added told old ≡ Ok (false, new) → added (option_or told other) old ≡ added other new
unfolding is_of spans_in is_told
second_of None other old new e = ap (added other) (ap spans_in e)
second_of (Some (Ok more)) other old new e = absurd (false≢true (sym (ap is_of e)))
second_of (Some (Err fault)) other old new e = absurd (false≢true (ap is_told e))

-- the first of two formats, or the second
pub of_first : (is : Bool) (told other : Option (Result (List Span) Fault)) (old new : List Span) → is ≡ true → added told old ≡ Ok (is, new) → added (option_or told other) old ≡ Ok (true, new)
of_first is told other old new is_so e = first_of told other old new (e ∙ ap (λ b. Ok (b, new)) is_so)

pub of_second : (is : Bool) (told other : Option (Result (List Span) Fault)) (old new : List Span) → is ≡ false → added told old ≡ Ok (is, new) → added (option_or told other) old ≡ added other new
of_second is told other old new is_none e = second_of told other old new (e ∙ ap (λ b. Ok (b, new)) is_none)

first_refused : (told other : Option (Result (List Span) Fault)) (old : List Span) (fault : Fault) → added told old ≡ Err fault → added (option_or told other) old ≡ Err fault
unfolding is_told
first_refused None other old fault e = absurd (false≢true (sym (ap is_told e)))
first_refused (Some (Ok more)) other old fault e = absurd (false≢true (sym (ap is_told e)))
first_refused (Some (Err own)) other old fault e = e

pub fault_of_first : (fault : Fault) (told other : Option (Result (List Span) Fault)) (old : List Span) → IsFault fault (added told old) → IsFault fault (added (option_or told other) old)
fault_of_first Memory told other old h = tt
fault_of_first TooLong told other old h = first_refused told other old TooLong h
fault_of_first Json told other old h = first_refused told other old Json h
fault_of_first (NotATrace strange) told other old h = first_refused told other old (NotATrace strange) h
fault_of_first (Shape member) told other old h = first_refused told other old (Shape member) h
fault_of_first (SeveralTraces traces) told other old h = first_refused told other old (SeveralTraces traces) h
fault_of_first NoTrace told other old h = first_refused told other old NoTrace h

refused_as : (told : Option (Result (List Span) Fault)) (old : List Span) (other : Result (List Span) Fault) (fault : Fault) → added told old ≡ Err fault → then_on (told_or told other) (λ more. Ok (old ++ more)) ≡ Err fault
refused_as None old other fault e = absurd cc
refused_as (Some (Ok more)) old other fault e = absurd cc
refused_as (Some (Err own)) old other fault e = cc

-- one with a fault
pub told_fault : (fault : Fault) (told : Option (Result (List Span) Fault)) (old : List Span) (other : Result (List Span) Fault) → IsFault fault (added told old) → IsFault fault (then_on (told_or told other) (λ more. Ok (old ++ more)))
told_fault Memory told old other h = tt
told_fault TooLong told old other h = refused_as told old other TooLong h
told_fault Json told old other h = refused_as told old other Json h
told_fault (NotATrace strange) told old other h = refused_as told old other (NotATrace strange) h
told_fault (Shape member) told old other h = refused_as told old other (Shape member) h
told_fault (SeveralTraces traces) told old other h = refused_as told old other (SeveralTraces traces) h
told_fault NoTrace told old other h = refused_as told old other NoTrace h

-- what a text of a format adds
pub added_some : (told : Result (List Span) Fault) (old : List Span) → added (Some told) old ≡ then_on (then_on told (λ more. Ok (old ++ more))) (λ now. Ok (true, now))
added_some (Ok more) old = refl
added_some (Err fault) old = refl

pub some_added : (told : Result (List Span) Fault) (old now : List Span) → then_on told (λ more. Ok (old ++ more)) ≡ Ok now → added (Some told) old ≡ Ok (true, now)
some_added told old now e = added_some told old ∙ ap (λ r. then_on r (λ all. Ok (true, all))) e

pub some_refused : (fault : Fault) (told : Result (List Span) Fault) (old : List Span) → IsFault fault (then_on told (λ more. Ok (old ++ more))) → IsFault fault (added (Some told) old)
some_refused fault told old h = subst (λ (r : Result (Bool × List Span) Fault). IsFault fault r) (sym (added_some told old)) (fault_of_part fault (then_on told (λ more. Ok (old ++ more))) (λ now. Ok (true, now)) h)

-- a text of a format that has no spans
pub none_added : (is : Bool) (old : List Span) → added (if is then Some (Ok []) else None) old ≡ Ok (is, old)
none_added true old = ap (λ all. Ok (true, all)) (append-nil old)
none_added false old = refl

-- a text whose format refuses it
pub text_fault : (fault : Fault) (text : Data) (old : List Span) → IsFault fault (added (told_in_a_format text) old) → IsFault fault (then_on (spans_of_text text) (λ more. Ok (old ++ more)))
text_fault fault text old h =
    subst (λ (r : Result (List Span) Fault). IsFault fault (then_on r (λ more. Ok (old ++ more)))) (sym (by_formats text)) (told_fault fault (told_in_a_format text) old (list_or_none (as_array text)) h)

-- one that is of a format
pub text_told : (is : Bool) (text : Data) (old new : List Span) → is ≡ true → added (told_in_a_format text) old ≡ Ok (is, new) → then_on (spans_of_text text) (λ more. Ok (old ++ more)) ≡ Ok new
text_told is text old new is_so e =
    ap (λ r. then_on r (λ more. Ok (old ++ more))) (by_formats text)
    ∙ told_some (told_in_a_format text) old new (list_or_none (as_array text)) (e ∙ ap (λ b. Ok (b, new)) is_so)

-- one that is of none
pub text_of_none : (is : Bool) (text : Data) (old new : List Span) → is ≡ false → added (told_in_a_format text) old ≡ Ok (is, new) → (told_or (told_in_a_format text) (list_or_none (as_array text)) ≡ list_or_none (as_array text)) × (new ≡ old)
text_of_none is text old new is_none e = told_none (told_in_a_format text) old new (list_or_none (as_array text)) (e ∙ ap (λ b. Ok (b, new)) is_none)

-- one that is no list
pub text_as_none : (is : Bool) (text : Data) (old new : List Span) → is ≡ false → added (told_in_a_format text) old ≡ Ok (is, new) → as_array text ≡ None → then_on (spans_of_text text) (λ more. Ok (old ++ more)) ≡ Err (NotATrace tt)
text_as_none is text old new apart e listed =
    ap (λ r. then_on r (λ more. Ok (old ++ more))) (by_formats text ∙ (text_of_none is text old new apart e).0 ∙ ap list_or_none listed)

-- and one that is a list
pub text_as_list : (is : Bool) (text : Data) (items : Items) (old new : List Span) → is ≡ false → added (told_in_a_format text) old ≡ Ok (is, new) → as_array text ≡ Some items → then_on (spans_of_list items) (λ more. Ok (new ++ more)) ≡ then_on (spans_of_text text) (λ more. Ok (old ++ more))
text_as_list is text items old new apart e listed =
    ap (λ front. then_on (spans_of_list items) (λ more. Ok (front ++ more))) (text_of_none is text old new apart e).1
    ∙ ap (λ r. then_on r (λ more. Ok (old ++ more))) (sym (by_formats text ∙ (text_of_none is text old new apart e).0 ∙ ap list_or_none listed))

-- what comes after the first text of a list
pub list_after : (m part rest : Result (List Span) Fault) (old between : List Span) → m ≡ then_on part (λ first. then_on rest (λ others. Ok (first ++ others))) → then_on part (λ more. Ok (old ++ more)) ≡ Ok between → then_on rest (λ others. Ok (between ++ others)) ≡ then_on m (λ more. Ok (old ++ more))
list_after m part rest old between is first =
    sym (ap (λ r. then_on r (λ more. Ok (old ++ more))) is ∙ after_both old part rest ∙ ap (λ r. then_on r (λ front. then_on rest (λ more. Ok (front ++ more)))) first)

-- a fault in the first text
pub first_refused_in : (fault : Fault) (m part rest : Result (List Span) Fault) (old : List Span) → m ≡ then_on part (λ first. then_on rest (λ others. Ok (first ++ others))) → IsFault fault (then_on part (λ more. Ok (old ++ more))) → IsFault fault (then_on m (λ more. Ok (old ++ more)))
first_refused_in fault m part rest old is h =
    subst (λ (r : Result (List Span) Fault). IsFault fault (then_on r (λ more. Ok (old ++ more)))) (sym is)
    (fault_of_part fault (then_on part (λ first. then_on rest (λ others. Ok (first ++ others)))) (λ more. Ok (old ++ more)) (fault_of_part fault part (λ first. then_on rest (λ others. Ok (first ++ others))) (fault_of_added fault part old h)))

-- the items of an array are less deep
pub depth_of_array : (text : Data) (all : Items) → as_array text ≡ Some all → items_depth all < depth text
depth_of_array null all is = absurd cc
depth_of_array (boolean b) all is = absurd cc
depth_of_array (number n) all is = absurd cc
depth_of_array (string s) all is = absurd cc
depth_of_array (object ms) all is = absurd cc
depth_of_array (array es) all is = let same : items_depth es ≡ items_depth all = let e : es ≡ all = cc in ap items_depth e in omega arith

pub next_shallower : (old new : Items) (d : Data) → old ≡ item d new → (depth d ≤ items_depth old) × (items_depth new ≤ items_depth old)
next_shallower old new d is =
    let deep : items_depth old ≡ max (depth d) (items_depth new) = ap items_depth is in
    (omega arith, omega arith)
