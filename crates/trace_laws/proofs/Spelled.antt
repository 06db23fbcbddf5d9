-- What an import writes is UTF-8, and nothing reads its labels.
use Rattle.std.proofs.Common.{◌≡◌, ℕ, ℤ, pos, negsuc, zero, suc, ◌<◌, List, [], ◌∷◌, ◌++◌, All, true, codes, decimal, fold, length, IsUtf8, Option, Some, None, refl, subst, arith}
use Rattle.std.specs.Prelude.{◌&&◌, nat_le, slice_get}
use Rattle.std.specs.Fmt.{signed_decimal}
use Rattle.std.specs.List.{AllByRecursion as Each, list_all}
use Rattle.std.specs.BTreeMap.{insert_entry}
use Rattle.std.specs.Cmp.Lexicographic.{slice_cmp}
use Rattle.std.specs.Ordering.{match_ordering, nat_cmp}
use Rattle.std.specs.declared.cmp.Ordering.{Ordering}
use Rattle.std.specs.declared.cmp.Ordering.TheVariants.{Less, Equal, Greater}
use Rattle.std.proofs.lemmas.Bool.{and_parts}
use Rattle.std.proofs.lemmas.Bool.Decides.{nat_tests}
use Rattle.std.proofs.lemmas.List.Elements.{All-from_recursion, recursion_from_All}
use Rattle.std.proofs.lemmas.Option.{none-some, same_Some}
use Rattle.std.proofs.lemmas.Str.{IsUtf8-append, IsUtf8-nil}
use Rattle.json.proofs.Printed.Utf8.{IsUtf8-are_ascii}
use Rattle.recording_back.specs.ReadBack.{IsBeside, IsLabel, recording_members, stage_members}
use Rattle.recording_back.proofs.Utf8.{ascii_text}
use Rattle.recording_text.specs.Labels.{PlainLabel}
use Rattle.stage_graph.specs.Checks.{begins_well, is_name, is_name_byte}
use Rattle.trace_relations.specs.declared.placing.Moved.{Moved}
use Rattle.trace_relations.specs.Relations.{PlainRelations, moved_of}
use Rattle.trace_relations.specs.Units.{unit_text}
use Rattle.trace_relations.specs.declared.unit.Unit.{Unit as TickUnit}
use Rattle.trace_relations.specs.declared.unit.Unit.TheVariants.{Nanosecond, Microsecond, Millisecond}
use Rattle.trace_spans.specs.Clocks.{joined_on}
use Rattle.trace_spans.specs.declared.span.Span.{Span}
use Rattle.trace_spans.specs.declared.trace.Trace.{Trace}
use Rattle.trace_stages.specs.declared.stage.StageName.{StageName}
use Rattle.trace_stages.specs.declared.stage.StageName.TheVariants.{Whole, Work}
use Rattle.trace_import.specs.ClockLabels.{clock_labels, told_clock, with_clock}
use Rattle.trace_import.specs.declared.options.Mapping.{Mapping}
use Rattle.trace_import.specs.Imported.{head_of}
use Rattle.trace_import.specs.Specs.{id_label, labels_of}
use Rattle.trace_import.specs.Texts.{HasTexts, TellsTexts}
use Rattle.trace_laws.proofs.Wellnamed.{IsNamed, decimal_named}

-- ---- texts

name_byte : (b : ℕ) → is_name_byte b ≡ true → b < 128
name_byte b h = grind (arith, nat_tests)

named_text : (text : List ℕ) → IsNamed text → IsUtf8 text
named_text text h = ascii_text is_name_byte name_byte text h

-- a name of a stage is UTF-8
pub name_text : (text : List ℕ) → is_name text ≡ true → IsUtf8 text
name_text text h =
    let first = and_parts (begins_well text) (nat_le (length text) 64 && list_all is_name_byte text) h in
    let second = and_parts (nat_le (length text) 64) (list_all is_name_byte text) first.1 in
    named_text text second.1

signed_text : (z : ℤ) → IsUtf8 (signed_decimal z)
signed_text (pos n) = named_text (decimal n) (decimal_named n)
signed_text (negsuc n) = named_text (45 ∷ decimal (suc n)) (decimal_named (suc n))

unit_utf8 : (unit : TickUnit) → IsUtf8 (unit_text unit)
unit_utf8 Nanosecond = IsUtf8-are_ascii _ refl
unit_utf8 Microsecond = IsUtf8-are_ascii _ refl
unit_utf8 Millisecond = IsUtf8-are_ascii _ refl

joined_text : (told : List ℕ) (texts : List (List ℕ)) → IsUtf8 told → Each IsUtf8 texts → IsUtf8 (joined_on told texts)
joined_text told [] h all = h
joined_text told ([] ∷ texts) h all = joined_text told texts h all.1
joined_text [] ((x ∷ xs) ∷ texts) h all = joined_text (x ∷ xs) texts all.0 all.1
joined_text (y ∷ ys) ((x ∷ xs) ∷ texts) h all =
    joined_text ((y ∷ ys) ++ codes " " ++ (x ∷ xs)) texts (IsUtf8-append ((y ∷ ys) ++ codes " ") (x ∷ xs) (IsUtf8-append (y ∷ ys) (codes " ") h (IsUtf8-are_ascii _ refl)) all.0) all.1

each_at : {X : Type 0} (P : X → Type 0) (xs : List X) (k : ℕ) (x : X) → Each P xs → slice_get xs k ≡ Some x → P x
each_at P [] k x all at = absurd (none-some x at)
each_at P (y ∷ ys) zero x all at = subst P (same_Some y x at) all.0
each_at P (y ∷ ys) (suc k) x all at = each_at P ys k x all.1 at

each_weaker : {X : Type 0} (P : X → Type 0) (Q : X → Type 0) → ((x : X) → P x → Q x) → (xs : List X) → Each P xs → Each Q xs
each_weaker P Q f [] h = tt
each_weaker P Q f (x ∷ xs) h = (f x h.0, each_weaker P Q f xs h.1)

-- ---- the labels of stages

stage_labels : (spans : List Span) → Each HasTexts spans → (name : StageName) → Each (IsLabel stage_members) (labels_of spans name)
stage_labels spans all (Whole place) = by (slice_get spans place) refl
  where
    by : (o : Option Span) → slice_get spans place ≡ o → Each (IsLabel stage_members) (id_label (codes "span") o)
    by None e = tt
    by (Some span) e = let has = each_at HasTexts spans place span all e in (record { name = IsUtf8-are_ascii _ refl; text = has.id; unread = refl }, tt)
stage_labels spans all (Work place number) = by (slice_get spans place) refl
  where
    by : (o : Option Span) → slice_get spans place ≡ o → Each (IsLabel stage_members) (id_label (codes "x-work-of") o)
    by None e = tt
    by (Some span) e = let has = each_at HasTexts spans place span all e in (record { name = IsUtf8-are_ascii _ refl; text = has.id; unread = refl }, tt)
stage_labels spans all other = tt

pub all_stage_labels : (spans : List Span) → All HasTexts spans → (name : StageName) → All (IsLabel stage_members) (labels_of spans name)
all_stage_labels spans all name = All-from_recursion (IsLabel stage_members) (labels_of spans name) (stage_labels spans (recursion_from_All HasTexts spans all) name)

-- ---- the labels of a recording

record IsTextLabel (label : PlainLabel) : Type 0 where
  name : IsUtf8 label.0
  text : IsUtf8 label.1

by_ordering : {X : Type 0} (P : X → Type 0) (o : Ordering) (a b c : List X) → Each P a → Each P b → Each P c → Each P (match_ordering o a b c)
by_ordering P Less a b c first second third = first
by_ordering P Equal a b c first second third = second
by_ordering P Greater a b c first second third = third

inserted : (labels : List PlainLabel) (name text : List ℕ) → Each IsTextLabel labels → IsUtf8 name → IsUtf8 text → Each IsTextLabel (insert_entry (slice_cmp nat_cmp) labels name text)
inserted [] name text all is also = (record { name = is; text = also }, tt)
inserted (label ∷ labels) name text all is also =
    let own = all.0 in
    by_ordering IsTextLabel (slice_cmp nat_cmp name label.0) ((name, text) ∷ label ∷ labels) ((label.0, text) ∷ labels) (label ∷ insert_entry (slice_cmp nat_cmp) labels name text)
    (record { name = is; text = also }, all) (record { name = own.name; text = also }, all.1) (own, inserted labels name text all.1 is also)

clock_utf8 : (spans : List Span) → Each HasTexts spans → (place : ℕ) → IsUtf8 (told_clock (slice_get spans place))
clock_utf8 spans all place = by (slice_get spans place) refl
  where
    by : (o : Option Span) → slice_get spans place ≡ o → IsUtf8 (told_clock o)
    by None e = IsUtf8-nil
    by (Some span) e = let has = each_at HasTexts spans place span all e in joined_text [] span.clock IsUtf8-nil (recursion_from_All IsUtf8 span.clock has.clock)

clocks_told : (spans : List Span) → Each HasTexts spans → (moved : List Moved) (labels : List PlainLabel) → Each IsTextLabel labels → Each IsTextLabel (fold (with_clock spans) labels moved)
clocks_told spans all [] labels are = are
clocks_told spans all (clock ∷ moved) labels are =
    clocks_told spans all moved (with_clock spans labels clock)
    (inserted labels (told_clock (slice_get spans clock.clock)) (signed_decimal clock.by) are (clock_utf8 spans all clock.clock) (signed_text clock.by))

pub head_beside : (mapping : Mapping) (trace : Trace) (relations : PlainRelations) → TellsTexts trace → IsBeside (head_of mapping trace relations)
head_beside mapping trace relations tells =
    let spans = recursion_from_All HasTexts trace.spans tells.spans in
    let clocks = clocks_told trace.spans spans (moved_of mapping.as_told trace.spans) [] tt in
    record {
      labels = All-from_recursion (IsLabel recording_members) (head_of mapping trace relations).0 (
        record { name = IsUtf8-are_ascii _ refl; text = tells.id; unread = refl },
        (record { name = IsUtf8-are_ascii _ refl; text = unit_utf8 mapping.unit; unread = refl }, (record { name = IsUtf8-are_ascii _ refl; text = signed_text relations.origin; unread = refl }, tt)),
      );
      group = IsUtf8-are_ascii _ refl;
      unread = refl;
      grouped = All-from_recursion (IsLabel []) (clock_labels mapping.as_told trace.spans) (each_weaker IsTextLabel (IsLabel []) (λ label is. record { name = is.name; text = is.text; unread = refl }) (clock_labels mapping.as_told trace.spans) clocks);
    }
