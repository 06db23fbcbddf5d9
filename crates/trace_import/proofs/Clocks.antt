-- Clocks by their texts.
use Rattle.std.proofs.Common.{◌≡◌, ◌∙◌, ◌+◌, ◌<◌, ℕ, List, [], ◌∷◌, ap, get_or, length, map, refl, slice_get, String, string_bytes, sym, take}
use Rattle.std.proofs.lemmas.List.{take_more}
use Rattle.std.proofs.lemmas.List.Sums.{fold-append}
use Rattle.std.specs.Fmt.{signed_decimal}
use Rattle.std.specs.BTreeMap.{insert_entry}
use Rattle.std.specs.Cmp.Lexicographic.{slice_cmp}
use Rattle.std.specs.Ordering.{nat_cmp, match_ordering}
use Rattle.std.specs.declared.alloc.Global.{Global}
use Rattle.std.specs.declared.cmp.Ordering.{Ordering}
use Rattle.std.specs.declared.cmp.Ordering.TheVariants.{Less, Equal, Greater}
use Rattle.std.specs.String.{string_cmp}
use Rattle.recording_text.specs.Labels.{PlainLabel}
use Rattle.trace_relations.specs.declared.placing.Moved.{Moved}
use Rattle.trace_spans.specs.declared.span.Span.{Span}
use Rattle.trace_import.specs.ClockLabels.{told_clock, told_clocks, with_clock}

abbrev pub Entry : Type 0
Entry = String Global × String Global

abbrev pub plain_entry : Entry → PlainLabel
plain_entry entry = (string_bytes entry.0, string_bytes entry.1)

matched : {A B : Type 0} (f : A → B) (ordering : Ordering) (x y z : A) → f (match_ordering ordering x y z) ≡ match_ordering ordering (f x) (f y) (f z)
matched f Less x y z = refl
matched f Equal x y z = refl
matched f Greater x y z = refl

-- a text that is put among texts
pub put_in : (entries : List Entry) (clock by : String Global) → map plain_entry (insert_entry string_cmp entries clock by) ≡ insert_entry (slice_cmp nat_cmp) (map plain_entry entries) (string_bytes clock) (string_bytes by)
put_in [] clock by = refl
put_in (entry ∷ entries) clock by =
    matched (map plain_entry) (string_cmp clock entry.0) ((clock, by) ∷ entry ∷ entries) ((entry.0, by) ∷ entries) (entry ∷ insert_entry string_cmp entries clock by)
    ∙ ap (λ (l : List PlainLabel). match_ordering (string_cmp clock entry.0) (plain_entry (clock, by) ∷ plain_entry entry ∷ map plain_entry entries) (plain_entry (entry.0, by) ∷ map plain_entry entries) (plain_entry entry ∷ l)) (put_in entries clock by)

-- one clock more is told
pub one_more : (spans : List Span) (moved : List Moved) (k : ℕ) (one : Moved) (entries : List Entry) (clock by : String Global) → k < length moved
    → map plain_entry entries ≡ told_clocks spans (take k moved) → string_bytes clock ≡ told_clock (slice_get spans (get_or moved k one).clock) → string_bytes by ≡ signed_decimal (get_or moved k one).by
    → map plain_entry (insert_entry string_cmp entries clock by) ≡ told_clocks spans (take (k + 1) moved)
one_more spans moved k one entries clock by within so_far told decimal =
    put_in entries clock by
    ∙ ap (λ (labels : List PlainLabel). insert_entry (slice_cmp nat_cmp) labels (string_bytes clock) (string_bytes by)) so_far
    ∙ ap (λ (text : List ℕ). insert_entry (slice_cmp nat_cmp) (told_clocks spans (take k moved)) text (string_bytes by)) told
    ∙ ap (insert_entry (slice_cmp nat_cmp) (told_clocks spans (take k moved)) (told_clock (slice_get spans (get_or moved k one).clock))) decimal
    ∙ sym (fold-append (with_clock spans) [] (take k moved) (get_or moved k one ∷ []))
    ∙ ap (told_clocks spans) (sym (take_more moved k one within))
