-- What texts read one after another come to.
use Rattle.std.proofs.Common.{◌≡◌, ℕ, ◌+◌, ◌<◌, List, [], ◌∷◌, ◌++◌, Bool, true, false, cond, Option, Some, None, Result, Ok, Err, length, refl, sym, ap, subst, ◌∙◌, append_assoc, arith}
use Rattle.std.specs.Prelude.{◌&&◌}
use Rattle.std.specs.Option.{ok_or}
use Rattle.std.proofs.lemmas.List.{append-nil}
use Rattle.serde_json.specs.Data.{Data}
use Rattle.serde_json.specs.Read.{read}
use Rattle.trace_spans.specs.declared.fault.Fault.{Fault}
use Rattle.trace_spans.specs.declared.fault.Fault.TheVariants.{TooLong, Json, NotATrace, Shape, SeveralTraces, NoTrace, Memory}
use Rattle.trace_spans.specs.declared.lines.Reading.{Reading}
use Rattle.trace_spans.specs.declared.lines.Reading.TheVariants.{Spans, Refused}
use Rattle.trace_spans.specs.declared.span.Span.{Span}
use Rattle.trace_spans.specs.declared.told.Told.{Told}
use Rattle.trace_spans.specs.Lines.{spans_after, told_after}
use Rattle.trace_spans.specs.Members.{then_on}
use Rattle.trace_spans.specs.Reads.{IsFault, IsRead}
use Rattle.trace_spans.specs.Spans.{spans_of_text, spans_of_texts, told_by_texts}
use Rattle.trace_spans.specs.Texts.{Texts, is_blank, is_no_json, json_of, last_text, lines_of, nothing_more, one_or, texts_of_lines, texts_of_text, with_text}
use Rattle.trace_spans.proofs.Reading.{fault_of_added, fault_of_part}

abbrev pub told_with : Bool → List Span → Told
told_with is_cut spans = record { spans = spans; is_cut = is_cut }

-- a fault other than that memory is out is the one that is meant
pub meant : {S : Type 0} (fault : Fault) (r : Result S Fault) → (fault ≡ Memory → ⊥) → IsFault fault r → r ≡ Err fault
meant Memory r not h = absurd (not refl)
meant TooLong r not h = h
meant Json r not h = h
meant (NotATrace strange) r not h = h
meant (Shape member) r not h = h
meant (SeveralTraces traces) r not h = h
meant NoTrace r not h = h

-- a result is read as itself
pub itself : {T : Type 0} (r : Result T Fault) → IsRead r r
itself (Ok x) = refl
itself (Err Memory) = tt
itself (Err TooLong) = refl
itself (Err Json) = refl
itself (Err (NotATrace strange)) = refl
itself (Err (Shape member)) = refl
itself (Err (SeveralTraces traces)) = refl
itself (Err NoTrace) = refl

pub is_itself : {T : Type 0} (r m : Result T Fault) → m ≡ r → IsRead r m
is_itself r m e = rw e (itself r)

-- parts after parts
pub regrouped : {A B C : Type 0} (r : Result A Fault) (f : A → Result B Fault) (g : B → Result C Fault) → then_on (then_on r f) g ≡ then_on r (λ a. then_on (f a) g)
regrouped (Ok a) f g = refl
regrouped (Err fault) f g = refl

pub same_after : {A B : Type 0} (r : Result A Fault) (f g : A → Result B Fault) → ((a : A) → f a ≡ g a) → then_on r f ≡ then_on r g
same_after (Ok a) f g h = h a
same_after (Err fault) f g h = refl

part : (first each : Result (List Span) Fault) (spans more : List Span) → first ≡ Ok more → then_on (then_on first (λ f. then_on each (λ others. Ok (f ++ others)))) (λ rest. Ok (spans ++ rest)) ≡ then_on each (λ rest. Ok ((spans ++ more) ++ rest))
part (Ok f) (Ok others) spans more e = cc (append_assoc spans f others)
part (Ok f) (Err fault) spans more e = refl
part (Err fault) each spans more e = cc

-- one more text after spans
pub one_more_text : (spans now : List Span) (text : Data) (texts : List Data) → then_on (spans_of_text text) (λ more. Ok (spans ++ more)) ≡ Ok now → spans_after (Spans spans) (text ∷ texts) ≡ spans_after (Spans now) texts
one_more_text spans now text texts is = added (spans_of_text text) (spans_of_texts texts) is
  where
    added : (first each : Result (List Span) Fault) → then_on first (λ more. Ok (spans ++ more)) ≡ Ok now → then_on (then_on first (λ f. then_on each (λ others. Ok (f ++ others)))) (λ rest. Ok (spans ++ rest)) ≡ then_on each (λ rest. Ok (now ++ rest))
    added (Ok f) (Ok others) e = cc (append_assoc spans f others, e)
    added (Ok f) (Err fault) e = refl
    added (Err fault) each e = cc e

-- and one with a fault
pub text_refused : (spans : List Span) (text : Data) (texts : List Data) (fault : Fault) → then_on (spans_of_text text) (λ more. Ok (spans ++ more)) ≡ Err fault → spans_after (Spans spans) (text ∷ texts) ≡ spans_after (Refused fault) texts
text_refused spans text texts fault is = refused (spans_of_text text) (spans_of_texts texts) is
  where
    refused : (first each : Result (List Span) Fault) → then_on first (λ more. Ok (spans ++ more)) ≡ Err fault → then_on (then_on first (λ f. then_on each (λ others. Ok (f ++ others)))) (λ rest. Ok (spans ++ rest)) ≡ Err fault
    refused (Ok f) each e = cc e
    refused (Err other) each e = cc e

alone_in : (first : Result (List Span) Fault) (is_cut : Bool) → then_on (then_on first (λ f. then_on (Ok []) (λ others. Ok (f ++ others)))) (λ spans. Ok (told_with is_cut spans)) ≡ then_on first (λ spans. Ok (told_with is_cut spans))
alone_in (Ok f) is_cut = ap (λ spans. Ok (told_with is_cut spans)) (append-nil f)
alone_in (Err fault) is_cut = refl

abbrev pub told_alone : Data → Result Told Fault
told_alone text = then_on (spans_of_text text) (λ spans. Ok (told_with false spans))

-- one text alone
pub alone : (text : Data) → told_by_texts (with_text text (nothing_more false)) ≡ told_alone text
unfolding told_by_texts
alone text = alone_in (spans_of_text text) false

pub whole : (text : List ℕ) (d : Data) → json_of text ≡ Ok d → then_on (texts_of_text text) told_by_texts ≡ told_by_texts (with_text d (nothing_more false))
unfolding texts_of_text
whole text d e = ap (λ r. then_on (one_or r (texts_of_lines false (lines_of text))) told_by_texts) e

unchanged : (r : Result (List Span) Fault) (is_cut : Bool) → then_on (then_on r (λ more. Ok ([] ++ more))) (λ spans. Ok (told_with is_cut spans)) ≡ then_on r (λ spans. Ok (told_with is_cut spans))
unchanged (Ok more) is_cut = refl
unchanged (Err fault) is_cut = refl

-- none so far
pub from_nothing : (r : Result Texts Fault) → then_on r (told_after (Spans [])) ≡ then_on r told_by_texts
unfolding told_by_texts
from_nothing (Ok told) = unchanged (spans_of_texts told.texts) told.is_cut
from_nothing (Err fault) = refl

-- what was read, with nothing after it
pub nothing_left : (spans : List Span) (is_cut : Bool) → Ok (told_with is_cut spans) ≡ told_after (Spans spans) (nothing_more is_cut)
nothing_left spans is_cut = ap (λ all. Ok (told_with is_cut all)) (sym (append-nil spans))

chosen : {A : Type 0} (b : Bool) (x y : A) → b ≡ true → cond b x y ≡ x
chosen b x y e = rw e refl

left : {A : Type 0} (b : Bool) (x y : A) → b ≡ false → cond b x y ≡ y
left b x y e = rw e refl

-- a line that is not the last
step : (some : Bool) (line : List ℕ) (lines : List (List ℕ)) → 0 < length lines → texts_of_lines some (line ∷ lines) ≡ cond (is_blank line) (texts_of_lines some lines) (then_on (json_of line) (λ text. then_on (texts_of_lines true lines) (λ more. Ok (with_text text more))))
step some line [] lt = absurd (omega arith)
step some line (second ∷ lines) lt = refl

-- a blank line
pub line_blank : (some : Bool) (line : List ℕ) (lines : List (List ℕ)) (f : Texts → Result Told Fault) → 0 < length lines → is_blank line ≡ true → then_on (texts_of_lines some (line ∷ lines)) f ≡ then_on (texts_of_lines some lines) f
line_blank some line lines f lt e = ap (λ r. then_on r f) (step some line lines lt ∙ chosen (is_blank line) _ _ e)

read_by : (rest : Result Texts Fault) (text : Data) (f g : Texts → Result Told Fault) → ((more : Texts) → f (with_text text more) ≡ g more) → then_on (then_on rest (λ more. Ok (with_text text more))) f ≡ then_on rest g
read_by (Ok more) text f g h = h more
read_by (Err fault) text f g h = refl

-- one more text, after others
pub after_text : (so_far now : Reading) (text : Data) → ((texts : List Data) → spans_after so_far (text ∷ texts) ≡ spans_after now texts) → (more : Texts) → told_after so_far (with_text text more) ≡ told_after now more
after_text so_far now text h more = ap (λ r. then_on r (λ spans. Ok (told_with more.is_cut spans))) (h more.texts)

-- a line that is one more text
pub line_read : (some : Bool) (line : List ℕ) (lines : List (List ℕ)) (text : Data) (so_far now : Reading) → 0 < length lines → is_blank line ≡ false → json_of line ≡ Ok text → ((texts : List Data) → spans_after so_far (text ∷ texts) ≡ spans_after now texts) → then_on (texts_of_lines some (line ∷ lines)) (told_after so_far) ≡ then_on (texts_of_lines true lines) (told_after now)
line_read some line lines text so_far now lt e is h =
    ap (λ r. then_on r (told_after so_far)) (step some line lines lt ∙ left (is_blank line) _ _ e ∙ ap (λ r. then_on r (λ t. then_on (texts_of_lines true lines) (λ more. Ok (with_text t more)))) is)
    ∙ read_by (texts_of_lines true lines) text (told_after so_far) (told_after now) (after_text so_far now text h)

-- a line that is none
pub line_refused : (fault : Fault) (some : Bool) (line : List ℕ) (lines : List (List ℕ)) (f : Texts → Result Told Fault) → 0 < length lines → is_blank line ≡ false → IsFault fault (json_of line) → IsFault fault (then_on (texts_of_lines some (line ∷ lines)) f)
line_refused fault some line lines f lt e h =
    subst (λ (r : Result Texts Fault). IsFault fault (then_on r f)) (sym (step some line lines lt ∙ left (is_blank line) _ _ e)) (fault_of_part fault _ f (fault_of_part fault (json_of line) _ h))

-- the last line
pub last_blank : (line : List ℕ) (f : Texts → Result Told Fault) → is_blank line ≡ true → then_on (last_text true line) f ≡ f (nothing_more false)
last_blank line f e = ap (λ r. then_on r f) (chosen (is_blank line) _ _ e)

pub last_missing : (line : List ℕ) (f : Texts → Result Told Fault) → is_blank line ≡ true → then_on (last_text false line) f ≡ Err Json
last_missing line f e = ap (λ r. then_on r f) (chosen (is_blank line) _ _ e)

by_json : (some : Bool) (r : Result Data Fault) (text : Data) → r ≡ Ok text → cond (some && is_no_json r) (Ok (nothing_more true)) (then_on r (λ t. Ok (with_text t (nothing_more false)))) ≡ Ok (with_text text (nothing_more false))
by_json true (Ok t) text e = cc e
by_json false (Ok t) text e = cc e
by_json some (Err fault) text e = cc e

pub last_read : (some : Bool) (line : List ℕ) (text : Data) (f : Texts → Result Told Fault) → is_blank line ≡ false → json_of line ≡ Ok text → then_on (last_text some line) f ≡ f (with_text text (nothing_more false))
last_read some line text f e is = ap (λ r. then_on r f) (left (is_blank line) _ _ e ∙ by_json some (json_of line) text is)

pub last_cut : (line : List ℕ) (f : Texts → Result Told Fault) → is_blank line ≡ false → json_of line ≡ Err Json → then_on (last_text true line) f ≡ f (nothing_more true)
last_cut line f e is = ap (λ r. then_on r f) (left (is_blank line) _ _ e ∙ ap (λ r. cond (true && is_no_json r) (Ok (nothing_more true)) (then_on r (λ t. Ok (with_text t (nothing_more false))))) is)

refused_by : (some : Bool) (r : Result Data Fault) (fault : Fault) (f : Texts → Result Told Fault) → IsFault fault r → (some ≡ false) → IsFault fault (then_on (cond (some && is_no_json r) (Ok (nothing_more true)) (then_on r (λ t. Ok (with_text t (nothing_more false))))) f)
refused_by true r fault f h e = cc e
refused_by false r fault f h e = fault_of_part fault _ f (fault_of_part fault r _ h)

pub last_refused : (fault : Fault) (line : List ℕ) (f : Texts → Result Told Fault) → is_blank line ≡ false → IsFault fault (json_of line) → IsFault fault (then_on (last_text false line) f)
last_refused fault line f e h =
    subst (λ (r : Result Texts Fault). IsFault fault (then_on r f)) (sym (left (is_blank line) _ _ e)) (refused_by false (json_of line) fault f h refl)

only_json : (r : Option Data) (fault : Fault) → ok_or r Json ≡ Err fault → fault ≡ Json
only_json None fault e = cc
only_json (Some d) fault e = absurd cc

json_fault : (line : List ℕ) (fault : Fault) → json_of line ≡ Err fault → fault ≡ Json
unfolding json_of
json_fault line fault e = only_json (read line) fault e

unread : (fault : Fault) (line : List ℕ) (f : Texts → Result Told Fault) → IsFault fault (json_of line) → (fault ≡ Json → ⊥) → IsFault fault (then_on (last_text true line) f)
unread Memory line f h other_than = tt
unread TooLong line f h other_than = absurd (other_than (json_fault line TooLong h))
unread Json line f h other_than = absurd (other_than refl)
unread (NotATrace strange) line f h other_than = absurd (other_than (json_fault line (NotATrace strange) h))
unread (Shape member) line f h other_than = absurd (other_than (json_fault line (Shape member) h))
unread (SeveralTraces traces) line f h other_than = absurd (other_than (json_fault line (SeveralTraces traces) h))
unread NoTrace line f h other_than = absurd (other_than (json_fault line NoTrace h))

-- the last line where it is no JSON and is not cut
pub last_unread : (fault : Fault) (some : Bool) (line : List ℕ) (f : Texts → Result Told Fault) → is_blank line ≡ false → IsFault fault (json_of line) → (some ≡ true → fault ≡ Json → ⊥) → IsFault fault (then_on (last_text some line) f)
last_unread fault true line f e h other_than = unread fault line f h (other_than refl)
last_unread fault false line f e h other_than = last_refused fault line f e h

-- one text alone
told_alone_as : (r : Result (List Span) Fault) (spans : List Span) → then_on r (λ more. Ok ([] ++ more)) ≡ Ok spans → then_on r (λ all. Ok (told_with false all)) ≡ Ok (told_with false spans)
told_alone_as (Ok more) spans e = let same : more ≡ spans = cc in ap (λ all. Ok (told_with false all)) same
told_alone_as (Err fault) spans e = absurd cc

pub alone_read : (text : Data) (old spans : List Span) → old ≡ [] → then_on (spans_of_text text) (λ more. Ok (old ++ more)) ≡ Ok spans → told_by_texts (with_text text (nothing_more false)) ≡ Ok (told_with false spans)
alone_read text old spans none e = alone text ∙ told_alone_as (spans_of_text text) spans (ap (λ before. then_on (spans_of_text text) (λ more. Ok (before ++ more))) (sym none) ∙ e)

pub alone_refused : (fault : Fault) (text : Data) (old : List Span) → IsFault fault (then_on (spans_of_text text) (λ more. Ok (old ++ more))) → IsFault fault (told_by_texts (with_text text (nothing_more false)))
alone_refused fault text old h = subst (λ (r : Result Told Fault). IsFault fault r) (sym (alone text)) (fault_of_part fault (spans_of_text text) _ (fault_of_added fault (spans_of_text text) old h))

-- lines of texts
pub by_lines : (text : List ℕ) (fault : Fault) → json_of text ≡ Err fault → then_on (texts_of_text text) told_by_texts ≡ then_on (texts_of_lines false (lines_of text)) told_by_texts
unfolding texts_of_text
by_lines text fault e = ap (λ r. then_on (one_or r (texts_of_lines false (lines_of text))) told_by_texts) e
