-- The turns of the loop over lines.
use Rattle.std.proofs.Common.{◌≡◌, ℕ, suc, ◌+◌, ◌<◌, List, [], ◌∷◌, ◌++◌, Bool, true, false, Result, Ok, Err, length, get_or, drop, refl, sym, ap, subst, ◌∙◌, arith, length-append}
use Rattle.std.specs.Prelude.{◌==◌}
use Rattle.std.specs.Str.{IsUtf8}
use Rattle.std.specs.List.{All, after_first, before_first, position_or_len}
use Rattle.std.proofs.lemmas.Str.{IsCharBoundary-after_ascii, IsUtf8-drop}
use Rattle.std.proofs.lemmas.List.Splits.{length-slice_split, slice_split_first, slice_split_none}
use Rattle.std.proofs.lemmas.List.Sums.{fails_before_first}
use Rattle.trace_spans.specs.declared.fault.Fault.{Fault}
use Rattle.trace_spans.specs.declared.lines.Reading.{Reading}
use Rattle.trace_spans.specs.declared.told.Told.{Told}
use Rattle.trace_spans.specs.Lines.{ReadsOn, told_after}
use Rattle.trace_spans.specs.Members.{then_on}
use Rattle.trace_spans.specs.Reads.{IsFault}
use Rattle.trace_spans.specs.Texts.{is_blank, last_text, lines_of, texts_of_lines}
use Rattle.trace_spans.proofs.Texts.{line_blank, line_read, line_refused}

abbrev pub ends : ℕ → Bool
ends byte = byte == 10

-- what the rest of a text comes to after the lines before it
abbrev pub rest_of : Bool → Reading → List ℕ → Result Told Fault
rest_of some reading rest = then_on (texts_of_lines some (lines_of rest)) (told_after reading)

some_lines : (text : List ℕ) → 0 < length (lines_of text)
some_lines text = omega (arith, length-slice_split ends text)

-- a line is cut off
pub cut : (rest line others : List ℕ) → position_or_len ends rest < length rest → line ≡ before_first ends rest → others ≡ after_first ends rest → lines_of rest ≡ line ∷ lines_of others
cut rest line others lt is after = slice_split_first ends rest 0 lt ∙ ap (λ l. l ∷ lines_of (after_first ends rest)) (sym is) ∙ ap (λ r. line ∷ lines_of r) (sym after)

pub blank_turn : (m : Result Told Fault) (some : Bool) (reading : Reading) (rest line others : List ℕ) → m ≡ rest_of some reading rest → lines_of rest ≡ line ∷ lines_of others → is_blank line ≡ true → m ≡ rest_of some reading others
blank_turn m some reading rest line others so_far is blank =
    so_far ∙ ap (λ lines. then_on (texts_of_lines some lines) (told_after reading)) is ∙ line_blank some line (lines_of others) (told_after reading) (some_lines others) blank

pub read_turn : (m : Result Told Fault) (some : Bool) (reading now : Reading) (rest line others : List ℕ) → m ≡ rest_of some reading rest → lines_of rest ≡ line ∷ lines_of others → is_blank line ≡ false → ReadsOn reading line (Ok now) → m ≡ rest_of true now others
read_turn m some reading now rest line others so_far is full on =
    so_far ∙ ap (λ lines. then_on (texts_of_lines some lines) (told_after reading)) is ∙ line_read some line (lines_of others) on.0 reading now (some_lines others) full on.1 on.2

pub refused_turn : (m : Result Told Fault) (some : Bool) (reading : Reading) (rest line others : List ℕ) (fault : Fault) → m ≡ rest_of some reading rest → lines_of rest ≡ line ∷ lines_of others → is_blank line ≡ false → ReadsOn reading line (Err fault) → IsFault fault m
refused_turn m some reading rest line others fault so_far is full on =
    subst (λ (r : Result Told Fault). IsFault fault r) (sym (so_far ∙ ap (λ lines. then_on (texts_of_lines some lines) (told_after reading)) is)) (line_refused fault some line (lines_of others) (told_after reading) (some_lines others) full on)

pub last_turn : (m : Result Told Fault) (some : Bool) (reading : Reading) (rest : List ℕ) → m ≡ rest_of some reading rest → position_or_len ends rest ≡ length rest → m ≡ then_on (last_text some rest) (told_after reading)
last_turn m some reading rest so_far none =
    let all : All (λ x. ends x ≡ false) rest = λ k e lt. fails_before_first ends rest k e (omega arith) in
    so_far ∙ ap (λ lines. then_on (texts_of_lines some lines) (told_after reading)) (slice_split_none ends rest all)

at_end : (line others : List ℕ) → get_or (line ++ 10 ∷ others) (length line) 0 ≡ 10
at_end [] others = refl
at_end (x ∷ xs) others = at_end xs others

past_end : (line others : List ℕ) (n : ℕ) → n ≡ suc (length line) → drop n (line ++ 10 ∷ others) ≡ others
past_end [] others n e = ap (λ k. drop k (10 ∷ others)) e
past_end (x ∷ xs) others n e = ap (λ k. drop k (x ∷ (xs ++ 10 ∷ others))) e ∙ past_end xs others (suc (length xs)) refl

cut_utf8 : (line others : List ℕ) → IsUtf8 (line ++ 10 ∷ others) → IsUtf8 others
cut_utf8 line others utf8 =
    let long : length (line ++ 10 ∷ others) ≡ length line + suc (length others) = length-append line (10 ∷ others) in
    let ten : get_or (line ++ 10 ∷ others) (length line) 0 ≡ 10 = at_end line others in
    subst IsUtf8 (past_end line others (length line + 1) (omega arith)) (IsUtf8-drop (line ++ 10 ∷ others) (length line + 1) utf8 (IsCharBoundary-after_ascii (line ++ 10 ∷ others) (length line) utf8 (omega arith) (omega arith)))

-- what is left of a text is one
pub left_utf8 : (rest line others : List ℕ) → IsUtf8 rest → rest ≡ line ++ 10 ∷ others → IsUtf8 others
left_utf8 rest line others utf8 is = cut_utf8 line others (subst IsUtf8 is utf8)
