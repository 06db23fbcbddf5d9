-- The tokens of a recording's text.
use Rattle.std.proofs.Common.{◌≡◌, ℕ, Bool, true, false, List, [], ◌∷◌, ◌++◌, fold, All, IfSome, Option, Some, None, refl, sym, ap, ◌∙◌, append_assoc, append-nil, codes, subst}
use Rattle.std.specs.List.{AllByRecursion as Each}
use Rattle.std.proofs.lemmas.List.Elements.{All-head, All-tail}
use Rattle.json.specs.Json.{array}
use Rattle.json.specs.Token.{Token, begin_array, begin_object, end_object, end_array, key}
use Rattle.json.specs.Word.{after_number, ends_word}
use Rattle.json.specs.Lex.{lex, between, comma, fresh, punctuate, tokens}
use Rattle.json.specs.Print.{ends, print_from, print, ArePrintable, IsNumber}
use Rattle.json.specs.Tree.{json_tokens, HasNumbers, ItemsHaveNumbers, MembersHaveNumbers}
use Rattle.json.proofs.Printed.Tokens.{print_from-append, tokens-print}
use Rattle.json.proofs.Printed.Trees.{ArePrintable-json_tokens}
use Rattle.act_expr.specs.declared.outcome.Mode.{Mode}
use Rattle.recording_text.specs.Json.{Row, items_of, list_tokens, members_of, row, rows_tokens, stage_rows}
use Rattle.recording_text.specs.Labels.{Labelled, PlainHead, PlainLabel, group_row, head_rows, head_tokens, json_in, json_with, label_rows, labelled_head, labelled_json, labelled_lines, labelled_text, labels_json, mode_row, recording_with}
use Rattle.recording_text.specs.Texts.{end_text, line_break}
use Rattle.recording_back.specs.ReadBack.{EachTextHasItsTokens}
use Rattle.recording_back.proofs.Lexing.{print_then, value_ends}
use Rattle.recording_text.proofs.Pushing.{items_listed, rows_append, rows_listed}

abbrev closing : List Token
closing = end_array ∷ end_object ∷ []

abbrev HaveNumbers : List Labelled → Type 0
HaveNumbers stages = All (λ stage. HasNumbers (json_in stage)) stages

abbrev stages_tokens : List Labelled → List Token
stages_tokens stages = list_tokens json_in stages

-- ---- a stage's tokens begin and end an object

last_ends : (c : Bool) (ts : List Token) → fold (λ _ t. ends t) c (ts ++ end_object ∷ []) ≡ true
last_ends c [] = refl
last_ends c (t ∷ ts) = last_ends (ends t) ts

abbrev inside : Labelled → List Token
inside stage = rows_tokens (stage_rows stage.0 ++ label_rows stage.1)

stage_shape : (stage : Labelled) → json_tokens (json_in stage) ≡ begin_object ∷ (inside stage ++ end_object ∷ [])
unfolding labelled_json
stage_shape stage = ap (λ l. begin_object ∷ l) (rows_listed (stage_rows stage.0 ++ label_rows stage.1))

stage_ends : (c : Bool) (stage : Labelled) → fold (λ _ t. ends t) c (json_tokens (json_in stage)) ≡ true
stage_ends c stage = ap (fold (λ _ t. ends t) c) (stage_shape stage) ∙ last_ends false (inside stage)

-- ---- the lines

lines_end_word : (later : Bool) (stages : List Labelled) → ends_word (labelled_lines later stages ++ end_text) ≡ true
lines_end_word later [] = refl
lines_end_word true (stage ∷ stages) = refl
lines_end_word false (stage ∷ stages) = refl

-- the tokens of a stage, printed behind others and before others
stage_before : (later : Bool) (stage : Labelled) (ts : List Token) → print_from later (json_tokens (json_in stage) ++ ts) ≡ print_from later (json_tokens (json_in stage)) ++ print_from true ts
stage_before later stage ts =
    print_from-append later (json_tokens (json_in stage)) ts ∙ ap (λ b. print_from later (json_tokens (json_in stage)) ++ print_from b ts) (stage_ends later stage)

broken : (later : Bool) (stage : Labelled) (r s : List ℕ) → lex between (labelled_text stage ++ r) ≡ lex between (labelled_text stage ++ s)
    → lex between (line_break later ++ (labelled_text stage ++ r)) ≡ lex between (print_from later (json_tokens (json_in stage)) ++ s)
unfolding lex print_from
broken true stage r s same = ap (λ l. comma ∷ l) same ∙ ap (λ (ts : List Token). lex between (44 ∷ (print_from false ts ++ s))) (stage_shape stage) ∙ ap (λ (ts : List Token). lex between (print_from true ts ++ s)) (sym (stage_shape stage))
broken false stage r s same = same

closed : (later : Bool) → lex between end_text ≡ lex between (print_from later closing)
unfolding lex print_from
closed true = refl
closed false = refl

rest_ends : (ts : List Token) → ends_word (print_from true ts) ≡ true
rest_ends ts = ap ends_word (sym (append-nil (print_from true ts))) ∙ value_ends ts [] refl

lines_lexed : (later : Bool) (stages : List Labelled) → HaveNumbers stages
    → lex between (labelled_lines later stages ++ end_text) ≡ lex between (print_from later (stages_tokens stages ++ closing))
lines_lexed later [] h = closed later
lines_lexed later (stage ∷ stages) h =
    let first = json_tokens (json_in stage) in
    let rest = stages_tokens stages ++ closing in
    let numbers = All-head (λ (s : Labelled). HasNumbers (json_in s)) stage stages h in
    ap (lex between) (append_assoc (line_break later ++ labelled_text stage) (labelled_lines true stages) end_text ∙ append_assoc (line_break later) (labelled_text stage) (labelled_lines true stages ++ end_text))
    ∙ broken later stage (labelled_lines true stages ++ end_text) (print_from true rest)
    (print_then false first (labelled_lines true stages ++ end_text) (print_from true rest) (ArePrintable-json_tokens (json_in stage) numbers) (lines_end_word true stages) (rest_ends rest)
    (lines_lexed true stages (All-tail (λ (s : Labelled). HasNumbers (json_in s)) stage stages h)))
    ∙ ap (lex between) (sym (stage_before later stage rest) ∙ ap (print_from later) (sym (append_assoc first (stages_tokens stages) closing)))

stages_begin : (stages : List Labelled) → ends_word (print_from false (stages_tokens stages ++ closing)) ≡ true
unfolding print_from
stages_begin [] = refl
stages_begin (stage ∷ stages) = ap (λ (ts : List Token). ends_word (print_from false ((ts ++ stages_tokens stages) ++ closing))) (stage_shape stage)

-- ---- the numbers of a recording

pub two : IsNumber (codes "2")
unfolding after_number
two = refl

abbrev HasNumber : Row → Type 0
HasNumber row = IfSome row.1 HasNumbers

pub rows_numbers : (rows : List Row) → Each HasNumber rows → MembersHaveNumbers (members_of rows)
rows_numbers [] h = tt
rows_numbers ((name, None) ∷ rows) h = rows_numbers rows h.1
rows_numbers ((name, Some value) ∷ rows) h = (h.0, rows_numbers rows h.1)

labels_numbers : (labels : List PlainLabel) → Each HasNumber (label_rows labels)
labels_numbers [] = tt
labels_numbers (label ∷ labels) = (tt, labels_numbers labels)

group_numbers : (labels : List PlainLabel) → IfSome (labels_json labels) HasNumbers
group_numbers [] = tt
group_numbers (label ∷ labels) = rows_numbers (label_rows (label ∷ labels)) (labels_numbers (label ∷ labels))

beside_numbers : (labels : List PlainLabel) (group last : Row) → HasNumber group → HasNumber last → Each HasNumber ((label_rows labels ++ group ∷ []) ++ last ∷ [])
beside_numbers [] group last h k = (h, (k, tt))
beside_numbers (label ∷ labels) group last h k = (tt, beside_numbers labels group last h k)

mode_numbers : (mode : Option Mode) → HasNumber (mode_row mode)
mode_numbers None = tt
mode_numbers (Some named) = tt

all_numbers : (stages : List Labelled) → HaveNumbers stages → ItemsHaveNumbers (items_of json_in stages)
all_numbers [] h = tt
all_numbers (stage ∷ stages) h = (All-head (λ (s : Labelled). HasNumbers (json_in s)) stage stages h, all_numbers stages (All-tail (λ (s : Labelled). HasNumbers (json_in s)) stage stages h))

abbrev stages_row : List Labelled → Row
stages_row stages = row (codes "stages") (array (items_of json_in stages))

recording_numbers : (mode : Option Mode) (head : PlainHead) (stages : List Labelled) → HaveNumbers stages → HasNumbers (json_with mode head stages)
recording_numbers mode head stages h =
    rows_numbers (head_rows mode head ++ stages_row stages ∷ []) (two, (mode_numbers mode, beside_numbers head.0 (group_row head.1) (stages_row stages) (group_numbers head.1.1) (all_numbers stages h)))

-- ---- the tokens of a recording

regrouped : (h l : List Token) → (h ++ ((key (codes "stages") ∷ begin_array ∷ (l ++ end_array ∷ [])) ++ [])) ++ end_object ∷ [] ≡ (h ++ key (codes "stages") ∷ begin_array ∷ []) ++ (l ++ closing)
regrouped h l = simp (append_assoc, append-nil)

recording_shape : (mode : Option Mode) (head : PlainHead) (stages : List Labelled) → json_tokens (json_with mode head stages) ≡ head_tokens mode head ++ (stages_tokens stages ++ closing)
recording_shape mode head stages =
    let heads = rows_tokens (head_rows mode head) in
    ap (λ l. begin_object ∷ l)
    (rows_listed (head_rows mode head ++ stages_row stages ∷ [])
    ∙ ap (λ l. l ++ end_object ∷ []) (rows_append (head_rows mode head) (stages_row stages ∷ []))
    ∙ ap (λ (l : List Token). (heads ++ ((key (codes "stages") ∷ begin_array ∷ l) ++ [])) ++ end_object ∷ []) (items_listed json_in stages)
    ∙ regrouped heads (stages_tokens stages))

ArePrintable-front : (ts us : List Token) → ArePrintable (ts ++ us) → ArePrintable ts
unfolding ArePrintable
ArePrintable-front [] us p = tt
ArePrintable-front (t ∷ ts) us p = (p.0, ArePrintable-front ts us p.1)

-- nothing stands behind the bracket that opens the stages, where they are printed behind it
open_ends : (c : Bool) (ts : List Token) → fold (λ _ t. ends t) c (ts ++ key (codes "stages") ∷ begin_array ∷ []) ≡ false
open_ends c [] = refl
open_ends c (t ∷ ts) = open_ends (ends t) ts

head_then : (mode : Option Mode) (head : PlainHead) (rest : List Token) → print_from false (head_tokens mode head) ++ print_from false rest ≡ print_from false (head_tokens mode head ++ rest)
head_then mode head rest =
    sym (print_from-append false (head_tokens mode head) rest
    ∙ ap (λ b. print_from false (head_tokens mode head) ++ print_from b rest) (open_ends false (begin_object ∷ rows_tokens (head_rows mode head))))

pub text_tokens : EachTextHasItsTokens
unfolding recording_with
text_tokens mode head stages h =
    let rest = stages_tokens stages ++ closing in
    let printable = ArePrintable-json_tokens (json_with mode head stages) (recording_numbers mode head stages h) in
    let heads = ArePrintable-front (head_tokens mode head) rest (subst ArePrintable (recording_shape mode head stages) printable) in
    ap (λ l. punctuate fresh (lex between l)) (append_assoc (labelled_head mode head) (labelled_lines false stages) end_text)
    ∙ ap (punctuate fresh)
    (print_then false (head_tokens mode head) (labelled_lines false stages ++ end_text) (print_from false rest) heads (lines_end_word false stages) (stages_begin stages) (lines_lexed false stages h)
    ∙ ap (lex between) (head_then mode head rest))
    ∙ ap tokens (ap print (sym (recording_shape mode head stages)))
    ∙ tokens-print (json_tokens (json_with mode head stages)) printable
