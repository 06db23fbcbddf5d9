-- The JSON texts that bytes are.
use Rattle.std.specs.Prelude.{ℕ, ◌==◌, ◌||◌, ◌&&◌, List, [], ◌∷◌, Bool, true, false, if◌then◌else◌, Result, Ok, Err}
use Rattle.std.specs.Option.{ok_or}
use Rattle.std.specs.List.{list_all, slice_split}
use Rattle.std.specs.Str.{is_utf8}
use Rattle.serde_json.specs.Data.{Data}
use Rattle.serde_json.specs.Read.{read}
use Rattle.trace_spans.specs.declared.fault.Fault.{Fault}
use Rattle.trace_spans.specs.declared.fault.Fault.TheVariants.{Json}
use Rattle.trace_spans.specs.Members.{then_on}

-- a space, a tab or a carriage return
abbrev pub is_space : ℕ → Bool
is_space byte = byte == 32 || byte == 9 || byte == 13

unfoldable pub is_blank : List ℕ → Bool
is_blank line = list_all is_space line

unfoldable pub json_of : List ℕ → Result Data Fault
json_of text = ok_or (read text) Json

-- the texts of a file, and whether its last line is cut and left out
pub record Texts : Type 0 where
  pub texts : List Data
  pub is_cut : Bool

abbrev pub with_text : Data → Texts → Texts
with_text text more = record more { texts = text ∷ more.texts }

abbrev pub nothing_more : Bool → Texts
nothing_more is_cut = record { texts = []; is_cut = is_cut }

abbrev pub is_no_json : Result Data Fault → Bool
is_no_json (Ok text) = false
is_no_json (Err fault) = true

-- the last line, which no line end ends: where there are texts before it may be cut; where there are none there have to be some
abbrev pub last_text : Bool → List ℕ → Result Texts Fault
last_text some line =
    if is_blank line then (if some then Ok (nothing_more false) else Err Json) else
    (if some && is_no_json (json_of line) then Ok (nothing_more true) else
    (then_on (json_of line) (λ text. Ok (with_text text (nothing_more false)))))

-- each line that is not blank is a text, after some or none
abbrev pub texts_of_lines : Bool → List (List ℕ) → Result Texts Fault
texts_of_lines some [] = Err Json
texts_of_lines some (line ∷ []) = last_text some line
texts_of_lines some (line ∷ second ∷ lines) =
    if is_blank line then texts_of_lines some (second ∷ lines) else
    (then_on (json_of line) (λ text.
    then_on (texts_of_lines true (second ∷ lines)) (λ more.
    Ok (with_text text more))))

abbrev pub lines_of : List ℕ → List (List ℕ)
lines_of text = slice_split (λ byte. byte == 10) text

abbrev pub one_or : Result Data Fault → Result Texts Fault → Result Texts Fault
one_or (Ok text) lines = Ok (with_text text (nothing_more false))
one_or (Err fault) lines = lines

-- one text, or else lines of them
unfoldable pub texts_of_text : List ℕ → Result Texts Fault
texts_of_text text = one_or (json_of text) (texts_of_lines false (lines_of text))

unfoldable pub texts_of : List ℕ → Result Texts Fault
texts_of bytes = if is_utf8 bytes then texts_of_text bytes else Err Json
