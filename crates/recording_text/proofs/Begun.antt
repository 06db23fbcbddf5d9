-- A text that is put together stage by stage.
use Rattle.std.proofs.Common.{◌≡◌, ◌≤◌, ℕ, Bool, true, false, ◌||◌, List, [], ◌∷◌, ◌++◌, None, length, length-append, refl, sym, ap, ap₂, ◌∙◌, append_assoc, append-nil, arith}
use Rattle.recording_text.specs.Labels.{Begun, GainsStage, IsFinished, Labelled, PlainHead, begun, labelled_head, labelled_lines, labelled_recording, labelled_text, recording_with, stands}
use Rattle.recording_text.specs.Texts.{end_text, line_break}

abbrev pub with_stages : Bool → List ℕ → Begun
with_stages later text = (text, later)

pub lines_append : (later : Bool) (stages more : List Labelled) → labelled_lines later (stages ++ more) ≡ labelled_lines later stages ++ labelled_lines (later || stands stages) more
lines_append true [] more = refl
lines_append false [] more = refl
lines_append true (stage ∷ stages) more =
    ap (λ l. (line_break true ++ labelled_text stage) ++ l) (lines_append true stages more) ∙ sym (append_assoc (line_break true ++ labelled_text stage) (labelled_lines true stages) (labelled_lines true more))
lines_append false (stage ∷ stages) more =
    ap (λ l. (line_break false ++ labelled_text stage) ++ l) (lines_append true stages more) ∙ sym (append_assoc (line_break false ++ labelled_text stage) (labelled_lines true stages) (labelled_lines true more))

one_more : (stages : List Labelled) (stage : Labelled) → true ≡ stands (stages ++ stage ∷ [])
one_more [] stage = refl
one_more (first ∷ stages) stage = refl

pub gains : (text more : List ℕ) (later : Bool) (stage : Labelled) → more ≡ text ++ (line_break later ++ labelled_text stage) → GainsStage (text, later) (more, true) stage
unfolding begun
gains text more later stage is head stages stood =
    let line = line_break (stands stages) ++ labelled_text stage in
    let words : text ≡ labelled_head None head ++ labelled_lines false stages = ap (λ (t : Begun). t.0) stood in
    let also : later ≡ stands stages = ap (λ (t : Begun). t.1) stood in
    ap₂ (λ (l : List ℕ) (b : Bool). with_stages b l)
    (is ∙ ap₂ (λ (l : List ℕ) (b : Bool). l ++ (line_break b ++ labelled_text stage)) words also
    ∙ append_assoc (labelled_head None head) (labelled_lines false stages) line
    ∙ ap (λ l. labelled_head None head ++ l) (ap (λ l. labelled_lines false stages ++ l) (sym (append-nil line)) ∙ sym (lines_append false stages (stage ∷ []))))
    (one_more stages stage)

pub finishes : (text whole : List ℕ) (later : Bool) → whole ≡ text ++ end_text → IsFinished (text, later) whole
unfolding begun recording_with
finishes text whole later is head stages stood = is ∙ ap (λ (t : Begun). t.0 ++ end_text) stood

-- a text that is too long stays so
pub begun_within : (head : PlainHead) (stages more : List Labelled) → length (begun head stages).0 ≤ length (labelled_recording head (stages ++ more))
unfolding begun recording_with
begun_within head stages more = rw (lines_append false stages more) (simp length-append (omega arith))
