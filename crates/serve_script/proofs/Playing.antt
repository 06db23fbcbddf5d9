-- The state that a script comes to, while it is read.
use Rattle.std.proofs.Common.{◌≡◌, ◌∙◌, ℕ, ◌+◌, Bool, true, false, List, [], ◌∷◌, ◌++◌, append-nil, append_assoc, Option, Some, None, Result, Ok, Err, OnOk, ap, sym, subst}
use Rattle.script_lines.specs.LineReader.{TakesLine, line_read}
use Rattle.script_lines.specs.Lines.{IsBegun, ScriptLine, comes_after, lines_of}
use Rattle.script_lines.specs.ReaderView.{ReaderView}
use Rattle.script_lines.proofs.LineLemmas.{comes_after-last}
use Rattle.session_core.specs.Machine.{State}
use Rattle.report_form.specs.Forms.{form_of}
use Rattle.report_form.specs.declared.form.Form.{Form}
use Rattle.report_form.specs.declared.form.Format.{Format}
use Rattle.serve_script.specs.Serves.{ServesAll}
use Rattle.stage_graph.specs.Plain.{PlainGraph}
use Rattle.version_store.specs.Plain.{PlainVersion}
use Rattle.serve_script.specs.Answers.{IsAnswered, answer_line, answers_from, last_version, opening_state, played_from}
use Rattle.serve_script.specs.Playing.{PlaysAll, PlaysOn, PlaysTo}

abbrev Lines : Type 0
Lines = List (Option ScriptLine)

-- what comes, where so much was read, or a reader holds so much
abbrev pub in_all : (Lines → State) → List ℕ → List ℕ → State
in_all plays read bytes = plays (lines_of (read ++ bytes))

abbrev pub in_rest : (Lines → State) → ReaderView → List ℕ → State
in_rest plays reader bytes = plays (comes_after reader.line (reader.waiting ++ bytes))

-- ---- one line

pub plays : {T E : Type 0} (r : Result T E) (format : Format) (number : ℕ) (form : Form) (s t : State) (line : Option ScriptLine) (a b : Option (List ℕ))
    → form ≡ form_of format (Some number) → OnOk r (IsAnswered (answer_line form s line) t a b)
    → OnOk r (PlaysOn (λ lines. played_from format number s (line ∷ lines)) (played_from format (number + 1) t))
plays (Err e) format number form s t line a b formed answered = tt
plays (Ok x) format number form s t line a b formed (is, appends) = λ lines.
    ap (λ f. played_from format (number + 1) (answer_line f s line).1 lines) (sym formed)
    ∙ ap (λ u. played_from format (number + 1) u lines) (sym is)

pub plays_blank : (format : Format) (number : ℕ) (s : State) (line : Option ScriptLine) → line ≡ None
    → PlaysOn (λ lines. played_from format number s (line ∷ lines)) (played_from format (number + 1) s)
plays_blank format number s line none = λ lines. ap (λ l. played_from format number s (l ∷ lines)) none

-- ---- a line that has ended, and one that goes on

pub plays_line : (before after : Lines → State) (reader taken next : ReaderView) (line : Option ScriptLine) (ended : Bool)
    → ended ≡ true → TakesLine ended reader taken → line ≡ line_read taken → next.line ≡ Some [] → next.waiting ≡ taken.waiting
    → PlaysOn (λ lines. before (line ∷ lines)) after → PlaysOn (in_rest before reader) (in_rest after next)
plays_line before after reader taken next line ended is_end takes is fresh same step = λ bytes.
    let (taking, shorter) = subst (λ e. TakesLine e reader taken) is_end takes in
    ap before (taking bytes ∙ ap (λ l. l ∷ lines_of (taken.waiting ++ bytes)) (sym is))
    ∙ step (lines_of (taken.waiting ++ bytes))
    ∙ ap after (ap (λ w. lines_of (w ++ bytes)) (sym same) ∙ ap (λ l. comes_after l (next.waiting ++ bytes)) (sym fresh))

pub then_plays : {X : Type 0} (before between after : X → State) → PlaysOn before between → PlaysOn between after → PlaysOn before after
then_plays before between after first second = λ coming. first coming ∙ second coming

pub plays_begun : (begins after : Lines → State) (before reader taken : ReaderView) (ended : Bool)
    → ended ≡ false → TakesLine ended reader taken → PlaysOn (in_rest begins before) (in_rest after reader) → PlaysOn (in_rest begins before) (in_rest after taken)
plays_begun begins after before reader taken ended is_not takes step = λ bytes.
    let (taking, none) = subst (λ e. TakesLine e reader taken) is_not takes in
    step bytes ∙ ap after (taking bytes ∙ ap (λ w. comes_after taken.line (w ++ bytes)) (sym none))

-- ---- a piece that was read, and the end

pub plays_piece : (begins then : Lines → State) (read : List ℕ) (reader next : ReaderView) → next.line ≡ reader.line → reader.waiting ≡ []
    → PlaysOn (in_all begins read) (in_rest then reader) → PlaysOn (in_all begins (read ++ next.waiting)) (in_rest then next)
plays_piece begins then read reader next line none step = λ bytes.
    ap (λ l. begins (lines_of l)) (append_assoc read next.waiting bytes)
    ∙ step (next.waiting ++ bytes)
    ∙ ap then (ap (λ w. comes_after reader.line (w ++ (next.waiting ++ bytes))) none ∙ ap (λ l. comes_after l (next.waiting ++ bytes)) (sym line))

pub played_at_end : (begins then after : Lines → State) (read : List ℕ) (reader : ReaderView) (line : Option ScriptLine) (t : State) → IsBegun reader.line → reader.waiting ≡ [] → line ≡ line_read reader
    → PlaysOn (in_all begins read) (in_rest then reader) → PlaysOn (λ lines. then (line ∷ lines)) after → after [] ≡ t → t ≡ begins (lines_of read)
played_at_end begins then after read reader line t begun none is step last ends =
    sym (ap (λ l. begins (lines_of l)) (sym (append-nil read))
    ∙ step []
    ∙ ap then (ap (λ w. comes_after reader.line (w ++ [])) none ∙ comes_after-last reader.line begun ∙ ap (λ l. l ∷ []) (sym is))
    ∙ last []
    ∙ ends)

-- ---- a whole script

pub serves_all : {T E : Type 0} (r : Result T E) (most : ℕ) (format : Format) (s t : State) (had left : Option (List ℕ)) (before after : ℕ) (held holds : Option (List ℕ))
    → OnOk r (PlaysAll most format s t had left before after held holds) → OnOk r (ServesAll most (answers_from format 1 s) had left before after held holds)
serves_all (Ok x) most format s t had left before after held holds all = all.serves
serves_all (Err e) most format s t had left before after held holds all = tt

module _ (n most : ℕ) (format : Format) (s t : State) (graph : PlainGraph) (had left : Option (List ℕ)) (before after : ℕ) (held holds : Option (List ℕ)) where
  -- the script is played from version 0 of the graph on
  pub from_opening : n ≡ most → s ≡ opening_state graph → PlaysAll n format s t had left before after held holds → PlaysAll most format (opening_state graph) t had left before after held holds
  from_opening same opens all =
      subst (λ u. PlaysAll most format u t had left before after held holds) opens (subst (λ m. PlaysAll m format s t had left before after held holds) same all)

  -- the same of the table that is left
  pub plays_to_table : (u : State) → u ≡ t → n ≡ most → s ≡ opening_state graph → PlaysAll n format s t had left before after held holds
      → PlaysAll most format (opening_state graph) u had left before after held holds
  plays_to_table u is same opens all =
      subst (λ v. PlaysAll most format (opening_state graph) v had left before after held holds) (sym is) (from_opening same opens all)

  pub plays_to : (version : PlainVersion) → n ≡ most → s ≡ opening_state graph → PlaysAll n format s t had left before after held holds → last_version t ≡ Some version
      → PlaysTo most format graph version had left before after held holds
  plays_to version same opens all last =
      let here = from_opening same opens all in
      record { serves = here.serves; last = ap last_version (sym here.played) ∙ last }
