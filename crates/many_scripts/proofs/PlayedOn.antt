-- A script that is played line by line.
use Rattle.std.proofs.Common.{◌≡◌, ℕ, ◌+◌, ◌≤◌, inl, inr, Bool, true, false, List, [], ◌∷◌, ◌++◌, length, sym, ap, ◌∙◌, subst, arith, append_assoc, length-append, Option, Some, Result, Err, IfErr}
use Rattle.std.specs.Io.KnownBytes.{Consumes}
use Rattle.std.proofs.KnownBytes.{Consumes-nil, Consumes-trans}
use Rattle.script_lines.specs.Lines.{ScriptLine, lines_of}
use Rattle.script_lines.specs.LineReader.{ReadsEndBy, ReadsOn, StopsReading, line_read, is_read_fault as is_line_read_fault}
use Rattle.serve_script.specs.Faults.{is_read_fault, served, unread}
use Rattle.script_lines.specs.ReaderView.{ReaderView}
use Rattle.serve_script.proofs.Steps.{unfailed_in_answer}
use Rattle.serve_script.specs.declared.fault.AnswerFault.{AnswerFault}
use Rattle.script_lines.specs.declared.fault.LineFault.{LineFault}
use Rattle.script_lines.specs.declared.fault.LineFault.TheVariants as line
use Rattle.report_form.specs.Forms.{form_of}
use Rattle.report_form.specs.declared.form.Form.{Form}
use Rattle.report_form.specs.declared.form.Format.{Format}
use Rattle.desk.specs.Clients.{ClientView}
use Rattle.many_scripts.specs.Played.{IsLine, IsPlayed}
use Rattle.many_scripts.specs.Playing.{Answers, HasHeard, PlaysScript}
use Rattle.many_scripts.proofs.LineByLine.{plays_line, plays_none, plays_on}

-- so much was read, and its lines were played but for what waits; the next one has this number, which the bytes bound
pub record PlaysOn (format : Format) (most number : ℕ) (c d : ClientView) (reader : ReaderView) (had left : Option (List ℕ)) (held holds : Option (List ℕ)) : Type 0 where
  pub read : List ℕ
  pub given : List (Option ScriptLine)
  pub numbered : number ≡ 1 + length given
  pub bounded : number + length reader.waiting + reader.left ≤ most + 1
  pub consumed : Consumes had left read
  pub counted : length read + reader.left ≡ most
  pub lines : (bytes : List ℕ) → lines_of (read ++ bytes) ≡ given ++ lines_of (reader.waiting ++ bytes)
  pub plays : Answers (λ known earlier. IsPlayed format 1 c.number known earlier given) c d held holds

pub begins : (format : Format) (c : ClientView) (reader : ReaderView) (had held : Option (List ℕ)) → HasHeard c → reader.waiting ≡ [] → PlaysOn format reader.left 1 c c reader had had held held
begins format c reader had held heard none = record {
  read = [];
  given = [];
  numbered = omega arith;
  bounded = let empty = ap length none in omega (arith, empty);
  consumed = Consumes-nil had;
  counted = omega arith;
  lines = λ bytes. ap (λ w. lines_of (w ++ bytes)) (sym none);
  plays = plays_none format 1 c held heard;
}

-- the lines with one more, where that one was answered under its number
plays_more : (format : Format) (number : ℕ) (form : Form) (c m d : ClientView) (given : List (Option ScriptLine)) (line : Option ScriptLine) (a b e : Option (List ℕ)) → number ≡ 1 + length given → form ≡ form_of format (Some number)
    → Answers (λ known earlier. IsPlayed format 1 c.number known earlier given) c m a b
    → Answers (λ known earlier. IsLine form m.number known earlier line) m d b e
    → Answers (λ known earlier. IsPlayed format 1 c.number known earlier (given ++ line ∷ [])) c d a e
plays_more format number form c m d given line a b e numbered formed plays answers =
    plays_on format 1 c m d given (line ∷ []) a b e plays
    (subst (λ n. Answers (λ known earlier. IsPlayed format n m.number known earlier (line ∷ [])) m d b e) numbered (plays_line format number m d line b e (subst (λ f. Answers (λ known earlier. IsLine f m.number known earlier line) m d b e) formed answers)))

-- one line more
pub goes_on : (format : Format) (most number : ℕ) (form : Form) (c m d : ClientView) (before after : ReaderView) (had left still : Option (List ℕ)) (a b e : Option (List ℕ)) (line : Option ScriptLine) (more : Bool)
    → PlaysOn format most number c m before had left a b → more ≡ true → ReadsOn more before after left still → line ≡ line_read after
    → form ≡ form_of format (Some number) → Answers (λ known earlier. IsLine form m.number known earlier line) m d b e → PlaysOn format most (number + 1) c d after had still a e
goes_on format most number form c m d before after had left still a b e line more so_far is_more reads is formed answers =
    let on = subst (λ b. ReadsOn b before after left still) is_more reads in
    let joined = length-append so_far.read on.piece in
    let was = so_far.counted in
    let now = on.counted in
    record {
      read = so_far.read ++ on.piece;
      given = so_far.given ++ line ∷ [];
      numbered = let here = so_far.numbered in let longer = length-append so_far.given (line ∷ []) in omega (arith, here, longer);
      bounded = let bound = so_far.bounded in let shorter = on.gives.1 in omega (arith, bound, shorter);
      consumed = Consumes-trans had left still so_far.read on.piece so_far.consumed on.consumed;
      counted = omega (arith, joined, was, now);
      lines = λ bytes.
          ap lines_of (append_assoc so_far.read on.piece bytes)
          ∙ so_far.lines (on.piece ++ bytes)
          ∙ ap (λ l. so_far.given ++ l) (on.gives.0 bytes ∙ ap (λ o. o ∷ lines_of (after.waiting ++ bytes)) (sym is))
          ∙ sym (append_assoc so_far.given (line ∷ []) (lines_of (after.waiting ++ bytes)));
      plays = plays_more format number form c m d so_far.given line a b e so_far.numbered formed so_far.plays answers;
    }

-- the last line
pub comes_to_end : (format : Format) (most number : ℕ) (form : Form) (c m d : ClientView) (before after : ReaderView) (had left still : Option (List ℕ)) (failures_before failures_after : ℕ) (a b e : Option (List ℕ)) (line : Option ScriptLine) (more : Bool)
    → PlaysOn format most number c m before had left a b → more ≡ false → ReadsOn more before after left still → failures_after ≡ failures_before → line ≡ line_read after
    → form ≡ form_of format (Some number) → Answers (λ known earlier. IsLine form m.number known earlier line) m d b e → PlaysScript format most c d had still failures_before failures_after a e
comes_to_end format most number form c m d before after had left still failures_before failures_after a b e line more so_far is_last reads unfailed is formed answers =
    let on = subst (λ b. ReadsOn b before after left still) is_last reads in
    let joined = length-append so_far.read on.piece in
    let was = so_far.counted in
    let now = on.counted in
    let some = on.gives.3 in
    let lines : so_far.given ++ line ∷ [] ≡ lines_of (so_far.read ++ on.piece) =
    ap (λ l. so_far.given ++ l) (ap (λ o. o ∷ []) is ∙ sym on.gives.0)
    ∙ sym (so_far.lines on.piece) in
    record {
      read = so_far.read ++ on.piece;
      consumed = Consumes-trans had left still so_far.read on.piece so_far.consumed on.consumed;
      to_the_end = on.gives.2;
      below_the_most = omega (arith, joined, was, now, some);
      no_failure = unfailed;
      plays = subst (λ l. Answers (λ known earlier. IsPlayed format 1 c.number known earlier l) c d a e) lines
          (plays_more format number form c m d so_far.given line a b e so_far.numbered formed so_far.plays answers);
    }

-- a fault ended the reading
ends_by : (at_read : Bool) (read piece : List ℕ) (most left before after : ℕ) → length read + left ≡ most
    → ReadsEndBy at_read (length piece) left before after → ReadsEndBy at_read (length (read ++ piece)) most before after
ends_by false read piece most left before after counted reads = reads
ends_by true read piece most left before after counted (inl failed) = inl failed
ends_by true read piece most left before after counted (inr (all, same)) =
    inr ((let joined = length-append read piece in omega (arith, joined, all, counted)), same)

stops_on : (format : Format) (most number : ℕ) (c m : ClientView) (before : ReaderView) (had left still : Option (List ℕ)) (first failures_before failures_after : ℕ) (a b : Option (List ℕ)) (at_read : Bool)
    → PlaysOn format most number c m before had left a b → failures_before ≡ first → StopsReading at_read before.left left still failures_before failures_after
    → StopsReading at_read most had still first failures_after
stops_on format most number c m before had left still first failures_before failures_after a b at_read so_far unfailed stops = record {
  piece = so_far.read ++ stops.piece;
  consumed = Consumes-trans had left still so_far.read stops.piece so_far.consumed stops.consumed;
  reads = subst (λ n. ReadsEndBy at_read (length (so_far.read ++ stops.piece)) most n failures_after) unfailed
      (ends_by at_read so_far.read stops.piece most before.left failures_before failures_after so_far.counted stops.reads);
}

-- no line came
pub stops_in_line : (format : Format) (most number : ℕ) (c m : ClientView) (before : ReaderView) (had left still : Option (List ℕ)) (first failures_before failures_after : ℕ) (a b : Option (List ℕ)) (fault : LineFault)
    → PlaysOn format most number c m before had left a b → failures_before ≡ first → StopsReading (is_line_read_fault fault) before.left left still failures_before failures_after
    → StopsReading (is_read_fault (unread fault)) most had still first failures_after
stops_in_line format most number c m before had left still first failures_before failures_after a b line.Memory so_far unfailed stops =
    stops_on format most number c m before had left still first failures_before failures_after a b false so_far unfailed stops
stops_in_line format most number c m before had left still first failures_before failures_after a b line.Read so_far unfailed stops =
    stops_on format most number c m before had left still first failures_before failures_after a b true so_far unfailed stops

-- an answer failed
pub stops_answering : (format : Format) (most number : ℕ) (c m : ClientView) (before after : ReaderView) (had left still : Option (List ℕ)) (first failures : ℕ) (a b : Option (List ℕ)) (fault : AnswerFault) (more : Bool)
    → PlaysOn format most number c m before had left a b → ReadsOn more before after left still → failures ≡ first → StopsReading (is_read_fault (served fault)) most had still first failures
stops_answering format most number c m before after had left still first failures a b fault more so_far on unfailed = record {
  piece = so_far.read ++ on.piece;
  consumed = Consumes-trans had left still so_far.read on.piece so_far.consumed on.consumed;
  reads = unfailed_in_answer fault (length (so_far.read ++ on.piece)) most first failures unfailed;
}

pub at_err : {T E : Type 0} (r : Result T E) (P : E → Type 0) (fault : E) → (y : E) × (r ≡ Err y) × (y ≡ fault) → P fault → IfErr r P
at_err r P fault (y, is, same) p = subst (λ (t : Result _ _). IfErr t P) (sym (is ∙ ap Err same)) p
