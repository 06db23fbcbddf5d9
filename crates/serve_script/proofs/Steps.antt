-- What is written while a script is read.
use Rattle.std.proofs.Common.{◌≡◌, ℕ, ◌+◌, ◌≤◌, Bool, true, false, List, [], ◌∷◌, ◌++◌, length, refl, sym, ap, ◌∙◌, subst, arith, length-append, append_assoc, append-nil, Option, Some, Result, Ok, Err, OnErr, IfErr}
use Rattle.std.specs.Io.KnownBytes.{Appends, Consumes, IsAtEnd, Keeps}
use Rattle.std.proofs.KnownBytes.{Appends-kept, Appends-trans, Consumes-trans}
use Rattle.text_io.specs.Sink.{AppendsPrefix, Advances, StopsShort}
use Rattle.text_io.proofs.Written.{Advances-at, AppendsPrefix-after, StopsShort-at}
use Rattle.script_lines.specs.Lines.{ScriptLine, IsBegun, comes_after, lines_of}
use Rattle.script_lines.specs.LineReader.{ReadsEndBy, ReadsPiece, TakesLine, line_read}
use Rattle.script_lines.specs.ReaderView.{ReaderView}
use Rattle.serve_script.specs.Serves.{ServesPart}
use Rattle.serve_script.specs.Faults.{is_read_fault, served}
use Rattle.serve_script.specs.declared.fault.AnswerFault.{AnswerFault}
use Rattle.serve_script.specs.declared.fault.AnswerFault.TheVariants as answer
use Rattle.serve_script.specs.declared.fault.ServeFault.{ServeFault}
use Rattle.script_lines.proofs.LineLemmas.{comes_after-last}

pub on_err : {T E P : Type 0} (r : Result T E) → P → OnErr r P
on_err (Ok x) p = tt
on_err (Err e) p = p

-- the answers to whatever comes, where so much was read, or a reader holds so much
abbrev pub to_all : (List (Option ScriptLine) → List ℕ) → List ℕ → List ℕ → List ℕ
to_all answers read bytes = answers (lines_of (read ++ bytes))

abbrev pub to_rest : (List (Option ScriptLine) → List ℕ) → ReaderView → List ℕ → List ℕ
to_rest answers reader bytes = answers (comes_after reader.line (reader.waiting ++ bytes))

-- ---- a line that has ended

-- it is answered, and the next one is begun
pub answers_line : (before after : List (Option ScriptLine) → List ℕ) (reader taken next : ReaderView) (line : Option ScriptLine) (ended : Bool) (a b : Option (List ℕ))
    → ended ≡ true → TakesLine ended reader taken → line ≡ line_read taken → next.line ≡ Some [] → next.waiting ≡ taken.waiting
    → Advances (λ lines. before (line ∷ lines)) after a b → Advances (to_rest before reader) (to_rest after next) a b
answers_line before after reader taken next line ended a b is_end takes is fresh same step =
    let (taking, shorter) = subst (λ e. TakesLine e reader taken) is_end takes in
    Advances-at _ _ _ _ a b (λ bytes. lines_of (taken.waiting ++ bytes))
    (λ bytes. ap before (taking bytes ∙ ap (λ l. l ∷ lines_of (taken.waiting ++ bytes)) (sym is)))
    (λ bytes. ap after (ap (λ w. lines_of (w ++ bytes)) (sym same) ∙ ap (λ l. comes_after l (next.waiting ++ bytes)) (sym fresh)))
    step

pub stops_in_line : (before : List (Option ScriptLine) → List ℕ) (reader taken : ReaderView) (line : Option ScriptLine) (ended : Bool) (a b : Option (List ℕ))
    → ended ≡ true → TakesLine ended reader taken → line ≡ line_read taken → StopsShort (λ lines. before (line ∷ lines)) a b → StopsShort (to_rest before reader) a b
stops_in_line before reader taken line ended a b is_end takes is stop =
    let (taking, shorter) = subst (λ e. TakesLine e reader taken) is_end takes in
    StopsShort-at _ _ a b (λ bytes. lines_of (taken.waiting ++ bytes))
    (λ bytes. ap before (taking bytes ∙ ap (λ l. l ∷ lines_of (taken.waiting ++ bytes)) (sym is))) stop

-- ---- a line that goes on

pub goes_on : (answers after : List (Option ScriptLine) → List ℕ) (before reader taken : ReaderView) (ended : Bool) (a b : Option (List ℕ))
    → ended ≡ false → TakesLine ended reader taken → Advances (to_rest answers before) (to_rest after reader) a b → Advances (to_rest answers before) (to_rest after taken) a b
goes_on answers after before reader taken ended a b is_not takes step =
    let (taking, none) = subst (λ e. TakesLine e reader taken) is_not takes in
    Advances-at _ _ _ _ a b (λ bytes. bytes) (λ bytes. refl)
    (λ bytes. ap after (taking bytes ∙ ap (λ w. comes_after taken.line (w ++ bytes)) (sym none))) step

-- ---- a piece that was read

pub answers_piece : (answers then : List (Option ScriptLine) → List ℕ) (read : List ℕ) (reader next : ReaderView) (had left : Option (List ℕ)) (more : Bool) (a b : Option (List ℕ))
    → more ≡ true → ReadsPiece more reader next had left → next.line ≡ reader.line → reader.waiting ≡ []
    → Advances (to_all answers read) (to_rest then reader) a b → Advances (to_all answers (read ++ next.waiting)) (to_rest then next) a b
answers_piece answers then read reader next had left more a b is_more piece line none step =
    Advances-at _ _ _ _ a b (λ bytes. next.waiting ++ bytes)
    (λ bytes. ap (λ l. answers (lines_of l)) (append_assoc read next.waiting bytes))
    (λ bytes. ap then (ap (λ w. comes_after reader.line (w ++ (next.waiting ++ bytes))) none ∙ ap (λ l. comes_after l (next.waiting ++ bytes)) (sym line)))
    step

pub reads_piece : (read : List ℕ) (reader next : ReaderView) (before had left : Option (List ℕ)) (more : Bool) (most : ℕ)
    → Consumes before had read → length read + reader.left ≡ most → more ≡ true → ReadsPiece more reader next had left
    → Consumes before left (read ++ next.waiting) × (length (read ++ next.waiting) + next.left ≡ most)
reads_piece read reader next before had left more most so_far counted is_more piece =
    let (consumed, here, some) = subst (λ b. ReadsPiece b reader next had left) is_more piece in
    let joined = length-append read next.waiting in
    (Consumes-trans before had left read next.waiting so_far consumed, omega (arith, joined, here, counted))

-- ---- the end of the reading

pub reads_end : (read : List ℕ) (reader next : ReaderView) (before had left : Option (List ℕ)) (more : Bool)
    → Consumes before had read → more ≡ false → ReadsPiece more reader next had left → Consumes before left read × IsAtEnd left
reads_end read reader next before had left more so_far is_last piece =
    let (consumed, end, empty, kept) = subst (λ b. ReadsPiece b reader next had left) is_last piece in
    (subst (Consumes before left) (append-nil read) (Consumes-trans before had left read [] so_far consumed), end)

-- what was written when the reading stops
pub written_so_far : (answers : List (Option ScriptLine) → List ℕ) (read : List ℕ) (a b : Option (List ℕ)) → StopsShort (to_all answers read) a b → AppendsPrefix a b (answers (lines_of read))
written_so_far answers read a b stop = subst (λ l. AppendsPrefix a b (answers (lines_of l))) (append-nil read) (stop [])

-- the last line, where the source has ended
all_at_end : (answers then : List (Option ScriptLine) → List ℕ) (read : List ℕ) (reader : ReaderView) (line : Option ScriptLine) (a b : Option (List ℕ)) → IsBegun reader.line → reader.waiting ≡ [] → line ≡ line_read reader
    → (step : Advances (to_all answers read) (to_rest then reader) a b) → answers (lines_of read) ≡ step.written ++ then (line ∷ [])
all_at_end answers then read reader line a b begun none is step =
    ap (λ l. answers (lines_of l)) (sym (append-nil read))
    ∙ step.left []
    ∙ ap (λ l. step.written ++ then l) (ap (λ w. comes_after reader.line (w ++ [])) none ∙ comes_after-last reader.line begun ∙ ap (λ l. l ∷ []) (sym is))

pub stops_at_end : (answers then : List (Option ScriptLine) → List ℕ) (read : List ℕ) (reader : ReaderView) (line : Option ScriptLine) (a b c : Option (List ℕ)) → IsBegun reader.line → reader.waiting ≡ [] → line ≡ line_read reader
    → Advances (to_all answers read) (to_rest then reader) a b → StopsShort (λ lines. then (line ∷ lines)) b c → AppendsPrefix a c (answers (lines_of read))
stops_at_end answers then read reader line a b c begun none is step stop =
    subst (AppendsPrefix a c) (sym (all_at_end answers then read reader line a b begun none is step)) (AppendsPrefix-after a b c _ _ step.appends (stop []))

pub ends : (answers then after : List (Option ScriptLine) → List ℕ) (read : List ℕ) (reader : ReaderView) (line : Option ScriptLine) (a b c d : Option (List ℕ)) → IsBegun reader.line → reader.waiting ≡ [] → line ≡ line_read reader
    → Advances (to_all answers read) (to_rest then reader) a b → Advances (λ lines. then (line ∷ lines)) after b c → after [] ≡ [] → Keeps c d → Appends a d (answers (lines_of read))
ends answers then after read reader line a b c d begun none is step last nothing kept =
    subst (Appends a d)
    (sym (all_at_end answers then read reader line a b begun none is step ∙ ap (λ l. step.written ++ l) (last.left [] ∙ ap (λ l. last.written ++ l) nothing ∙ append-nil last.written)))
    (Appends-kept a c d _ (Appends-trans a b c _ _ step.appends last.appends) kept)

-- ---- faults

pub serves_part : (fault : ServeFault) (most : ℕ) (answers : List (Option ScriptLine) → List ℕ) (read : List ℕ) (had left : Option (List ℕ)) (before after : ℕ) (held holds : Option (List ℕ))
    → Consumes had left read → length read ≤ most → AppendsPrefix held holds (answers (lines_of read)) → ReadsEndBy (is_read_fault fault) (length read) most before after
    → ServesPart most answers had left before after held holds fault
serves_part fault most answers read had left before after held holds consumed within stop reads = record {
  read = read;
  consumed = consumed;
  within_the_most = within;
  answered = stop;
  reads = reads;
}

pub serves_part_at : {T : Type 0} (r : Result T ServeFault) (fault : ServeFault) → (y : ServeFault) × (r ≡ Err y) × (y ≡ fault)
    → (most : ℕ) (answers : List (Option ScriptLine) → List ℕ) (read : List ℕ) (had left : Option (List ℕ)) (before after : ℕ) (held holds : Option (List ℕ))
    → Consumes had left read → length read ≤ most → AppendsPrefix held holds (answers (lines_of read)) → ReadsEndBy (is_read_fault fault) (length read) most before after
    → IfErr r (ServesPart most answers had left before after held holds)
serves_part_at r fault (y, is, same) most answers read had left before after held holds consumed within stop reads =
    subst (λ (t : Result _ ServeFault). IfErr t (ServesPart most answers had left before after held holds)) (sym (is ∙ ap Err same))
    (serves_part fault most answers read had left before after held holds consumed within stop reads)

-- no read failed where an answer failed
pub unfailed_in_answer : (fault : AnswerFault) (read most before after : ℕ) → after ≡ before → ReadsEndBy (is_read_fault (served fault)) read most before after
unfailed_in_answer answer.Memory read most before after same = same
unfailed_in_answer answer.Write read most before after same = same
