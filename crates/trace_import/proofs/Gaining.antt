-- Texts that gain stages.
use Rattle.std.proofs.Common.{◌≡◌, ◌∙◌, ◌+◌, ◌<◌, ℕ, List, [], ◌∷◌, ◌++◌, length, map, take, drop, get_or, sym, ap, subst, append_assoc, arith}
use Rattle.std.proofs.lemmas.List.{map-append, take-append-drop, take_more}
use Rattle.recording_text.specs.Labels.{Begun, Labelled, PlainHead, begun, labelled_recording}
use Rattle.recording_text.proofs.Begun.{begun_within}
use Rattle.trace_spans.specs.declared.span.Span.{Span}
use Rattle.trace_stages.specs.Naming.{plain_stage, plain_stages}
use Rattle.trace_stages.specs.declared.stage.ImportedStage.{ImportedStage}
use Rattle.trace_import.specs.Limits.{longest}
use Rattle.trace_import.specs.Specs.{labelled_stage, labelled_stages}

-- stages, one of them, and those behind it
pub split : (spans : List Span) (names : List (List ℕ)) (stages : List ImportedStage) (k : ℕ) (stage : ImportedStage) → stage ≡ get_or stages k stage → k < length stages
    → labelled_stages spans names (plain_stages (take k stages)) ++ labelled_stage spans names (plain_stage stage) ∷ labelled_stages spans names (plain_stages (drop (k + 1) stages)) ≡ labelled_stages spans names (plain_stages stages)
split spans names stages k stage is within =
    let all : List ImportedStage → List Labelled = λ those. labelled_stages spans names (plain_stages those) in
    let one : ImportedStage → Labelled = λ it. labelled_stage spans names (plain_stage it) in
    let joined : (xs ys : List ImportedStage) → all (xs ++ ys) ≡ all xs ++ all ys =
    λ xs ys. ap (map (labelled_stage spans names)) (map-append plain_stage xs ys) ∙ map-append (labelled_stage spans names) (plain_stages xs) (plain_stages ys) in
    ap (λ it. all (take k stages) ++ one it ∷ all (drop (k + 1) stages)) is
    ∙ sym (append_assoc (all (take k stages)) (one (get_or stages k stage) ∷ []) (all (drop (k + 1) stages)))
    ∙ ap (λ l. l ++ all (drop (k + 1) stages)) (sym (joined (take k stages) (get_or stages k stage ∷ [])) ∙ ap all (sym (take_more stages k stage within)))
    ∙ sym (joined (take (k + 1) stages) (drop (k + 1) stages))
    ∙ ap all (take-append-drop (k + 1) stages)

-- a text that is too long with a stage stays so
pub stays_too_long : (head : PlainHead) (before put : List Labelled) (stage : Labelled) (rest whole : List Labelled) (text : Begun) → text ≡ begun head ((before ++ put) ++ stage ∷ []) → put ++ stage ∷ rest ≡ whole
    → longest < length text.0 → longest < length (labelled_recording head (before ++ whole))
stays_too_long head before put stage rest whole text is all long =
    let same : ((before ++ put) ++ stage ∷ []) ++ rest ≡ before ++ whole =
    append_assoc (before ++ put) (stage ∷ []) rest ∙ append_assoc before put (stage ∷ rest) ∙ ap (λ l. before ++ l) all in
    let within = begun_within head ((before ++ put) ++ stage ∷ []) rest in
    let begins : longest < length (begun head ((before ++ put) ++ stage ∷ [])).0 = subst (λ (t : Begun). longest < length t.0) is long in
    subst (λ (l : List Labelled). longest < length (labelled_recording head l)) same (omega (arith, begins, within))
