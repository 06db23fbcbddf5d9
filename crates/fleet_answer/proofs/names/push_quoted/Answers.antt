use Rattle.std.proofs.Common.{ℕ, ◌≡◌, List, ◌++◌, cond, Result, Ok, Err, ap, ◌∙◌}
use Rattle.std.specs.Prelude.{OnOk, is_ok}
use Rattle.serde_json.specs.Written.{compact_text, has_float}
use Rattle.fleet_answer.proofs.names.push_quoted.Goals as goal

appended : {T E : Type 0} (result : Result T E) (old new quoted text : List ℕ) → new ≡ cond (is_ok result) (old ++ quoted) old → quoted ≡ text → OnOk result (new ≡ old ++ text)
appended (Ok done) old new quoted text is same = is ∙ ap (λ more. old ++ more) same
appended (Err fault) old new quoted text is same = tt

pub returns : goal.returns
returns c =
    appended c.push_str.result _ _ _ _ c.push_str.ensures.bytes
    (c.as_str.ensures.value ∙ c.in_ok-quoted.ensures.text (ap has_float c.in_ok-value.ensures) ∙ ap compact_text c.in_ok-value.ensures)
