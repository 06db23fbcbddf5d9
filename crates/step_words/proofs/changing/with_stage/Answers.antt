use Rattle.std.proofs.Common.{◌∙◌, ℕ, List, Result, Ok, Err, ap, subst, sym}
use Rattle.std.proofs.lemmas.Result.{err_from_is_err_and}
use Rattle.change_words.specs.declared.change.Change.{Change}
use Rattle.step_words.specs.declared.mistake.Mistake.{Mistake}
use Rattle.step_words.specs.Changing.{with_stage}
use Rattle.step_words.specs.Names.{stage_in}
use Rattle.step_words.specs.Said.{IsSaid}
use Rattle.step_words.proofs.Failing.{failed_then}
use Rattle.step_words.proofs.changing.with_stage.Goals as goal

pub returns-in_err-name : goal.returns-in_err-name
returns-in_err-name g c =
    let p = err_from_is_err_and c.from_residual.result c.from_residual.ensures.1 in
    let unnamed = subst (λ (text : List ℕ). IsSaid {A = List ℕ} (Err c.in_err-name.field-0.0) (stage_in c.args.graph.now.places text)) c.as_str.ensures c.in_err-name.ensures in
    subst (λ (r : Result Change Mistake). IsSaid r (with_stage c.args.graph.now.places c.args.change)) (sym (p.1 ∙ ap (λ (mistake : Mistake). Err mistake) p.2))
    (failed_then _ (stage_in c.args.graph.now.places c.args.change.name) (λ name. Ok (record c.args.change { name = name })) unnamed)
