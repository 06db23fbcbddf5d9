use Rattle.std.proofs.Common.{◌≡◌, ◌++◌, ◌∙◌, OnOk, ap, sym, subst}
use Rattle.json.specs.Tree.{json_tokens}
use Rattle.act_expr.specs.Expression.{Expression, is_wrapped}
use Rattle.act_expr.specs.Forms.{tree}
use Rattle.recording_text.specs.Json.{action_json}
use Rattle.recording_text.proofs.expression.+expression.Goals as goal

pub push_expression-returns-in-IsWrapped : goal.push_expression-returns-in-IsWrapped
push_expression-returns-in-IsWrapped t c =
    let same : is_wrapped ≡ c.args.expression.now = sym (ap tree c.in-IsWrapped.is) ∙ c.form.ensures in
    subst (λ (e : Expression). OnOk c.push_only_word-in-IsWrapped.result (c.push_only_word-in-IsWrapped.new.line ≡ c.args.line.now ++ json_tokens (action_json e))) same c.push_only_word-in-IsWrapped.ensures
