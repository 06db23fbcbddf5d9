use Rattle.std.proofs.Common.{◌++◌, ap, ◌∙◌}
use Rattle.serde_json.specs.Written.{compact_text, has_float}
use Rattle.text_io.specs.Writes.{line_end}
use Rattle.fleet_answer.proofs.Exact.{answer_exact}
use Rattle.fleet_answer.proofs.json_writing.json_of.Goals as goal

pub returns : goal.returns
returns c =
    c.in_ok-push_str.ensures.bytes
    ∙ ap (λ text. text ++ line_end) (c.in_ok-text.ensures.text (ap has_float c.in_ok-value.ensures ∙ answer_exact c.args.answer.now) ∙ ap compact_text c.in_ok-value.ensures)
