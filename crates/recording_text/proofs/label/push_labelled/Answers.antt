use Rattle.std.proofs.Common.{ℕ, List, ◌++◌, ◌∙◌, ap, map}
use Rattle.stage_graph.specs.declared.end.End.{End}
use Rattle.recording_text.specs.Json.{op_rows, outcome_rows, rows_tokens}
use Rattle.recording_text.specs.Labels.{plain_label}
use Rattle.recording_text.proofs.Pushing.{labelled_pushed}
use Rattle.recording_text.proofs.label.push_labelled.Goals as goal

pub returns : goal.returns
returns c =
    let stage = c.args.stage.now in
    labelled_pushed c.token-2.result stage (map plain_label c.args.labels.now)
    c.args.line.now c.token.new.self c.push_op.new.line c.push_named_feeds.new.line c.push_times.new.line c.push_outcome_members.new.line c.push_labels.new.line c.token-2.new.self
    c.in_ok-token.ensures
    (c.in_ok-push_op.ensures ∙ ap (λ (name : List ℕ). c.token.new.self ++ rows_tokens (op_rows name stage.op)) c.as_str.ensures)
    c.in_ok-push_named_feeds.ensures c.in_ok-push_times.ensures
    (c.in_ok-push_outcome_members.ensures ∙ ap (λ (ends : List End). c.push_times.new.line ++ rows_tokens (outcome_rows stage.action stage.pin_result stage.pin_moment ends)) c.as_slice.ensures)
    c.in_ok-push_labels.ensures c.token-2.ensures
