use Rattle.std.proofs.Common.{ℕ, List, ◌++◌, ◌∙◌, ap, map}
use Rattle.stage_graph.specs.declared.end.End.{End}
use Rattle.recording_text.specs.Json.{feed_rows, op_rows, outcome_rows, rows_tokens}
use Rattle.recording_text.specs.Named.{name_at, named_stage}
use Rattle.recording_text.proofs.Pushing.{stage_pushed}
use Rattle.recording_text.proofs.stage.push_stage.Goals as goal

pub returns : goal.returns
returns g c =
    let places = c.args.graph.now.places in
    let stage = c.args.stage.now in
    let names = λ (feeds : List ℕ). map (name_at places) feeds in
    stage_pushed c.token-2.result (named_stage places stage) c.args.line.now c.token.new.self c.push_op.new.line c.push_feeds.new.line c.push_times.new.line c.push_outcome_members.new.line c.token-2.new.self
    c.in_ok-token.ensures
    (c.in_ok-push_op.ensures ∙ ap (λ (name : List ℕ). c.token.new.self ++ rows_tokens (op_rows name stage.op)) c.as_str.ensures)
    (c.in_ok-push_feeds.ensures
    ∙ ap (λ (sources : List ℕ). c.push_op.new.line ++ rows_tokens (feed_rows (names sources) (names c.as_slice-2.result.now))) c.as_slice.ensures
    ∙ ap (λ (inner : List ℕ). c.push_op.new.line ++ rows_tokens (feed_rows (names stage.sources) (names inner))) c.as_slice-2.ensures)
    c.in_ok-push_times.ensures
    (c.in_ok-push_outcome_members.ensures ∙ ap (λ (ends : List End). c.push_times.new.line ++ rows_tokens (outcome_rows stage.action stage.pin_result stage.pin_moment ends)) c.as_slice-3.ensures)
    c.token-2.ensures
