use Rattle.std.proofs.Common.{codes, option_map, ◌∙◌, ap, ◌++◌}
use Rattle.json.specs.Json.{string}
use Rattle.recording_text.specs.Json.{count, recording_json, row, row_tokens}
use Rattle.recording_text.specs.Named.{specs_of}
use Rattle.recording_text.proofs.Pushing.{object_pushed}
use Rattle.recording_text.proofs.report.push_report.Goals as goal

pub returns : goal.returns
returns g c =
    object_pushed c.token-2.result (codes "line", option_map count c.args.answered) (row (codes "recording") (recording_json c.args.graph.now.mode (specs_of c.args.graph.now)))
    (row (codes "report") (string (codes "recording"))) (row (codes "version") (count c.args.number))
    c.args.line.now c.token.new.self c.push_line_number.new.line c.push_named_recording.new.line c.push_text.new.line c.push_count.new.line c.token-2.new.self
    c.in_ok-token.ensures c.in_ok-push_line_number.ensures c.in_ok-push_named_recording.ensures c.in_ok-push_text.ensures
    (c.in_ok-push_count.ensures ∙ ap (λ n. c.push_text.new.line ++ row_tokens (row (codes "version") (count n))) c.from.ensures)
    c.token-2.ensures
