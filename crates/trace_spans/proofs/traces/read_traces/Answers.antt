use Rattle.std.proofs.Common.{sym, ◌∙◌}
use Rattle.trace_spans.proofs.Grouping.{all_traces, none_there, some_there}
use Rattle.trace_spans.proofs.traces.read_traces.Goals as goal

pub returns-then-is_empty : goal.returns-then-is_empty
returns-then-is_empty c =
    let traces = c.in_ok-traces.traces in
    all_traces c.args.bytes.now c.in_ok-told.told traces.items c.in_ok-told.ensures c.in_ok-traces.ensures ∙ none_there traces.items traces.len traces.ok.0 (sym c.if-is_empty.ensures)

pub returns : goal.returns
returns c =
    let traces = c.in_ok-traces.traces in
    all_traces c.args.bytes.now c.in_ok-told.told traces.items c.in_ok-told.ensures c.in_ok-traces.ensures ∙ some_there traces.items traces.len traces.ok.0 (sym c.if-is_empty.ensures)
