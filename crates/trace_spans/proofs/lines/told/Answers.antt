use Rattle.trace_spans.proofs.Texts.{nothing_left}
use Rattle.trace_spans.proofs.lines.told.Goals as goal

pub returns-in-Spans : goal.returns-in-Spans
returns-in-Spans c = rw c.in-Spans.is (nothing_left c.in-Spans.spans c.args.is_cut)
