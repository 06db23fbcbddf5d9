use Rattle.trace_spans.proofs.Texts.{meant, one_more_text, text_refused}
use Rattle.trace_spans.proofs.lines.with_text.Goals as goal

pub returns-in-Ok : goal.returns-in-Ok
returns-in-Ok c = λ texts. rw c.in-Spans.is (one_more_text c.in-Spans.spans c.add_text.new.spans c.args.text.now texts c.in-Ok.ensures)

pub returns : goal.returns
returns c = λ texts. rw (c.in-Spans.is, c.in_line.ensures) (text_refused c.in-Spans.spans c.args.text.now texts c.in-Err.fault (meant c.in-Err.fault _ c.in_default.not-Memory c.in-Err.ensures))
