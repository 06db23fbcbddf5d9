use Rattle.trace_spans.proofs.Marking.{noted}
use Rattle.trace_spans.proofs.choice.note.Goals as goal

pub returns : goal.returns
returns c = λ earlier are.
    noted c.args.marks.now c.insert.new.self c.in_ok-mark.mark c.args.span.now earlier c.in_ok-insert.field-0 c.in_ok-mark.ensures are c.in_ok-insert.ensures.added c.in_ok-insert.ensures.unchanged c.in_ok-insert.ensures.updates.0
