use Rattle.trace_spans.proofs.Texts.{whole}
use Rattle.trace_spans.proofs.trace.read_text.Goals as goal

pub returns-in-Ok : goal.returns-in-Ok
returns-in-Ok c =
    rw (whole c.args.text.now c.in-Ok.document c.in-Ok.ensures, ← c.root.ensures) c.read_alone.ensures
