use Rattle.std.proofs.Common.{sym}
use Rattle.trace_spans.specs.Lines.{told_after}
use Rattle.trace_spans.proofs.Texts.{is_itself, last_read}
use Rattle.trace_spans.proofs.lines.read_last.Goals as goal

pub returns-then-is_blank : goal.returns-then-is_blank
returns-then-is_blank c = is_itself c.told_before.result _ (sym (c.told_before.ensures c.args.line.now (sym c.if-is_blank.ensures)))

pub returns-in-Ok : goal.returns-in-Ok
returns-in-Ok c =
    rw (last_read c.args.some_before c.args.line.now c.in-Ok.document (told_after c.args.so_far) (sym c.if-is_blank.ensures) c.in-Ok.ensures, ← c.root.ensures) c.last_told.ensures

pub returns-in-Err : goal.returns-in-Err
returns-in-Err c = c.cut_off.ensures c.args.line.now (sym c.if-is_blank.ensures) c.in-Err.ensures
