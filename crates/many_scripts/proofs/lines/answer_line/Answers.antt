use Rattle.std.proofs.Common.{Some, refl}
use Rattle.recording.specs.declared.fault.Fault.TheVariants.{TooLong}
use Rattle.script_lines.specs.Lines.{too_long}
use Rattle.serve_script.specs.Told.{fault_told}
use Rattle.many_scripts.specs.Played.{IsLine}
use Rattle.many_scripts.proofs.LineByLine.{tells_fault}
use Rattle.many_scripts.proofs.lines.answer_line.Goals as goal

pub returns-in-TooLong-clause-ok : goal.returns-in-TooLong-clause-ok
returns-in-TooLong-clause-ok g c =
    rw c.in-TooLong.is
    (tells_fault c.tell_fault.result (λ known earlier. IsLine c.args.access.now.form c.args.client.now.number known earlier (Some too_long)) c.args.client.now (g.S.Sink.held c.args.sink.now) (g.S.Sink.held c.tell_fault.new.sink) (fault_told c.args.access.now.form TooLong)
    c.requires.heard (refl, refl) c.tell_fault.ensures.ok)
