use Rattle.recording.specs.StepOf.{step_of}
use Rattle.many_scripts.proofs.LineByLine.{names_fault}
use Rattle.many_scripts.proofs.lines.answer_bytes.Goals as goal

pub returns-in-Err-clause-ok : goal.returns-in-Err-clause-ok
returns-in-Err-clause-ok g c =
    names_fault c.args.access.now.form c.refuse.result c.args.client.now c.in-Err.fault (step_of c.args.bytes.now) (g.S.Sink.held c.args.sink.now) (g.S.Sink.held c.refuse.new.sink)
    c.requires.heard c.in-Err.ensures c.refuse.ensures.ok
