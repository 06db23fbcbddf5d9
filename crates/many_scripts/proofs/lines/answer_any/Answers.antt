use Rattle.many_scripts.proofs.LineByLine.{plays_blank}
use Rattle.many_scripts.proofs.lines.answer_any.Goals as goal

pub returns-in-None-clause-ok : goal.returns-in-None-clause-ok
returns-in-None-clause-ok g c = rw c.in-None.is (plays_blank c.args.form c.args.client.now (g.S.Sink.held c.args.sink.now) c.requires.heard)
