use Rattle.std.proofs.Common.{OnErr, sym, subst}
use Rattle.text_io.specs.Sink.{AppendsPrefix}
use Rattle.serve_script.specs.Answers.{answer_named}
use Rattle.serve_script.proofs.server.Server.answer_bytes.Goals as goal

pub returns-in-Ok-clause-err : goal.returns-in-Ok-clause-err
returns-in-Ok-clause-err g c =
    subst (λ read. OnErr c.answer_step.result (AppendsPrefix (g.S.Sink.held c.args.sink.now) (g.S.Sink.held c.answer_step.new.sink) (answer_named c.args.form c.args.self.now read).0))
    (sym c.in-Ok.ensures) (rw (c.self.view_is) at c.answer_step.ensures.err)
