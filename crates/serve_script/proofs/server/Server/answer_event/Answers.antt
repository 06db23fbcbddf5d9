use Rattle.std.proofs.Common.{ap}
use Rattle.text_io.proofs.Written.{AppendsPrefix-none}
use Rattle.serve_script.proofs.Steps.{on_err}
use Rattle.serve_script.proofs.Answering.{event_told, part_of}
use Rattle.serve_script.proofs.server.Server.answer_event.Goals as goal

pub returns-in_err-reply-clause-err : goal.returns-in_err-reply-clause-err
returns-in_err-reply-clause-err g c = on_err _ (AppendsPrefix-none _ _)

pub returns-clause-err : goal.returns-clause-err
returns-clause-err g c =
    part_of _ _ _ _ _ (ap (λ a. a.0) (event_told c.args.form c.args.self.now c.take.new.self c.args.event c.args.listed c.in_ok-reply.reply c.in_ok-reply.ensures)) c.write_reply.ensures.err
