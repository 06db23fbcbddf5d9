use Rattle.std.proofs.Common.{ap}
use Rattle.text_io.proofs.Written.{AppendsPrefix-none}
use Rattle.serve_script.proofs.Steps.{on_err}
use Rattle.serve_script.proofs.Answering.{all_of, head_edited, head_refused, part_of, stays}
use Rattle.serve_script.proofs.server.Server.answer_head.Goals as goal

pub returns-in_err-reply-clause-err : goal.returns-in_err-reply-clause-err
returns-in_err-reply-clause-err g c = on_err _ (AppendsPrefix-none _ _)

pub returns-in_err-edit-in-At-clause-err : goal.returns-in_err-edit-in-At-clause-err
returns-in_err-edit-in-At-clause-err g c = on_err _ (AppendsPrefix-none _ _)

pub returns-in_ok-edit-in-At-clause-err : goal.returns-in_ok-edit-in-At-clause-err
returns-in_ok-edit-in-At-clause-err g c =
    part_of _ _ _ _ _
    (ap (λ a. a.0) (head_edited c.args.form c.args.self.now c.take.new.self c.args.session c.in-At.base c.args.edits c.in_ok-edit-in-At.edit c.args.listed c.in_ok-reply.reply c.in_ok-reply.ensures c.in-At.is c.in_ok-edit-in-At.ensures))
    c.answer_event.ensures.err

pub returns-in_default : goal.returns-in_default
returns-in_default g c =
    let same = head_refused c.args.form c.args.self.now c.take.new.self c.args.session c.args.edits c.args.listed c.in_ok-reply.reply c.in_ok-reply.ensures c.in_default.not-At in
    record {
      ok = all_of _ _ _ _ _ _ same (stays c.write_reply.result _ c.take.new.self _ _ c.write_reply.ensures.ok);
      err = part_of _ _ _ _ _ (ap (λ a. a.0) same) c.write_reply.ensures.err;
      failures = c.write_reply.ensures.failures;
    }
