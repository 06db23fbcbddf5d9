use Rattle.std.proofs.Common.{ap, sym, ◌∙◌}
use Rattle.text_io.proofs.Written.{AppendsPrefix-none}
use Rattle.serve_script.proofs.Steps.{on_err}
use Rattle.session_core.specs.Machine.{State}
use Rattle.serve_script.specs.Answers.{report_among}
use Rattle.serve_script.proofs.Answering.{all_of, part_of, stand_refused, stand_told, stays}
use Rattle.serve_script.proofs.server.Server.answer_stand.Goals as goal

pub returns-in_err-reply-clause-err : goal.returns-in_err-reply-clause-err
returns-in_err-reply-clause-err g c = on_err _ (AppendsPrefix-none _ _)

pub returns-in-At-clause-err : goal.returns-in-At-clause-err
returns-in-At-clause-err g c =
    part_of _ _ _ _ _
    (ap (λ a. a.0) (stand_told c.args.form c.args.self.now c.take.new.self c.args.session c.in-At.version c.args.asked.now c.in_ok-reply.reply c.in_ok-reply.ensures c.in-At.is)
    ∙ ap (λ (state : State). report_among c.args.form state.versions c.in-At.version c.args.asked.now) (sym c.self.view_is))
    c.answer_report.ensures.err

pub returns : goal.returns
returns g c =
    let same = stand_refused c.args.form c.args.self.now c.take.new.self c.args.session c.args.asked.now c.in_ok-reply.reply c.in_ok-reply.ensures c.in_default.not-At in
    record {
      ok = all_of _ _ _ _ _ _ same (stays c.write_reply.result _ c.take.new.self _ _ c.write_reply.ensures.ok);
      err = part_of _ _ _ _ _ (ap (λ a. a.0) same) c.write_reply.ensures.err;
      failures = c.write_reply.ensures.failures;
    }
