use Rattle.std.proofs.Common.{ap, sym, ◌∙◌, option_copied}
use Rattle.text_io.proofs.Written.{AppendsPrefix-none}
use Rattle.report_json.specs.Json.{answer_text}
use Rattle.serve_script.specs.Values.{closed_json, opened_json, reply_json}
use Rattle.serve_script.proofs.Answering.{part_of}
use Rattle.serve_script.proofs.Steps.{on_err}
use Rattle.serve_script.proofs.Told.{opened_reads_back}
use Rattle.serve_script.proofs.telling.write_reply.Goals as goal

pub write_value-requires-clause-exact : goal.write_value-requires-clause-exact
write_value-requires-clause-exact g c = (opened_reads_back _ _ _ c.in_ok-answer-in-Opened.ensures).0

pub write_value-requires-clause-shallow : goal.write_value-requires-clause-shallow
write_value-requires-clause-shallow g c = (opened_reads_back _ _ _ c.in_ok-answer-in-Opened.ensures).1

pub returns-in_err-answer-in-Opened-clause-err : goal.returns-in_err-answer-in-Opened-clause-err
returns-in_err-answer-in-Opened-clause-err g c = on_err _ (AppendsPrefix-none _ _)

pub returns-in_err-answer-in-Closed-clause-err : goal.returns-in_err-answer-in-Closed-clause-err
returns-in_err-answer-in-Closed-clause-err g c = on_err _ (AppendsPrefix-none _ _)

pub returns-in_err-answer-in-Refused-clause-err : goal.returns-in_err-answer-in-Refused-clause-err
returns-in_err-answer-in-Refused-clause-err g c = on_err _ (AppendsPrefix-none _ _)

pub returns-in_err-answer-in-Memory-clause-err : goal.returns-in_err-answer-in-Memory-clause-err
returns-in_err-answer-in-Memory-clause-err g c = on_err _ (AppendsPrefix-none _ _)

pub returns-in_ok-answer-in-Opened-clause-err : goal.returns-in_ok-answer-in-Opened-clause-err
returns-in_ok-answer-in-Opened-clause-err g c =
    part_of _ _ _ _ _
    (ap (λ reply. answer_text c.args.line (reply_json (option_copied c.args.base) c.args.event.now c.args.listed reply)) c.in-Opened.is
    ∙ ap (λ session. answer_text c.args.line (opened_json session c.in-Opened.version)) (sym c.session.ensures)
    ∙ ap (answer_text c.args.line) (sym c.in_ok-answer-in-Opened.ensures))
    c.write_value.ensures.err

pub returns-in-At-clause-err : goal.returns-in-At-clause-err
returns-in-At-clause-err g c =
    part_of _ _ _ _ _ (ap (λ reply. answer_text c.args.line (reply_json (option_copied c.args.base) c.args.event.now c.args.listed reply)) c.in-At.is) c.write_version.ensures.err

pub returns-in-Committed-clause-err : goal.returns-in-Committed-clause-err
returns-in-Committed-clause-err g c =
    part_of _ _ _ _ _ (ap (λ reply. answer_text c.args.line (reply_json (option_copied c.args.base) c.args.event.now c.args.listed reply)) c.in-Committed.is)
    c.write_version-in-Committed.ensures.err

pub returns-in-Undone-clause-err : goal.returns-in-Undone-clause-err
returns-in-Undone-clause-err g c =
    part_of _ _ _ _ _ (ap (λ reply. answer_text c.args.line (reply_json (option_copied c.args.base) c.args.event.now c.args.listed reply)) c.in-Undone.is)
    c.write_version-in-Undone.ensures.err

pub returns-in_ok-answer-in-Closed-clause-err : goal.returns-in_ok-answer-in-Closed-clause-err
returns-in_ok-answer-in-Closed-clause-err g c =
    part_of _ _ _ _ _
    (ap (λ reply. answer_text c.args.line (reply_json (option_copied c.args.base) c.args.event.now c.args.listed reply)) c.in-Closed.is
    ∙ ap (λ session. answer_text c.args.line (closed_json session)) (sym c.session-in-Closed.ensures)
    ∙ ap (answer_text c.args.line) (sym c.in_ok-answer-in-Closed.ensures))
    c.write_value-in-Closed.ensures.err

pub returns-in_ok-answer-in-Refused-clause-err : goal.returns-in_ok-answer-in-Refused-clause-err
returns-in_ok-answer-in-Refused-clause-err g c =
    part_of _ _ _ _ _
    (ap (λ reply. answer_text c.args.line (reply_json (option_copied c.args.base) c.args.event.now c.args.listed reply)) c.in-Refused.is
    ∙ ap (answer_text c.args.line) (sym c.in_ok-answer-in-Refused.ensures))
    c.write_value-in-Refused.ensures.err

pub returns-in_ok-answer-in-Memory-clause-err : goal.returns-in_ok-answer-in-Memory-clause-err
returns-in_ok-answer-in-Memory-clause-err g c =
    part_of _ _ _ _ _
    (ap (λ reply. answer_text c.args.line (reply_json (option_copied c.args.base) c.args.event.now c.args.listed reply)) c.in-Memory.is
    ∙ ap (answer_text c.args.line) (sym c.in_ok-answer-in-Memory.ensures))
    c.write_value-in-Memory.ensures.err
