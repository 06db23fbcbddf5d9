use Rattle.std.proofs.Common.{ap, sym, ◌∙◌, option_copied}
use Rattle.text_io.proofs.Written.{AppendsPrefix-none}
use Rattle.serve_script.proofs.Steps.{on_err}
use Rattle.serve_script.specs.Told.{reply_told}
use Rattle.serve_script.proofs.Answering.{part_of}
use Rattle.serve_script.proofs.telling.tell_reply.Goals as goal

pub returns-in_err-line-in-Text-clause-err : goal.returns-in_err-line-in-Text-clause-err
returns-in_err-line-in-Text-clause-err g c = on_err _ (AppendsPrefix-none _ _)

pub returns-in_ok-line-in-Text-clause-err : goal.returns-in_ok-line-in-Text-clause-err
returns-in_ok-line-in-Text-clause-err g c =
    part_of _ _ _ _ _ (ap (λ form. reply_told form (option_copied c.args.base) c.args.event.now c.args.listed c.args.reply) c.in-Text.is ∙ sym (c.as_bytes.ensures.value ∙ c.in_ok-line-in-Text.ensures)) c.write_text.ensures.err

pub returns-in-Json-clause-err : goal.returns-in-Json-clause-err
returns-in-Json-clause-err g c =
    part_of _ _ _ _ _ (ap (λ form. reply_told form (option_copied c.args.base) c.args.event.now c.args.listed c.args.reply) c.in-Json.is) c.write_reply.ensures.err
