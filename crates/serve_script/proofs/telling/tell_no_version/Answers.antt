use Rattle.std.proofs.Common.{ap, sym, ◌∙◌, codes}
use Rattle.text_io.proofs.Written.{AppendsPrefix-none}
use Rattle.serve_script.proofs.Steps.{on_err}
use Rattle.report_json.specs.Json.{answer_text}
use Rattle.serve_script.specs.Told.{no_version_told}
use Rattle.serve_script.proofs.Answering.{part_of}
use Rattle.serve_script.proofs.Told.{refused_reads_back}
use Rattle.serve_script.proofs.telling.tell_no_version.Goals as goal

pub write_value-requires-clause-exact : goal.write_value-requires-clause-exact
write_value-requires-clause-exact g c = (refused_reads_back _ 52 (codes "NoVersion") c.in_ok-answer-in-Json.ensures).0

pub write_value-requires-clause-shallow : goal.write_value-requires-clause-shallow
write_value-requires-clause-shallow g c = (refused_reads_back _ 52 (codes "NoVersion") c.in_ok-answer-in-Json.ensures).1

pub returns-in_err-answer-in-Json-clause-err : goal.returns-in_err-answer-in-Json-clause-err
returns-in_err-answer-in-Json-clause-err g c = on_err _ (AppendsPrefix-none _ _)

pub returns-in_ok-answer-in-Json-clause-err : goal.returns-in_ok-answer-in-Json-clause-err
returns-in_ok-answer-in-Json-clause-err g c =
    part_of _ _ _ _ _ (ap (λ form. no_version_told form) c.in-Json.is ∙ ap (answer_text c.in-Json.line) (sym c.in_ok-answer-in-Json.ensures)) c.write_value.ensures.err
