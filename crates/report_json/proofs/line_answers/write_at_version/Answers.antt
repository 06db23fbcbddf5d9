use Rattle.text_io.proofs.Written.{AppendsPrefix-none}
use Rattle.report_json.proofs.Listing.{on_err}
use Rattle.report_json.proofs.line_answers.write_at_version.Goals as goal

pub returns-in_err-line-clause-err : goal.returns-in_err-line-clause-err
returns-in_err-line-clause-err g c = on_err _ (AppendsPrefix-none _ _)
