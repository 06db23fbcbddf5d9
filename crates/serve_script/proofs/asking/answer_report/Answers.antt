use Rattle.std.proofs.Common.{ap, sym, ◌∙◌}
use Rattle.std.specs.Prelude.{slice_get}
use Rattle.std.specs.Option.{option_and_then}
use Rattle.serve_script.specs.Answers.{against_in, report_asked, report_of}
use Rattle.serve_script.proofs.Answering.{part_of}
use Rattle.serve_script.proofs.asking.answer_report.Goals as goal

pub returns-in-Ok-clause-err : goal.returns-in-Ok-clause-err
returns-in-Ok-clause-err g c =
    let versions = c.args.table.now.state.versions in
    part_of _ _ _ _ _
    (ap (λ found. report_of c.args.form found (option_and_then (slice_get versions) (against_in c.args.asked.now)) c.args.asked.now) c.in-Ok.ensures.1
    ∙ ap (λ against. report_asked c.args.form c.in-Ok.version.now against c.args.asked.now) (sym c.against_of-against.ensures))
    c.write_asked.ensures.err

pub returns-in-Err-clause-err : goal.returns-in-Err-clause-err
returns-in-Err-clause-err g c =
    let versions = c.args.table.now.state.versions in
    part_of _ _ _ _ _ (ap (λ found. report_of c.args.form found (option_and_then (slice_get versions) (against_in c.args.asked.now)) c.args.asked.now) c.in-Err.ensures.1) c.tell_no_version.ensures.err
