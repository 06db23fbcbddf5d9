use Rattle.std.proofs.Common.{ap, sym, ◌∙◌}
use Rattle.std.specs.Option.{option_and_then}
use Rattle.report_form.specs.Told.{report_told}
use Rattle.serve_script.specs.Answers.{or_no_stage}
use Rattle.serve_script.proofs.Answering.{part_of}
use Rattle.serve_script.proofs.asking.write_told.Goals as goal

pub returns-in-None-clause-err : goal.returns-in-None-clause-err
returns-in-None-clause-err g c =
    part_of _ _ _ _ _ (ap (λ what. or_no_stage c.args.form (option_and_then (report_told c.args.form c.args.version.now) what)) (sym c.what_asked.ensures ∙ c.in-None.is)) c.tell_no_stage.ensures.err
