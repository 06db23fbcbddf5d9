use Rattle.std.proofs.Common.{ap, sym}
use Rattle.text_io.proofs.Writing.{of_the_text}
use Rattle.report_form.specs.Told.{comparison_told}
use Rattle.report_form.specs.declared.form.Form.{Form}
use Rattle.report_form.proofs.telling.tell_comparison.Goals as goal

pub returns-in-Json-clause-err : goal.returns-in-Json-clause-err
returns-in-Json-clause-err g c =
    of_the_text _ _ _ _ _ (ap (λ (form : Form). comparison_told form c.args.comparison c.args.version.now c.args.against.now) (sym c.in-Json.is)) c.write_comparison.ensures.err

pub returns-in-Text-clause-err : goal.returns-in-Text-clause-err
returns-in-Text-clause-err g c =
    of_the_text _ _ _ _ _ (ap (λ (form : Form). comparison_told form c.args.comparison c.args.version.now c.args.against.now) (sym c.in-Text.is)) c.compare.ensures.err
