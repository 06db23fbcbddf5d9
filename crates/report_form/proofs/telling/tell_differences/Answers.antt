use Rattle.std.proofs.Common.{ap, sym}
use Rattle.text_io.proofs.Writing.{of_the_text}
use Rattle.report_form.specs.Told.{differences_told}
use Rattle.report_form.specs.declared.form.Form.{Form}
use Rattle.report_form.proofs.telling.tell_differences.Goals as goal

pub returns-in-Json-clause-err : goal.returns-in-Json-clause-err
returns-in-Json-clause-err g c =
    let good = c.args.good.now in
    let bad = c.args.bad.now in
    of_the_text _ _ _ _ _ (ap (λ (form : Form). differences_told form good.version.now.graph good.place bad.version.now.graph bad.place) (sym c.in-Json.is)) c.write_differences.ensures.err

pub returns-in-Text-clause-err : goal.returns-in-Text-clause-err
returns-in-Text-clause-err g c =
    let good = c.args.good.now in
    let bad = c.args.bad.now in
    of_the_text _ _ _ _ _ (ap (λ (form : Form). differences_told form good.version.now.graph good.place bad.version.now.graph bad.place) (sym c.in-Text.is)) c.report_differences.ensures.err
