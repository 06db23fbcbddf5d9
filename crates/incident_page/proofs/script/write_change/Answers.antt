use Rattle.std.proofs.Common.{◌∙◌, codes}
use Rattle.std.proofs.lemmas.Result.{err_from_is_err_and}
use Rattle.text_io.proofs.Writing.{wrote_none}
use Rattle.incident_page.proofs.InTurn.{behind_one}
use Rattle.incident_page.proofs.script.write_change.Goals as goal

pub returns-in_err-line : goal.returns-in_err-line
returns-in_err-line g c =
    let p = err_from_is_err_and c.from_residual.result c.from_residual.ensures.1 in
    wrote_none g.S.Sink.held g.S.Sink.failures _ c.from_residual.result p.0 _ p.1 p.2

pub returns : goal.returns
returns g c =
    behind_one g.S.Sink.held g.S.Sink.failures _ _ _ (codes ",") _ _ (c.as_slice.ensures.value ∙ c.in_ok-line.ensures) c.write_behind.ensures
