use Rattle.std.proofs.Common.{◌∙◌, ap, codes}
use Rattle.std.proofs.lemmas.Result.{err_from_is_err_and}
use Rattle.text_io.proofs.Writing.{wrote_none}
use Rattle.incident_page.specs.Lines.{separated}
use Rattle.incident_page.proofs.InTurn.{behind_one}
use Rattle.incident_page.proofs.members.write_explanation.Goals as goal

pub returns-in_err-lines : goal.returns-in_err-lines
returns-in_err-lines g c =
    let p = err_from_is_err_and c.from_residual.result c.from_residual.ensures.1 in
    wrote_none g.S.Sink.held g.S.Sink.failures _ c.from_residual.result p.0 _ p.1 p.2

pub returns-in_err-items : goal.returns-in_err-items
returns-in_err-items g c =
    let p = err_from_is_err_and c.from_residual-in_err-items.result c.from_residual-in_err-items.ensures.1 in
    wrote_none g.S.Sink.held g.S.Sink.failures _ c.from_residual-in_err-items.result p.0 _ p.1 p.2

pub returns : goal.returns
returns g c =
    behind_one g.S.Sink.held g.S.Sink.failures _ _ _ (codes ",\"explain\":[") _ _ (c.as_slice-2.ensures.value ∙ c.in_ok-items.ensures ∙ ap separated (c.as_slice.ensures.value ∙ c.in_ok-lines.ensures)) c.write_behind.ensures
