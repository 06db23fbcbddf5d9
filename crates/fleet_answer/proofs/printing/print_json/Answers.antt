use Rattle.std.proofs.Common.{◌∙◌}
use Rattle.std.proofs.lemmas.Result.{err_from_is_err_and}
use Rattle.text_io.proofs.Writing.{wrote_all, wrote_none, wrote_part}
use Rattle.fleet_answer.proofs.printing.print_json.Goals as goal

pub returns-in_err-text : goal.returns-in_err-text
returns-in_err-text g c =
    let p = err_from_is_err_and c.from_residual.result c.from_residual.ensures.1 in
    wrote_none g.S.Sink.held g.S.Sink.failures _ c.from_residual.result p.0 _ p.1 p.2

pub returns-in_err-write : goal.returns-in_err-write
returns-in_err-write g c =
    let p = err_from_is_err_and c.from_residual-in_err-write.result c.from_residual-in_err-write.ensures.1 in
    wrote_part g.S.Sink.held g.S.Sink.failures _ _ c.from_residual-in_err-write.result p.0 _ _ p.1 p.2 c.in_err-write.ensures.err c.in_err-write.ensures.failures
    (c.as_bytes.ensures.value ∙ c.in_ok-text.ensures)

pub returns : goal.returns
returns g c = wrote_all g.S.Sink.held g.S.Sink.failures _ _ _ _ _ c.in_ok-write.ensures.ok c.in_ok-write.ensures.failures (c.as_bytes.ensures.value ∙ c.in_ok-text.ensures)
