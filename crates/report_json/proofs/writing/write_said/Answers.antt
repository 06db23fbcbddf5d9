use Rattle.std.proofs.Common.{◌∙◌}
use Rattle.std.proofs.lemmas.Result.{err_from_is_err_and}
use Rattle.text_io.proofs.Writing.{wrote_all, wrote_none, wrote_part}
use Rattle.report_json.proofs.writing.write_said.Goals as goal

pub returns-in_err-line-clause-written : goal.returns-in_err-line-clause-written
returns-in_err-line-clause-written g c =
    let p = err_from_is_err_and c.from_residual.result c.from_residual.ensures.1 in
    wrote_none g.S.Sink.held g.S.Sink.failures _ c.from_residual.result p.0 _ p.1 p.2

pub returns-in_err-write-clause-written : goal.returns-in_err-write-clause-written
returns-in_err-write-clause-written g c =
    let p = err_from_is_err_and c.from_residual-in_err-write.result c.from_residual-in_err-write.ensures.1 in
    wrote_part g.S.Sink.held g.S.Sink.failures _ _ c.from_residual-in_err-write.result p.0 _ _ p.1 p.2 c.in_err-write.ensures.err c.in_err-write.ensures.failures (c.as_slice.ensures.value ∙ c.in_ok-line.ensures.line)

pub returns-clause-written : goal.returns-clause-written
returns-clause-written g c =
    wrote_all g.S.Sink.held g.S.Sink.failures _ _ _ _ _ c.in_ok-write.ensures.ok c.in_ok-write.ensures.failures (c.as_slice.ensures.value ∙ c.in_ok-line.ensures.line)
