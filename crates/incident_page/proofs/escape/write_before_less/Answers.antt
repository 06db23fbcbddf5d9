use Rattle.std.proofs.Common.{refl}
use Rattle.std.proofs.lemmas.Result.{err_from_is_err_and}
use Rattle.text_io.proofs.Writing.{both_pieces, wrote_first_part, wrote_part}
use Rattle.incident_page.proofs.escape.write_before_less.Goals as goal

pub returns-in_err-write : goal.returns-in_err-write
returns-in_err-write g c =
    let p = err_from_is_err_and c.from_residual.result c.from_residual.ensures.1 in
    wrote_first_part g.S.Sink.held g.S.Sink.failures _ _ c.from_residual.result p.0 _ _ _ p.1 p.2 c.in_err-write.ensures.err c.in_err-write.ensures.failures refl

pub returns-in_err-write-2 : goal.returns-in_err-write-2
returns-in_err-write-2 g c =
    let p = err_from_is_err_and c.from_residual-in_err-write-2.result c.from_residual-in_err-write-2.ensures.1 in
    both_pieces g.S.Sink.held g.S.Sink.failures _ _ _ c.from_residual-in_err-write-2.result _ _ _ c.in_ok-write.ensures.ok c.in_ok-write.ensures.failures refl
    (wrote_part g.S.Sink.held g.S.Sink.failures _ _ c.from_residual-in_err-write-2.result p.0 _ _ p.1 p.2 c.in_err-write-2.ensures.err c.in_err-write-2.ensures.failures c.as_bytes.ensures.value)
