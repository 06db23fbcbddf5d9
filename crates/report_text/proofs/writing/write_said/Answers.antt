use Rattle.std.proofs.lemmas.Result.{err_from_is_err_and}
use Rattle.text_io.proofs.Writing.{both_pieces, wrote_first_part, wrote_none}
use Rattle.report_text.proofs.Lines.{head_in_the_line, of_what_is_said}
use Rattle.report_text.proofs.writing.write_said.Goals as goal

pub returns-in_err-push_head : goal.returns-in_err-push_head
returns-in_err-push_head g c =
    let p = err_from_is_err_and c.from_residual.result c.from_residual.ensures.1 in
    wrote_none g.S.Sink.held g.S.Sink.failures _ c.from_residual.result p.0 _ p.1 p.2

pub returns-in_err-write : goal.returns-in_err-write
returns-in_err-write g c =
    let p = err_from_is_err_and c.from_residual-in_err-write.result c.from_residual-in_err-write.ensures.1 in
    of_what_is_said g.S.Sink.held g.S.Sink.failures _ _ _ _ _ _ c.said.view_is c.rows-rows.ensures
    (wrote_first_part g.S.Sink.held g.S.Sink.failures _ _ c.from_residual-in_err-write.result p.0 _ _ _ p.1 p.2 c.in_err-write.ensures.err c.in_err-write.ensures.failures
    (head_in_the_line _ _ _ _ _ _ c.as_bytes.ensures.value c.in_ok-push_head.ensures c.new-line.ensures.bytes c.count.ensures))

pub returns : goal.returns
returns g c =
    of_what_is_said g.S.Sink.held g.S.Sink.failures _ _ _ _ _ _ c.said.view_is c.rows-rows.ensures
    (both_pieces g.S.Sink.held g.S.Sink.failures _ _ _ _ _ _ _ c.in_ok-write.ensures.ok c.in_ok-write.ensures.failures
    (head_in_the_line _ _ _ _ _ _ c.as_bytes.ensures.value c.in_ok-push_head.ensures c.new-line.ensures.bytes c.count.ensures) c.write_rows.ensures)
