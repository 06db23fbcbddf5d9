use Rattle.std.proofs.Common.{ap}
use Rattle.std.specs.List.{flat_map}
use Rattle.std.proofs.lemmas.Result.{err_from_is_err_and}
use Rattle.text_io.proofs.Writing.{all_written, none_yet, stops_in_next, writes_next}
use Rattle.report_text.specs.Texts.{row_text}
use Rattle.report_text.proofs.writing.write_rows.Goals as goal

pub loop-row-init : goal.loop-row-init
loop-row-init g c = none_yet g.S.Sink.held g.S.Sink.failures _ _

pub loop-row-preserved : goal.loop-row-preserved
loop-row-preserved g c =
    writes_next g.S.Sink.held g.S.Sink.failures _ _ _ _ _ _ (row_text c.in-Some.row) _ c.loop-row.invariant (ap (flat_map row_text) c.in-Some.ensures) c.in_ok-write_row.ensures

pub returns-in_err-write_row : goal.returns-in_err-write_row
returns-in_err-write_row g c =
    let p = err_from_is_err_and c.from_residual.result c.from_residual.ensures.1 in
    stops_in_next g.S.Sink.held g.S.Sink.failures _ _ _ c.from_residual.result p.0 _ _ _ (row_text c.in-Some.row) _ p.1 p.2 c.loop-row.invariant (ap (flat_map row_text) c.in-Some.ensures)
    c.in_err-write_row.ensures

pub returns : goal.returns
returns g c = all_written g.S.Sink.held g.S.Sink.failures _ _ _ _ _ c.loop-row.invariant (ap (flat_map row_text) c.in_default.ensures.0)
