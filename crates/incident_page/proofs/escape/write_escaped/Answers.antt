use Rattle.std.proofs.Common.{◌++◌, refl}
use Rattle.std.proofs.lemmas.Result.{err_from_is_err_and}
use Rattle.text_io.proofs.Writing.{last_piece, stops_in_next, writes_next, wrote_all, wrote_part}
use Rattle.incident_page.specs.Escaped.{less_escape}
use Rattle.incident_page.proofs.Escaping.{escaped_around, escaped_has_none, escaped_without}
use Rattle.incident_page.proofs.escape.write_escaped.Goals as goal

pub loop-before-preserved : goal.loop-before-preserved
loop-before-preserved g c =
    let parts = c.in-Some.ensures.some in
    writes_next g.S.Sink.held g.S.Sink.failures _ _ _ _ _ _ (c.in-Some.before.now ++ less_escape) _ c.loop-before.invariant (escaped_around _ _ _ parts.0 parts.1) c.in_ok-write_before_less.ensures

pub returns-in_err-write_before_less-clause-written : goal.returns-in_err-write_before_less-clause-written
returns-in_err-write_before_less-clause-written g c =
    let p = err_from_is_err_and c.from_residual.result c.from_residual.ensures.1 in
    let parts = c.in-Some.ensures.some in
    stops_in_next g.S.Sink.held g.S.Sink.failures _ _ _ c.from_residual.result p.0 _ _ _ (c.in-Some.before.now ++ less_escape) _ p.1 p.2 c.loop-before.invariant (escaped_around _ _ _ parts.0 parts.1)
    c.in_err-write_before_less.ensures

pub returns-in_err-write_before_less-clause-contained : goal.returns-in_err-write_before_less-clause-contained
returns-in_err-write_before_less-clause-contained g c = escaped_has_none _

pub returns-in_err-write-clause-written : goal.returns-in_err-write-clause-written
returns-in_err-write-clause-written g c =
    let p = err_from_is_err_and c.from_residual-in_err-write.result c.from_residual-in_err-write.ensures.1 in
    last_piece g.S.Sink.held g.S.Sink.failures _ _ _ c.from_residual-in_err-write.result _ _ _ c.loop-before.invariant (escaped_without _ (c.in_default.ensures.none refl))
    (wrote_part g.S.Sink.held g.S.Sink.failures _ _ c.from_residual-in_err-write.result p.0 _ _ p.1 p.2 c.in_err-write.ensures.err c.in_err-write.ensures.failures refl)

pub returns-in_err-write-clause-contained : goal.returns-in_err-write-clause-contained
returns-in_err-write-clause-contained g c = escaped_has_none _

pub returns-clause-written : goal.returns-clause-written
returns-clause-written g c =
    last_piece g.S.Sink.held g.S.Sink.failures _ _ _ _ _ _ _ c.loop-before.invariant (escaped_without _ (c.in_default.ensures.none refl)) (wrote_all g.S.Sink.held g.S.Sink.failures _ _ _ _ _ c.in_ok-write.ensures.ok c.in_ok-write.ensures.failures refl)

pub returns-clause-contained : goal.returns-clause-contained
returns-clause-contained g c = escaped_has_none _
