use Rattle.std.proofs.Common.{refl}
use Rattle.std.proofs.lemmas.Result.{err_from_is_err_and}
use Rattle.incident_page.proofs.InTurn.{ends_by_third, stops_in_first, stops_in_second}
use Rattle.incident_page.proofs.page.write_first.Goals as goal

pub returns-in_err-write_heading : goal.returns-in_err-write_heading
returns-in_err-write_heading g c =
    let p = err_from_is_err_and c.from_residual.result c.from_residual.ensures.1 in
    stops_in_first g.S.Sink.held g.S.Sink.failures _ _ c.from_residual.result p.0 _ _ _ _ _ p.1 p.2 refl c.in_err-write_heading.ensures

pub returns-in_err-write_read : goal.returns-in_err-write_read
returns-in_err-write_read g c =
    let p = err_from_is_err_and c.from_residual-in_err-write_read.result c.from_residual-in_err-write_read.ensures.1 in
    stops_in_second g.S.Sink.held g.S.Sink.failures _ _ _ _ c.from_residual-in_err-write_read.result p.0 _ _ _ _ _ _ p.1 p.2 refl refl c.in_ok-write_heading.ensures c.in_err-write_read.ensures

pub returns : goal.returns
returns g c =
    ends_by_third g.S.Sink.held g.S.Sink.failures _ _ _ _ _ _ _ _ _ _ _ _ _ refl refl refl c.in_ok-write_heading.ensures c.in_ok-write_read.ensures c.write_wholes.ensures
