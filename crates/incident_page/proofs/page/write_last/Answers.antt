use Rattle.std.proofs.Common.{refl}
use Rattle.std.proofs.lemmas.Result.{err_from_is_err_and}
use Rattle.incident_page.proofs.InTurn.{ends_by_third, stops_in_first, stops_in_second}
use Rattle.incident_page.proofs.page.write_last.Goals as goal

pub returns-in_err-write_target : goal.returns-in_err-write_target
returns-in_err-write_target g c =
    let p = err_from_is_err_and c.from_residual.result c.from_residual.ensures.1 in
    stops_in_first g.S.Sink.held g.S.Sink.failures _ _ c.from_residual.result p.0 _ _ _ _ _ p.1 p.2 refl c.in_err-write_target.ensures

pub returns-in_err-write_versions : goal.returns-in_err-write_versions
returns-in_err-write_versions g c =
    let p = err_from_is_err_and c.from_residual-in_err-write_versions.result c.from_residual-in_err-write_versions.ensures.1 in
    stops_in_second g.S.Sink.held g.S.Sink.failures _ _ _ _ c.from_residual-in_err-write_versions.result p.0 _ _ _ _ _ _ p.1 p.2 refl refl c.in_ok-write_target.ensures c.in_err-write_versions.ensures

pub returns : goal.returns
returns g c =
    ends_by_third g.S.Sink.held g.S.Sink.failures _ _ _ _ _ _ _ _ _ _ _ _ _ refl refl refl c.in_ok-write_target.ensures c.in_ok-write_versions.ensures c.write_steps.ensures
