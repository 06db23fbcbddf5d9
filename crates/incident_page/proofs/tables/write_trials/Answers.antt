use Rattle.std.proofs.Common.{refl}
use Rattle.std.proofs.lemmas.Result.{err_from_is_err_and}
use Rattle.incident_page.proofs.InTurn.{ends_by_third, stops_in_first, stops_in_second}
use Rattle.incident_page.proofs.tables.write_trials.Goals as goal

pub returns-in_err-write_stage : goal.returns-in_err-write_stage
returns-in_err-write_stage g c =
    let p = err_from_is_err_and c.from_residual.result c.from_residual.ensures.1 in
    stops_in_first g.S.Sink.held g.S.Sink.failures _ _ c.from_residual.result p.0 _ _ _ _ _ p.1 p.2 refl c.in_err-write_stage.ensures

pub returns-in_err-write_stage-2 : goal.returns-in_err-write_stage-2
returns-in_err-write_stage-2 g c =
    let p = err_from_is_err_and c.from_residual-in_err-write_stage-2.result c.from_residual-in_err-write_stage-2.ensures.1 in
    stops_in_second g.S.Sink.held g.S.Sink.failures _ _ _ _ c.from_residual-in_err-write_stage-2.result p.0 _ _ _ _ _ _ p.1 p.2 refl refl c.in_ok-write_stage.ensures c.in_err-write_stage-2.ensures

pub returns : goal.returns
returns g c =
    ends_by_third g.S.Sink.held g.S.Sink.failures _ _ _ _ _ _ _ _ _ _ _ _ _ refl refl refl c.in_ok-write_stage.ensures c.in_ok-write_stage-2.ensures c.write_stage-3.ensures
