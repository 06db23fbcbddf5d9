use Rattle.std.proofs.lemmas.Result.{err_from_is_err_and}
use Rattle.incident_page.proofs.InTurn.{ended, in_first, in_second}
use Rattle.incident_page.proofs.page.write_in_turn.Goals as goal

pub returns-in_err-write_fixed : goal.returns-in_err-write_fixed
returns-in_err-write_fixed g c =
    let p = err_from_is_err_and c.from_residual.result c.from_residual.ensures.1 in
    ended g.S.Sink.held g.S.Sink.failures _ _ c.from_residual.result p.0 _ _ p.1 p.2 (in_first g.S.Sink.held g.S.Sink.failures _ _ _ _ _ (in_first g.S.Sink.held g.S.Sink.failures _ _ _ _ _ c.in_err-write_fixed.ensures))

pub returns-in_err-write_data : goal.returns-in_err-write_data
returns-in_err-write_data g c =
    let p = err_from_is_err_and c.from_residual-in_err-write_data.result c.from_residual-in_err-write_data.ensures.1 in
    ended g.S.Sink.held g.S.Sink.failures _ _ c.from_residual-in_err-write_data.result p.0 _ _ p.1 p.2
    (in_first g.S.Sink.held g.S.Sink.failures _ _ _ _ _ (in_second g.S.Sink.held g.S.Sink.failures _ _ _ _ _ _ _ c.in_ok-write_fixed.ensures c.in_err-write_data.ensures))

pub returns : goal.returns
returns g c =
    in_second g.S.Sink.held g.S.Sink.failures _ _ _ _ _ _ _ (in_second g.S.Sink.held g.S.Sink.failures _ _ _ _ _ _ _ c.in_ok-write_fixed.ensures c.in_ok-write_data.ensures) c.write_fixed-2.ensures
