use Rattle.std.proofs.Common.{refl}
use Rattle.std.proofs.lemmas.Result.{err_from_is_err_and}
use Rattle.incident_page.proofs.InTurn.{ends_by_two, stops_in_one}
use Rattle.incident_page.proofs.script.write_named_script.Goals as goal

pub returns-in_err-write_text : goal.returns-in_err-write_text
returns-in_err-write_text g c =
    let p = err_from_is_err_and c.from_residual.result c.from_residual.ensures.1 in
    stops_in_one g.S.Sink.held g.S.Sink.failures _ _ c.from_residual.result p.0 _ _ _ _ p.1 p.2 refl c.in_err-write_text.ensures

pub returns : goal.returns
returns g c =
    ends_by_two g.S.Sink.held g.S.Sink.failures _ _ _ _ _ _ _ _ _ refl refl c.in_ok-write_text.ensures c.write_lossy.ensures
