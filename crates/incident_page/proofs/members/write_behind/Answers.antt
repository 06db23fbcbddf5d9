use Rattle.std.proofs.Common.{refl}
use Rattle.std.proofs.lemmas.Result.{err_from_is_err_and}
use Rattle.incident_page.proofs.InTurn.{ends_by_two, stops_in_one}
use Rattle.incident_page.proofs.members.write_behind.Goals as goal

pub returns-in_err-write_escaped : goal.returns-in_err-write_escaped
returns-in_err-write_escaped g c =
    let p = err_from_is_err_and c.from_residual.result c.from_residual.ensures.1 in
    stops_in_one g.S.Sink.held g.S.Sink.failures _ _ c.from_residual.result p.0 _ _ _ _ p.1 p.2 c.as_bytes.ensures.value c.in_err-write_escaped.ensures.written

pub returns : goal.returns
returns g c =
    ends_by_two g.S.Sink.held g.S.Sink.failures _ _ _ _ _ _ _ _ _ c.as_bytes.ensures.value refl c.in_ok-write_escaped.ensures.written c.write_escaped-2.ensures.written
