use Rattle.std.proofs.Common.{ap}
use Rattle.std.proofs.lemmas.Result.{err_from_is_err_and}
use Rattle.incident_page.specs.Scripts.{answers_data}
use Rattle.incident_page.proofs.InTurn.{ends_by_two, stops_in_one}
use Rattle.incident_page.proofs.script.write_steps.Goals as goal

pub returns-in_err-write_answers : goal.returns-in_err-write_answers
returns-in_err-write_answers g c =
    let p = err_from_is_err_and c.from_residual.result c.from_residual.ensures.1 in
    stops_in_one g.S.Sink.held g.S.Sink.failures _ _ c.from_residual.result p.0 _ _ _ _ p.1 p.2 (ap answers_data c.answers_of.ensures) c.in_err-write_answers.ensures

pub returns : goal.returns
returns g c =
    ends_by_two g.S.Sink.held g.S.Sink.failures _ _ _ _ _ _ _ _ _ (ap answers_data c.answers_of.ensures) c.as_bytes.ensures.value c.in_ok-write_answers.ensures c.write_escaped.ensures.written
