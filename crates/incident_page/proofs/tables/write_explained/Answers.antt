use Rattle.std.proofs.Common.{refl, ap}
use Rattle.std.proofs.lemmas.Result.{err_from_is_err_and}
use Rattle.incident_page.specs.Pages.{name_data}
use Rattle.incident_page.proofs.InTurn.{ends_by_two, stops_in_one}
use Rattle.incident_page.proofs.tables.write_explained.Goals as goal

pub returns-in_err-write_name : goal.returns-in_err-write_name
returns-in_err-write_name g c =
    let p = err_from_is_err_and c.from_residual.result c.from_residual.ensures.1 in
    stops_in_one g.S.Sink.held g.S.Sink.failures _ _ c.from_residual.result p.0 _ _ _ _ p.1 p.2 (ap (name_data c.args.place) c.graph.ensures.graph) c.in_err-write_name.ensures

pub returns : goal.returns
returns g c =
    ends_by_two g.S.Sink.held g.S.Sink.failures _ _ _ _ _ _ _ _ _ (ap (name_data c.args.place) c.graph.ensures.graph) refl c.in_ok-write_name.ensures c.write_explanation.ensures
