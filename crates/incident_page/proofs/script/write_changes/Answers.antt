use Rattle.std.proofs.lemmas.Result.{err_from_is_err_and}
use Rattle.text_io.proofs.Writing.{all_written, stops_in_next, writes_next}
use Rattle.incident_page.specs.Escaped.{escaped}
use Rattle.incident_page.specs.Scripts.{change_data}
use Rattle.incident_page.proofs.Changes.{changes_first, changes_none}
use Rattle.incident_page.proofs.script.write_changes.Goals as goal

pub loop-version-preserved : goal.loop-version-preserved
loop-version-preserved g c =
    writes_next g.S.Sink.held g.S.Sink.failures _ _ _ _ _ _ (escaped (change_data c.in-Some.version.now)) _ c.loop-version.invariant (changes_first _ _ _ c.in-Some.ensures.cases.0) c.in_ok-write_change.ensures

pub returns-in_err-write_change : goal.returns-in_err-write_change
returns-in_err-write_change g c =
    let p = err_from_is_err_and c.from_residual.result c.from_residual.ensures.1 in
    stops_in_next g.S.Sink.held g.S.Sink.failures _ _ _ c.from_residual.result p.0 _ _ _ (escaped (change_data c.in-Some.version.now)) _ p.1 p.2 c.loop-version.invariant
    (changes_first _ _ _ c.in-Some.ensures.cases.0) c.in_err-write_change.ensures

pub returns : goal.returns
returns g c = all_written g.S.Sink.held g.S.Sink.failures _ _ _ _ _ c.loop-version.invariant (changes_none _ c.in_default.ensures.cases)
