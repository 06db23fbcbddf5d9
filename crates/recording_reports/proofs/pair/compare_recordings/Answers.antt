use Rattle.run_comparison.proofs.Counterparts.{live_where_found}
use Rattle.recording_reports.proofs.Pairing.{compared}
use Rattle.recording_reports.proofs.pair.compare_recordings.Goals as goal

pub compare_to-end-requires-clause-good_live : goal.compare_to-end-requires-clause-good_live
compare_to-end-requires-clause-good_live g c κs within = live_where_found c.in-Ok-load.version.graph.places c.args.name.now c.in-Ok-id_of.place c.in-Ok-id_of.ensures

pub returns-clause-written : goal.returns-clause-written
returns-clause-written g c =
    compared c.args.form c.args.name.now c.args.good.now c.args.bad.now c.in-Ok-load.version c.in-Ok-id_of.place c.in-Ok.graph _ _ c.compare_to-end.result c.in-Ok.ensures c.in-Ok-load.ensures
    c.in-Ok-id_of.ensures c.compare_to-end.ensures.written
