use Rattle.run_comparison.proofs.Counterparts.{live_where_found}
use Rattle.recording_reports.specs.Pairs.{pair_text}
use Rattle.recording_reports.proofs.Pairing.{compared_to, pair_to}
use Rattle.recording_reports.proofs.pair.compare_to.Goals as goal

pub write_pair-end-requires-clause-bad_live : goal.write_pair-end-requires-clause-bad_live
write_pair-end-requires-clause-bad_live g c κs within = live_where_found c.in-Ok-load.version.graph.places c.args.name.now c.in-Ok-id_of.place c.in-Ok-id_of.ensures

pub returns-clause-written : goal.returns-clause-written
returns-clause-written g c =
    let good = c.args.good.now in
    compared_to c.args.form c.args.name.now c.args.bad.now (pair_text c.args.form good c.args.at_good c.in-Ok-load.version c.in-Ok-id_of.place) good c.args.at_good _ _ c.write_pair-end.result
    (pair_to c.args.form c.args.name.now c.args.bad.now good c.in-Ok-load.version c.args.at_good c.in-Ok-id_of.place c.in-Ok.graph c.in-Ok.ensures c.in-Ok-load.ensures c.in-Ok-id_of.ensures)
    c.write_pair-end.ensures.written
