use Rattle.std.proofs.Common.{sym}
use Rattle.stage_graph.specs.Plain.{stage_at}
use Rattle.stage_graph.specs.Walk.{rank}
use Rattle.propagate.proofs.Outcomes.{on_ok}
use Rattle.propagate.proofs.Reading.{live_from_ok}
use Rattle.propagate.proofs.readers.mark_new.Goals as goal

pub returns-in-Ok-clause-marks : goal.returns-in-Ok-clause-marks
returns-in-Ok-clause-marks g c =
    let stages = c.args.order.now.graph.places in
    let place = c.args.place in
    on_ok c.add.result _ _ (λ kept are. kept (rank stages) (live_from_ok (stage_at stages place) (rank stages place) c.in-Ok.rank (sym c.in-Ok.ensures.rank)).1 are) c.add.ensures.marks
