use Rattle.std.proofs.Common.{length}
use Rattle.tried_changes.specs.Last.{final_moment}
use Rattle.tried_changes.proofs.Latest.{last_told, none_told, past_places}
use Rattle.tried_changes.proofs.last.last_stage.Goals as goal

pub returns-clause-last : goal.returns-clause-last
returns-clause-last g c =
    let graph = c.args.version.now.graph in
    last_told (final_moment graph) (length graph.places) c.latest_of_all.result c.single_of.result (past_places graph) c.latest_of_all.ensures c.single_of.ensures

pub returns-clause-none : goal.returns-clause-none
returns-clause-none g c =
    let graph = c.args.version.now.graph in
    none_told (final_moment graph) (length graph.places) c.latest_of_all.result c.single_of.result (past_places graph) c.latest_of_all.ensures c.single_of.ensures
