use Rattle.recording_back.proofs.Accepted.{plain_accepted}
use Rattle.recording_back.proofs.graphs.graph_is_accepted.Goals as goal

pub returns : goal.returns
returns g c = plain_accepted c.args.graph.now c.len-places.ensures.sound c.requires c.stages_are_typed.ensures
