use Rattle.recording_back.proofs.Loading.{plain_read_back}
use Rattle.recording_back.proofs.graphs.graph_is_read_back.Goals as goal

pub returns : goal.returns
returns g c = plain_read_back c.args.graph.now c.len-places.ensures.sound c.stages_are_typed.ensures
