use Rattle.recording_back.proofs.Loading.{graph_read_back}
use Rattle.recording_back.proofs.law.each_graph_is_read_back.Goals as goal

pub returns : goal.returns
returns c = graph_read_back
