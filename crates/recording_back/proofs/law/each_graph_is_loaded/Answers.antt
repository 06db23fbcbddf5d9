use Rattle.recording_back.proofs.Loading.{graph_loaded}
use Rattle.recording_back.proofs.law.each_graph_is_loaded.Goals as goal

pub returns : goal.returns
returns c = graph_loaded
