use Rattle.recording_back.proofs.Accepted.{graph_accepted}
use Rattle.recording_back.proofs.law.each_graph_is_accepted.Goals as goal

pub returns : goal.returns
returns c = graph_accepted
