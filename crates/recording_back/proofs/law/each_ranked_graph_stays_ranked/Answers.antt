use Rattle.recording_back.proofs.StaysRanked.{stays_ranked}
use Rattle.recording_back.proofs.law.each_ranked_graph_stays_ranked.Goals as goal

pub returns : goal.returns
returns c = stays_ranked
