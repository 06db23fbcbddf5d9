use Rattle.scratch_eval.proofs.Querying.{chains_follow}
use Rattle.scratch_eval.proofs.laws.chains_follow_blame.Goals as goal

pub returns : goal.returns
returns c = λ step decide blames graph sound ranked place. chains_follow step decide blames graph sound ranked place
