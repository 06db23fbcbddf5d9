use Rattle.scratch_eval.proofs.Evaluating.{moments_follow_ranks}
use Rattle.scratch_eval.proofs.laws.moments_follow_ranks.Goals as goal

pub returns : goal.returns
returns c = λ step decide soon. moments_follow_ranks step decide soon
