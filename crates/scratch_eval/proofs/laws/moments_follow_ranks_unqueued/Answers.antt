use Rattle.scratch_eval.proofs.Evaluating.{moments_follow_ranks_unqueued}
use Rattle.scratch_eval.proofs.laws.moments_follow_ranks_unqueued.Goals as goal

pub returns : goal.returns
returns c = λ step decide prompt. moments_follow_ranks_unqueued step decide prompt
