use Rattle.stage_graph.proofs.Following.{found_alone}
use Rattle.stage_ops.specs.States.{pending}
use Rattle.stage_ops.specs.Evaluation.{on_states}
use Rattle.scratch_eval.proofs.Evaluating.{asks_feeds}
use Rattle.scratch_eval.proofs.laws.one_answer.Goals as goal

pub returns : goal.returns
returns c = λ step decide places states ranked meets place. found_alone pending (on_states step) places (asks_feeds step decide) ranked states meets place
