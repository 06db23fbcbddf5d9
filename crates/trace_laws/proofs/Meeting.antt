-- What is evaluated meets each place's equation.
use Rattle.act_expr.specs.declared.outcome.Mode.TheVariants.{Computed}
use Rattle.scratch_eval.proofs.Evaluating.{asks_feeds}
use Rattle.stage_graph.proofs.Following.{found_meets_each}
use Rattle.stage_ops.specs.Evaluation.{on_states}
use Rattle.stage_ops.specs.Java.{java_step}
use Rattle.stage_ops.specs.JavaLaws.{java_reads_decide}
use Rattle.stage_ops.specs.States.{pending}
use Rattle.trace_laws.specs.Faithful.{EachTraceIsFaithful}
use Rattle.trace_laws.proofs.Completing.{EachIsMet}
use Rattle.trace_laws.proofs.Holding.{faithful_where_met}

each_is_met : EachIsMet
each_is_met places ranked place = found_meets_each pending (on_states (java_step Computed)) places (asks_feeds (java_step Computed) (java_reads_decide Computed)) ranked place

pub each_is_faithful : EachTraceIsFaithful
each_is_faithful = faithful_where_met each_is_met
