-- How the stages of a trace complete.
use Rattle.std.specs.Prelude.{◌≡◌, ℕ, pos, List, [], map, option_to_list, Option, Some, None, option_map}
use Rattle.act_expr.specs.Expression.{Expression, literal, conditional, failed, throw}
use Rattle.act_expr.specs.declared.outcome.Outcome.{Outcome}
use Rattle.act_expr.specs.declared.outcome.Outcome.TheVariants.{Value as Normal, Wrapped}
use Rattle.act_expr.specs.declared.outcome.Value.TheVariants as value
use Rattle.stage_graph.specs.declared.op.Op.{Op}
use Rattle.stage_graph.specs.declared.op.Op.TheVariants as op
use Rattle.stage_graph.specs.declared.stage.Spec.{Spec}
use Rattle.stage_ops.specs.declared.state.Done.{Done}
use Rattle.trace_stages.specs.Naming.{PlainStage}
use Rattle.trace_stages.specs.declared.stage.Action.{Action}
use Rattle.trace_stages.specs.declared.stage.Action.TheVariants as acts
use Rattle.trace_stages.specs.declared.stage.Exception.{Exception}
use Rattle.trace_stages.specs.declared.stage.Op.{Op as TraceOp}
use Rattle.trace_stages.specs.declared.stage.Op.TheVariants.{Async, Manual, ThenRun, Handle, WhenComplete, ExceptionallyCompose, AllOf, AnyOf}
use Rattle.trace_stages.specs.declared.stage.StageName.{StageName}

abbrev pub op_of : TraceOp → Op
op_of Async = op.Async
op_of Manual = op.Manual
op_of ThenRun = op.ThenRun
op_of Handle = op.Handle
op_of WhenComplete = op.WhenComplete
op_of ExceptionallyCompose = op.ExceptionallyCompose
op_of AllOf = op.AllOf
op_of AnyOf = op.AnyOf

-- null, an exception, an exception if the source failed, or the number of the first inner stage
abbrev pub action_of : (Exception → List ℕ) → Action → Expression
action_of exceptions acts.Null = literal value.Null
action_of exceptions acts.PicksFirst = literal (value.Num (pos 0))
action_of exceptions (acts.Throws exception) = throw (exceptions exception)
action_of exceptions (acts.ThrowsIfFailed exception) = conditional failed (throw (exceptions exception)) (literal value.Null)

-- a stage of a trace as a stage of a recording, where stages and exceptions have these names
abbrev pub spec_of : (StageName → List ℕ) → (Exception → List ℕ) → PlainStage → Spec
spec_of text exceptions stage = record {
  name = text stage.name;
  op = op_of stage.op;
  sources = map text stage.sources;
  inner = map text (option_to_list stage.inner);
  created = stage.created;
  queued = stage.queued;
  runs = stage.runs;
  action = option_map (action_of exceptions) stage.action;
  pin_result = None;
  pin_moment = None;
  ends = [];
}

-- null, or the exception in a wrapper
abbrev pub outcome_for : (Exception → List ℕ) → Option Exception → Outcome
outcome_for exceptions None = Normal value.Null
outcome_for exceptions (Some exception) = Wrapped (exceptions exception)

-- it completed at the tick, and failed so, and its action started then
abbrev pub CompletesAt : (Exception → List ℕ) → Option ℕ → ℕ → Option Exception → Option Done → Type 0
CompletesAt exceptions start tick failure completion =
    («from» : Option ℕ) × (completion ≡ Some (record { outcome = outcome_for exceptions failure; moment = tick; from = «from»; start = start }))
