-- The stage that an object is, or the first fault in it.
use Rattle.std.specs.Prelude.{ℕ, [], if◌then◌else◌, Option, Some, None, option_map, is_some, Result, Ok, Err}
use Rattle.serde_json.specs.Data.{Data}
use Rattle.serde_json.specs.Find.{as_str}
use Rattle.act_expr.specs.Expression.{Expression}
use Rattle.stage_graph.specs.declared.op.Op.{Op}
use Rattle.stage_graph.specs.declared.op.Op.TheVariants as op
use Rattle.stage_graph.specs.declared.stage.Spec.{Spec}
use Rattle.recording.specs.ExpressionOf.{exception_in, expression_of}
use Rattle.recording.specs.Forms.{count_in, value_in, op_name_in, names_in, or_null, outcome_in, ends_in}
use Rattle.recording.specs.Members.{then_on, member_of, required, optional}
use Rattle.recording.specs.declared.fault.Fault.{Fault}
use Rattle.recording.specs.declared.fault.Fault.TheVariants.{Shape}
use Rattle.recording.specs.declared.forms.OpName.{OpName}
use Rattle.recording.specs.declared.forms.OpName.TheVariants.{Plain, Completed, Failed}
use Rattle.recording.specs.declared.member.Member.TheVariants as member
use Rattle.recording.specs.declared.stage.FormNumber.{FormNumber}
use Rattle.recording.specs.declared.stage.FormNumber.TheVariants.{One, Two}
use Rattle.recording.specs.declared.stage.Times.{Times}

-- `value` and `throws` are read for the two operations that have them
abbrev pub op_with : Data → OpName → Result Op Fault
op_with d (Plain op) = Ok op
op_with d Completed = then_on (required member.Value value_in d) (λ value. Ok (op.Completed value))
op_with d Failed = then_on (required member.Throws exception_in d) (λ name. Ok (op.Failed name))

abbrev pub op_of : Data → Result Op Fault
op_of d = then_on (required member.Op op_name_in d) (op_with d)

abbrev pub action_in : Data → Option (Option Expression)
action_in d = option_map Some (expression_of d)

-- in form 1 a stage runs for all of `takes`, and is never queued
abbrev pub taken : ℕ → Times
taken takes = record { queued = 0; runs = takes }

-- in form 2 it is queued for `queued` ticks and then runs for `runs`
abbrev pub queued_and_runs : Data → Result Times Fault
queued_and_runs d =
    then_on (optional member.Queued 0 count_in d) (λ queued.
    then_on (optional member.Runs 0 count_in d) (λ runs.
    Ok (record { queued = queued; runs = runs })))

abbrev pub times_of : FormNumber → Data → Result Times Fault
times_of One d = then_on (optional member.Takes 0 count_in d) (λ takes. Ok (taken takes))
times_of Two d = if is_some (member_of member.Takes d) then Err (Shape member.Takes) else queued_and_runs d

-- the members of a stage object, in the order in which they are checked
unfoldable pub spec_of : FormNumber → Data → Result Spec Fault
spec_of form d =
    then_on (required member.Name as_str d) (λ name.
    then_on (op_of d) (λ op.
    then_on (optional member.Sources [] names_in d) (λ sources.
    then_on (optional member.Inner [] names_in d) (λ inner.
    then_on (optional member.Created 0 count_in d) (λ created.
    then_on (times_of form d) (λ times.
    then_on (optional member.Action None action_in d) (λ action.
    then_on (optional member.PinResult None (or_null outcome_in) d) (λ pin_result.
    then_on (optional member.PinMoment None (or_null count_in) d) (λ pin_moment.
    then_on (optional member.Ends [] ends_in d) (λ ends.
    Ok (record {
      name = name;
      op = op;
      sources = sources;
      inner = inner;
      created = created;
      queued = times.queued;
      runs = times.runs;
      action = action;
      pin_result = pin_result;
      pin_moment = pin_moment;
      ends = ends;
    })))))))))))
