-- The forms of the members of a stage object.
use Rattle.std.specs.Prelude.{ℕ, List, [], ◌∷◌, codes, nat_lt, ◌^◌, if◌then◌else◌, Option, Some, None, option_map, option_and_then}
use Rattle.serde_json.specs.Data.{Data, null, number, Items, no_items, item}
use Rattle.serde_json.specs.Find.{get, as_i64, as_u64, as_number, as_str, as_array}
use Rattle.act_expr.specs.declared.outcome.Value.{Value}
use Rattle.act_expr.specs.declared.outcome.Value.TheVariants.{Null, Num as Long}
use Rattle.act_expr.specs.declared.outcome.Outcome.{Outcome}
use Rattle.act_expr.specs.declared.outcome.Outcome.TheVariants as outcome
use Rattle.recording.specs.Tables.{beside}
use Rattle.recording.specs.ExpressionOf.{exception_in}
use Rattle.stage_graph.specs.declared.op.Op.TheVariants as op
use Rattle.stage_graph.specs.declared.end.End.{End}
use Rattle.stage_graph.specs.declared.end.Act.{Act}
use Rattle.stage_graph.specs.declared.end.Act.TheVariants as acts
use Rattle.recording.specs.declared.forms.OpName.{OpName}
use Rattle.recording.specs.declared.forms.OpName.TheVariants.{Plain, Completed, Failed}
use Rattle.recording.specs.declared.forms.ActName.{ActName}
use Rattle.recording.specs.declared.forms.ActName.TheVariants.{Complete, CompleteExceptionally, Cancel, OrTimeout, CompleteOnTimeout}

abbrev pub count_in : Data → Option ℕ
count_in d = option_and_then as_u64 (as_number d)

-- a count below 2 ^ 32
abbrev pub below_32_bits : ℕ → Option ℕ
below_32_bits n = if nat_lt n (2 ^ 32) then Some n else None

abbrev pub count32_in : Data → Option ℕ
count32_in d = option_and_then below_32_bits (count_in d)

-- a number or null
abbrev pub value_in : Data → Option Value
value_in null = Some Null
value_in (number n) = option_map Long (as_i64 n)
value_in others = None

abbrev pub op_names : List (List ℕ × OpName)
op_names =
    (codes "async", Plain op.Async) ∷ (codes "supplyAsync", Plain op.Async)
    ∷ (codes "manual", Plain op.Manual) ∷ (codes "completed", Completed) ∷ (codes "failed", Failed)
    ∷ (codes "thenApply", Plain op.ThenApply) ∷ (codes "thenApplyAsync", Plain op.ThenApply)
    ∷ (codes "thenAccept", Plain op.ThenAccept) ∷ (codes "thenAcceptAsync", Plain op.ThenAccept)
    ∷ (codes "thenRun", Plain op.ThenRun) ∷ (codes "thenRunAsync", Plain op.ThenRun)
    ∷ (codes "copy", Plain op.Copy)
    ∷ (codes "handle", Plain op.Handle) ∷ (codes "handleAsync", Plain op.Handle)
    ∷ (codes "whenComplete", Plain op.WhenComplete) ∷ (codes "whenCompleteAsync", Plain op.WhenComplete)
    ∷ (codes "exceptionally", Plain op.Exceptionally) ∷ (codes "exceptionallyAsync", Plain op.Exceptionally)
    ∷ (codes "thenCompose", Plain op.ThenCompose) ∷ (codes "thenComposeAsync", Plain op.ThenCompose)
    ∷ (codes "exceptionallyCompose", Plain op.ExceptionallyCompose) ∷ (codes "exceptionallyComposeAsync", Plain op.ExceptionallyCompose)
    ∷ (codes "thenCombine", Plain op.ThenCombine) ∷ (codes "thenCombineAsync", Plain op.ThenCombine)
    ∷ (codes "thenAcceptBoth", Plain op.ThenAcceptBoth) ∷ (codes "thenAcceptBothAsync", Plain op.ThenAcceptBoth)
    ∷ (codes "runAfterBoth", Plain op.RunAfterBoth) ∷ (codes "runAfterBothAsync", Plain op.RunAfterBoth)
    ∷ (codes "applyToEither", Plain op.ApplyToEither) ∷ (codes "applyToEitherAsync", Plain op.ApplyToEither)
    ∷ (codes "acceptEither", Plain op.AcceptEither) ∷ (codes "acceptEitherAsync", Plain op.AcceptEither)
    ∷ (codes "runAfterEither", Plain op.RunAfterEither) ∷ (codes "runAfterEitherAsync", Plain op.RunAfterEither)
    ∷ (codes "allOf", Plain op.AllOf) ∷ (codes "anyOf", Plain op.AnyOf) ∷ []

abbrev pub op_name_in : Data → Option OpName
op_name_in d = option_and_then (beside op_names) (as_str d)

-- every item is a text
abbrev pub names_of : Items → Option (List (List ℕ))
names_of no_items = Some []
names_of (item d ds) = option_and_then (λ name. option_map (λ names. name ∷ names) (names_of ds)) (as_str d)

abbrev pub names_in : Data → Option (List (List ℕ))
names_in d = option_and_then names_of (as_array d)

-- exactly one of the three members
abbrev pub one_outcome : Option Data → Option Data → Option Data → Option Outcome
one_outcome (Some v) None None = option_map outcome.Value (value_in v)
one_outcome None (Some x) None = option_map outcome.Bare (exception_in x)
one_outcome None None (Some x) = option_map outcome.Wrapped (exception_in x)
one_outcome v x y = None

abbrev pub outcome_in : Data → Option Outcome
outcome_in d = one_outcome (get (codes "value") d) (get (codes "bare") d) (get (codes "wrapped") d)

-- null stands for none
abbrev pub or_null : {A : Type 0} → (Data → Option A) → Data → Option (Option A)
or_null form null = Some None
or_null form d = option_map Some (form d)

abbrev pub act_names : List (List ℕ × ActName)
act_names =
    (codes "complete", Complete) ∷ (codes "completeExceptionally", CompleteExceptionally) ∷ (codes "cancel", Cancel)
    ∷ (codes "orTimeout", OrTimeout) ∷ (codes "completeOnTimeout", CompleteOnTimeout) ∷ []

abbrev pub member_in : {A : Type 0} → (Data → Option A) → List ℕ → Data → Option A
member_in form name d = option_and_then form (get name d)

-- the further members of an end
abbrev pub act_of : ActName → Data → Option Act
act_of Complete d = option_map acts.Complete (member_in value_in (codes "value") d)
act_of CompleteExceptionally d = option_map acts.CompleteExceptionally (member_in exception_in (codes "throws") d)
act_of Cancel d = Some acts.Cancel
act_of OrTimeout d = option_map acts.OrTimeout (member_in count_in (codes "delay") d)
act_of CompleteOnTimeout d =
    option_and_then (λ delay. option_map (λ v. acts.CompleteOnTimeout delay v) (member_in value_in (codes "value") d)) (member_in count_in (codes "delay") d)

abbrev pub act_name_in : Data → Option ActName
act_name_in d = option_and_then (beside act_names) (as_str d)

abbrev pub act_in : Data → Option Act
act_in d = option_and_then (λ name. act_of name d) (member_in act_name_in (codes "do") d)

abbrev pub end_in : Data → Option End
end_in d = option_and_then (λ at. option_map (λ act. record { at = at; act = act }) (act_in d)) (member_in count_in (codes "at") d)

abbrev pub ends_of : Items → Option (List End)
ends_of no_items = Some []
ends_of (item d ds) = option_and_then (λ end. option_map (λ ends. end ∷ ends) (ends_of ds)) (end_in d)

abbrev pub ends_in : Data → Option (List End)
ends_in d = option_and_then ends_of (as_array d)
