-- How a usual stage continues from its sources.
use Rattle.std.proofs.Common.{ℕ, ◌≡◌, ◌≤◌, max, List, [], ◌∷◌, Option, Some, None, true, ◌&&◌, refl, sym, ap, ◌∙◌, subst, arith}
use Rattle.std.specs.Prelude.{if◌then◌else◌, IfSome, is_some}
use Rattle.std.specs.List.{cons_option}
use Rattle.std.specs.Option.{option_map}
use Rattle.act_expr.specs.declared.outcome.Mode.{Mode}
use Rattle.act_expr.specs.declared.outcome.Value.{Value}
use Rattle.act_expr.specs.declared.outcome.Value.TheVariants.{Null}
use Rattle.act_expr.specs.declared.outcome.Outcome.TheVariants.{Value as Holds}
use Rattle.stage_graph.specs.declared.op.Op.{Op}
use Rattle.stage_graph.specs.declared.op.Op.TheVariants.{Async, Manual, Completed, Failed, ThenApply, ThenAccept, ThenRun, Copy, Handle, WhenComplete, Exceptionally, ThenCompose, ExceptionallyCompose, ThenCombine, ThenAcceptBoth, RunAfterBoth, ApplyToEither, AcceptEither, RunAfterEither, AllOf, AnyOf}
use Rattle.stage_graph.specs.declared.stage.Stage.{Stage}
use Rattle.stage_ops.specs.declared.natural.Progress.TheVariants.{Waits, Completes}
use Rattle.stage_ops.specs.declared.sources.Source.{Source}
use Rattle.stage_ops.specs.declared.state.Done.{Done}
use Rattle.stage_ops.specs.declared.usual.Normal.{Normal}
use Rattle.stage_ops.specs.declared.usual.Returned.{Returned}
use Rattle.stage_ops.specs.States.{Completion}
use Rattle.stage_ops.specs.Earliest.{earliest}
use Rattle.stage_ops.specs.Sources.{source_of, source_at, completed, have_completed, moment_of, latest, earliest_failed}
use Rattle.stage_ops.specs.Running.{passes}
use Rattle.stage_ops.specs.AfterOne.{after_value, after_earliest, decided}
use Rattle.stage_ops.specs.AfterAll.{unless_failed}
use Rattle.stage_ops.specs.Natural.{progress_of}
use Rattle.stage_ops.specs.Usual.{as_source, as_done, pass_at, AreNormal, IsAfterValue, IsProgress}

-- an operation that completes with the value of one source is decided by the earliest one
value_decides : (op : Op) (mode : Mode) (stage : Stage) (inputs : ℕ → Option Completion) (trigger : ℕ) (value : Value) (done : Done)
    → after_value op mode stage trigger value ≡ Completes done → progress_of op mode stage inputs ≡ after_earliest op mode stage inputs
value_decides Async mode stage inputs trigger value done completes = cc
value_decides Manual mode stage inputs trigger value done completes = cc
value_decides (Completed given) mode stage inputs trigger value done completes = cc
value_decides (Failed name) mode stage inputs trigger value done completes = cc
value_decides ThenApply mode stage inputs trigger value done completes = refl
value_decides ThenAccept mode stage inputs trigger value done completes = refl
value_decides ThenRun mode stage inputs trigger value done completes = refl
value_decides Copy mode stage inputs trigger value done completes = refl
value_decides Handle mode stage inputs trigger value done completes = refl
value_decides WhenComplete mode stage inputs trigger value done completes = refl
value_decides Exceptionally mode stage inputs trigger value done completes = refl
value_decides ThenCompose mode stage inputs trigger value done completes = refl
value_decides ExceptionallyCompose mode stage inputs trigger value done completes = refl
value_decides ThenCombine mode stage inputs trigger value done completes = cc
value_decides ThenAcceptBoth mode stage inputs trigger value done completes = cc
value_decides RunAfterBoth mode stage inputs trigger value done completes = cc
value_decides ApplyToEither mode stage inputs trigger value done completes = refl
value_decides AcceptEither mode stage inputs trigger value done completes = refl
value_decides RunAfterEither mode stage inputs trigger value done completes = refl
value_decides AllOf mode stage inputs trigger value done completes = cc
value_decides AnyOf mode stage inputs trigger value done completes = refl

-- the earliest source decides, if it is normal
pub decided_by : (stage : Stage) (inputs : ℕ → Option Completion) (source : Normal) (trigger : ℕ) (found : Option Returned)
    → earliest moment_of (completed inputs stage.sources) ≡ Some (as_source source) → trigger ≡ max stage.created source.moment
    → IfSome found (IsAfterValue stage trigger source.value) → IfSome found (IsProgress stage inputs)
decided_by stage inputs source trigger None is at after = tt
decided_by stage inputs source trigger (Some returned) is at after =
    let here : IsAfterValue stage (max stage.created source.moment) source.value returned =
    subst (λ (trigger : ℕ). IsAfterValue stage trigger source.value returned) at after in
    λ mode.
    value_decides stage.op mode stage inputs (max stage.created source.moment) source.value (as_done mode returned) (here mode)
    ∙ ap (decided stage.op mode stage) is ∙ here mode

pub earliest_of_one : (inputs : ℕ → Option Completion) (sources : List ℕ) (place : ℕ) (source : Source)
    → sources ≡ place ∷ [] → source_at inputs place ≡ Some source → earliest moment_of (completed inputs sources) ≡ Some source
earliest_of_one inputs sources place source only is =
    ap (λ sources. earliest moment_of (completed inputs sources)) only ∙ ap (λ found. earliest moment_of (cons_option found [])) is

-- the earliest so far is a normal one, if there is one
pub earliest_if : (first : Option Normal) (found : Option Source) → found ≡ option_map as_source first → IfSome first (λ normal. found ≡ Some (as_source normal))
earliest_if None found is = tt
earliest_if (Some normal) found is = is

-- and as early as it is as a source
pub early_if : (limit : ℕ) (first : Option Normal) → IfSome first (λ normal. normal.moment ≤ limit) → IfSome (option_map as_source first) (λ source. source.moment ≤ limit)
early_if limit None early = tt
early_if limit (Some normal) early = early

-- a source has the place at which it was looked for
placed : (place : ℕ) (here : Option Completion) (source : Source) → option_map (source_of place) here ≡ Some source → place ≡ source.place
placed place None source is = cc
placed place (Some completion) source is = let same : source_of place completion ≡ source = cc in ap (λ (source : Source). source.place) same

pub at_place : (inputs : ℕ → Option Completion) (place : ℕ) (normal : Normal) → source_at inputs place ≡ Some (as_source normal)
    → source_at inputs place ≡ Some (record { place = place; outcome = Holds normal.value; moment = normal.moment })
at_place inputs place normal is =
    is ∙ ap (λ named. Some (record { place = named; outcome = Holds normal.value; moment = normal.moment })) (sym (placed place (inputs place) (as_source normal) is))

-- null passes once all sources are normal
pub all_of : (stage : Stage) (inputs : ℕ → Option Completion) (trigger : ℕ) → stage.op ≡ AllOf
    → AreNormal stage.created inputs stage.sources trigger → IsProgress stage inputs (pass_at trigger Null)
all_of stage inputs trigger op are = λ mode.
    let last = latest stage.created (completed inputs stage.sources) in
    let failed = earliest_failed (completed inputs stage.sources) in
    ap (λ op. progress_of op mode stage inputs) op
    ∙ ap (λ b. if b then unless_failed AllOf mode stage inputs last failed else Waits) are.all
    ∙ ap (unless_failed AllOf mode stage inputs last) are.normal
    ∙ ap (λ trigger. passes trigger Null) (sym are.last)

pub one_is_normal : (stage : Stage) (inputs : ℕ → Option Completion) (place : ℕ) (source : Normal) → stage.sources ≡ place ∷ []
    → source_at inputs place ≡ Some (as_source source) → AreNormal stage.created inputs stage.sources (max stage.created source.moment)
one_is_normal stage inputs place source only is =
    let sources : completed inputs stage.sources ≡ as_source source ∷ [] = ap (completed inputs) only ∙ ap (λ found. cons_option found []) is in
    record {
      all = ap (have_completed inputs) only ∙ ap (λ found. is_some found && true) is;
      last = let moment : latest stage.created (completed inputs stage.sources) ≡ max stage.created source.moment = ap (latest stage.created) sources ∙ omega arith in sym moment;
      normal = ap earliest_failed sources;
    }
