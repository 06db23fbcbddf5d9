-- A cause is open exactly for a pending stage that waits for no source.
use Rattle.std.proofs.Common.{ℕ, pos, negsuc, ◌+◌, ◌≡◌, max, Bool, true, false, cond, List, [], ◌∷◌, ◌++◌, Option, Some, None, refl, sym, ap, ◌∙◌, arith}
use Rattle.std.specs.Prelude.{IsTrue, is_some, length, map, slice_get, ◌==◌}
use Rattle.std.specs.Option.{option_map, option_to_list}
use Rattle.std.specs.List.{cons_option}
use Rattle.std.proofs.lemmas.Bool.{and_from, and_parts, eqb-true}
use Rattle.act_expr.specs.declared.outcome.Mode.{Mode}
use Rattle.act_expr.specs.declared.outcome.Value.{Value}
use Rattle.act_expr.specs.declared.outcome.Value.TheVariants.{Null, Num}
use Rattle.act_expr.specs.declared.outcome.Outcome.{Outcome}
use Rattle.act_expr.specs.declared.outcome.Outcome.TheVariants.{Value as Normal, Bare, Wrapped}
use Rattle.act_expr.specs.declared.expr.Answer.{Answer}
use Rattle.act_expr.specs.declared.expr.Answer.TheVariants.{Gives, Throws}
use Rattle.stage_graph.specs.declared.end.End.{End}
use Rattle.stage_graph.specs.declared.op.Op.{Op}
use Rattle.stage_graph.specs.declared.op.Op.TheVariants.{Async, Manual, Completed, Failed, ThenApply, ThenAccept, ThenRun, Copy, Handle, WhenComplete, Exceptionally, ThenCompose, ExceptionallyCompose, ThenCombine, ThenAcceptBoth, RunAfterBoth, ApplyToEither, AcceptEither, RunAfterEither, AllOf, AnyOf}
use Rattle.stage_graph.specs.declared.stage.Stage.{Stage}
use Rattle.stage_graph.specs.Checks.{has_arity}
use Rattle.stage_ops.specs.declared.natural.Progress.{Progress}
use Rattle.stage_ops.specs.declared.natural.Progress.TheVariants.{Waits, Completes, Awaits}
use Rattle.stage_ops.specs.declared.reason.Cause.{Cause}
use Rattle.stage_ops.specs.declared.reason.Cause.TheVariants.{Open}
use Rattle.stage_ops.specs.declared.reason.Reason.{Reason}
use Rattle.stage_ops.specs.declared.sources.Source.{Source}
use Rattle.stage_ops.specs.declared.state.Done.{Done}
use Rattle.stage_ops.specs.States.{Completion}
use Rattle.stage_ops.specs.Earliest.{earliest, sooner}
use Rattle.stage_ops.specs.Sources.{source_at, completed, have_completed, latest, moment_of, earliest_failed}
use Rattle.stage_ops.specs.Picking.{awaits, picked, picks}
use Rattle.stage_ops.specs.AfterOne.{after_value, after_failure, after_outcome, decided, after_earliest}
use Rattle.stage_ops.specs.AfterAll.{after_values, value_named, unless_failed, after_all}
use Rattle.stage_ops.specs.Natural.{progress_of, finished, natural}
use Rattle.stage_ops.specs.Pinned.{pinned, with_pins}
use Rattle.stage_ops.specs.Ended.{done_moment, set_by}
use Rattle.stage_ops.specs.Java.{java_step}
use Rattle.stage_ops.specs.Reasons.{ended_reason, first_pending, later_by, natural_reason, pending_on, reason, reason_on, tick_of, triggered_by, first_at, waited_for, with_pins_reason}
use Rattle.stage_ops.specs.Accounts.{EachIsOpen}
use Rattle.stage_ops.proofs.Accounting.{each_accounts, each_cause}

-- the progress waits for a source
abbrev waits : Progress → Bool
waits Waits = true
waits (Completes done) = false
waits (Awaits pick) = false

-- the progress waits for an inner stage
abbrev awaits_inner : Progress → Bool
awaits_inner Waits = false
awaits_inner (Completes done) = false
awaits_inner (Awaits pick) = true

-- ---- once its sources have completed, an operation waits for none

module _ (mode : Mode) (stage : Stage) (trigger : ℕ) where
  goes_awaits : (index : ℕ) (place : Option ℕ) → waits (awaits mode stage trigger index place) ≡ false
  goes_awaits index None = refl
  goes_awaits index (Some place) = refl

  goes_picked : (number : Value) → waits (picked mode stage trigger number) ≡ false
  goes_picked Null = refl
  goes_picked (Num (negsuc index)) = refl
  goes_picked (Num (pos index)) = goes_awaits index (slice_get stage.inner index)

  goes_picks : (answer : Answer) → waits (picks mode stage trigger answer) ≡ false
  goes_picks (Throws name) = refl
  goes_picks (Gives number) = goes_picked number

  goes_failure : (op : Op) (source : Source) → waits (after_failure op mode stage trigger source) ≡ false
  goes_failure Handle source = refl
  goes_failure WhenComplete source = refl
  goes_failure Exceptionally source = refl
  goes_failure ExceptionallyCompose source = goes_picks _
  goes_failure op source = refl

  goes_outcome : (op : Op) (source : Source) (outcome : Outcome) → ((value : Value) → waits (after_value op mode stage trigger value) ≡ false)
      → waits (after_outcome op mode stage trigger source outcome) ≡ false
  goes_outcome op source (Normal value) goes = goes value
  goes_outcome op source (Bare name) goes = goes_failure op source
  goes_outcome op source (Wrapped name) goes = goes_failure op source

module _ (mode : Mode) (stage : Stage) (inputs : ℕ → Option Completion) where
  waits_on_earliest : (op : Op) → ((trigger : ℕ) (value : Value) → waits (after_value op mode stage trigger value) ≡ false)
      → (places : List ℕ) → decided op mode stage (earliest moment_of (completed inputs places)) ≡ Waits → first_pending inputs places ≡ None → places ≡ []
  waits_on_earliest op goes [] is none = refl
  waits_on_earliest op goes (place ∷ places) is none = by_here (source_at inputs place) is none where
    by_here : (here : Option Source) → decided op mode stage (earliest moment_of (cons_option here (completed inputs places))) ≡ Waits
        → cond (is_some here) (first_pending inputs places) (Some place) ≡ None → place ∷ places ≡ []
    by_here None is none = cc
    by_here (Some first) is none =
        let source = sooner moment_of first (earliest moment_of (completed inputs places)) in
        let on : waits (decided op mode stage (Some source)) ≡ false = goes_outcome mode stage (max stage.created source.moment) op source source.outcome (goes (max stage.created source.moment)) in
        let still : waits (decided op mode stage (Some source)) ≡ true = ap waits is in
        cc

  all_completed : (places : List ℕ) → first_pending inputs places ≡ None → have_completed inputs places ≡ true
  all_completed [] none = refl
  all_completed (place ∷ places) none = by_here (source_at inputs place) refl none (all_completed places) where
    by_here : (here : Option Source) → source_at inputs place ≡ here → cond (is_some here) (first_pending inputs places) (Some place) ≡ None
        → (first_pending inputs places ≡ None → have_completed inputs places ≡ true) → have_completed inputs (place ∷ places) ≡ true
    by_here None is none rest = cc
    by_here (Some first) is none rest = and_from (is_some (source_at inputs place)) (have_completed inputs places) (ap is_some is) (rest none)

  goes_unless : (op : Op) (trigger : ℕ) (failed : Option Source) → ((first second : Value) → waits (after_values op mode stage trigger first second) ≡ false)
      → waits (unless_failed op mode stage inputs trigger failed) ≡ false
  goes_unless op trigger None goes = goes (value_named inputs stage 0) (value_named inputs stage 1)
  goes_unless op trigger (Some source) goes = refl

  waits_on_all : (op : Op) → ((trigger : ℕ) (first second : Value) → waits (after_values op mode stage trigger first second) ≡ false)
      → after_all op mode stage inputs ≡ Waits → first_pending inputs stage.sources ≡ None → stage.sources ≡ []
  waits_on_all op goes is none =
      let trigger = latest stage.created (completed inputs stage.sources) in
      let failed = earliest_failed (completed inputs stage.sources) in
      let have : have_completed inputs stage.sources ≡ true = all_completed stage.sources none in
      let on : waits (unless_failed op mode stage inputs trigger failed) ≡ false = goes_unless op trigger failed (goes trigger) in
      let same : unless_failed op mode stage inputs trigger failed ≡ Waits =
      sym (ap (λ b. cond b (unless_failed op mode stage inputs trigger failed) Waits) have) ∙ is in
      let still : waits (unless_failed op mode stage inputs trigger failed) ≡ true = ap waits same in
      cc

  no_sources : (sources : List ℕ) → IsTrue (has_arity Manual (length sources) (length stage.inner)) → sources ≡ []
  no_sources [] arity = refl
  no_sources (place ∷ sources) arity =
      let none : 0 ≡ length (place ∷ sources) = eqb-true 0 (length (place ∷ sources)) (and_parts (0 == length (place ∷ sources)) _ arity).0 in
      absurd (omega (arith, none))

  -- an operation that waits, but for no source, names none
  waits_for_none : (op : Op) → IsTrue (has_arity op (length stage.sources) (length stage.inner)) → progress_of op mode stage inputs ≡ Waits
      → first_pending inputs stage.sources ≡ None → stage.sources ≡ []
  waits_for_none Async arity is none = cc
  waits_for_none Manual arity is none = no_sources stage.sources arity
  waits_for_none (Completed value) arity is none = cc
  waits_for_none (Failed name) arity is none = cc
  waits_for_none ThenCombine arity is none = waits_on_all ThenCombine (λ trigger first second. refl) is none
  waits_for_none ThenAcceptBoth arity is none = waits_on_all ThenAcceptBoth (λ trigger first second. refl) is none
  waits_for_none RunAfterBoth arity is none = waits_on_all RunAfterBoth (λ trigger first second. refl) is none
  waits_for_none AllOf arity is none = waits_on_all AllOf (λ trigger first second. refl) is none
  waits_for_none ThenApply arity is none = waits_on_earliest ThenApply (λ trigger value. refl) stage.sources is none
  waits_for_none ThenAccept arity is none = waits_on_earliest ThenAccept (λ trigger value. refl) stage.sources is none
  waits_for_none ThenRun arity is none = waits_on_earliest ThenRun (λ trigger value. refl) stage.sources is none
  waits_for_none Copy arity is none = waits_on_earliest Copy (λ trigger value. refl) stage.sources is none
  waits_for_none Handle arity is none = waits_on_earliest Handle (λ trigger value. refl) stage.sources is none
  waits_for_none WhenComplete arity is none = waits_on_earliest WhenComplete (λ trigger value. refl) stage.sources is none
  waits_for_none Exceptionally arity is none = waits_on_earliest Exceptionally (λ trigger value. refl) stage.sources is none
  waits_for_none ThenCompose arity is none = waits_on_earliest ThenCompose (λ trigger value. goes_picks mode stage trigger _) stage.sources is none
  waits_for_none ExceptionallyCompose arity is none = waits_on_earliest ExceptionallyCompose (λ trigger value. refl) stage.sources is none
  waits_for_none ApplyToEither arity is none = waits_on_earliest ApplyToEither (λ trigger value. refl) stage.sources is none
  waits_for_none AcceptEither arity is none = waits_on_earliest AcceptEither (λ trigger value. refl) stage.sources is none
  waits_for_none RunAfterEither arity is none = waits_on_earliest RunAfterEither (λ trigger value. refl) stage.sources is none
  waits_for_none AnyOf arity is none = waits_on_earliest AnyOf (λ trigger value. refl) stage.sources is none

  -- ---- an operation without sources waits for no inner stage

  not_values : (op : Op) (trigger : ℕ) (first second : Value) → awaits_inner (after_values op mode stage trigger first second) ≡ false
  not_values ThenCombine trigger first second = refl
  not_values ThenAcceptBoth trigger first second = refl
  not_values RunAfterBoth trigger first second = refl
  not_values AllOf trigger first second = refl
  not_values op trigger first second = refl

  not_unless : (op : Op) (trigger : ℕ) (failed : Option Source) → awaits_inner (unless_failed op mode stage inputs trigger failed) ≡ false
  not_unless op trigger None = not_values op trigger (value_named inputs stage 0) (value_named inputs stage 1)
  not_unless op trigger (Some source) = refl

  not_if : (progress : Progress) (b : Bool) → awaits_inner progress ≡ false → awaits_inner (cond b progress Waits) ≡ false
  not_if progress true not = not
  not_if progress false not = refl

  not_all : (op : Op) → awaits_inner (after_all op mode stage inputs) ≡ false
  not_all op =
      let trigger = latest stage.created (completed inputs stage.sources) in
      let failed = earliest_failed (completed inputs stage.sources) in
      not_if (unless_failed op mode stage inputs trigger failed) (have_completed inputs stage.sources) (not_unless op trigger failed)

  not_earliest : (op : Op) → stage.sources ≡ [] → awaits_inner (after_earliest op mode stage inputs) ≡ false
  not_earliest op none = ap (λ (places : List ℕ). awaits_inner (decided op mode stage (earliest moment_of (completed inputs places)))) none

  not_awaiting : (op : Op) → stage.sources ≡ [] → awaits_inner (progress_of op mode stage inputs) ≡ false
  not_awaiting Async none = refl
  not_awaiting Manual none = refl
  not_awaiting (Completed value) none = refl
  not_awaiting (Failed name) none = refl
  not_awaiting ThenCombine none = not_all ThenCombine
  not_awaiting ThenAcceptBoth none = not_all ThenAcceptBoth
  not_awaiting RunAfterBoth none = not_all RunAfterBoth
  not_awaiting AllOf none = not_all AllOf
  not_awaiting op none = not_earliest op none

  open_by : (progress : Progress) → awaits_inner progress ≡ false → finished inputs progress ≡ None → stage.sources ≡ []
      → (reason_on stage inputs progress).cause ≡ Open
  open_by Waits not pending none = ap (λ (places : List ℕ). pending_on (first_pending inputs places)) none
  open_by (Completes done) not pending none = cc
  open_by (Awaits pick) not pending none = cc

  -- ---- pins and ends leave the reason of a stage that is pending with them

  under_pins : (result : Option Outcome) (pin : Option ℕ) (natural : Option Done) (reason : Reason) → with_pins result pin natural ≡ None
      → (natural ≡ None) × (with_pins_reason result pin natural reason ≡ reason)
  under_pins None None natural reason pending = (pending, refl)
  under_pins (Some outcome) None None reason pending = (refl, refl)
  under_pins (Some outcome) None (Some done) reason pending = cc
  under_pins None (Some moment) None reason pending = (refl, refl)
  under_pins None (Some moment) (Some done) reason pending = cc
  under_pins (Some outcome) (Some moment) natural reason pending = cc

  under_ends : (ends : List End) (completion : Option Done) (reason : Reason) → earliest done_moment (option_to_list completion ++ map set_by ends) ≡ None
      → (completion ≡ None) × (ended_reason ends completion reason ≡ reason)
  under_ends [] None reason pending = (refl, refl)
  under_ends (end ∷ ends) None reason pending = cc
  under_ends ends (Some done) reason pending = cc

  is_open : (java_step mode stage inputs).done ≡ None → stage.sources ≡ [] → (reason mode stage inputs).cause ≡ Open
  is_open pending none =
      let by_pins = with_pins_reason stage.pin_result stage.pin_moment (natural mode stage inputs) (natural_reason mode stage inputs) in
      let ends = under_ends stage.ends (pinned stage (natural mode stage inputs)) by_pins pending in
      let pins = under_pins stage.pin_result stage.pin_moment (natural mode stage inputs) (natural_reason mode stage inputs) ends.0 in
      ap (λ (reason : Reason). reason.cause) (ends.1 ∙ pins.1)
      ∙ open_by (progress_of stage.op mode stage inputs) (not_awaiting stage.op none) pins.0 none

  -- ---- an open cause

  names_none : IsTrue (has_arity stage.op (length stage.sources) (length stage.inner)) → (reason mode stage inputs).cause ≡ Open → stage.sources ≡ []
  names_none arity =
      each_cause mode stage inputs (λ cause. cause ≡ Open → stage.sources ≡ [])
      (by_trigger (first_at (latest stage.created (waited_for stage.op stage inputs)) (waited_for stage.op stage inputs)))
      (λ place is. cc) (λ is. cc) (λ index is. cc) (λ place is. cc) (λ waits none is. waits_for_none stage.op arity waits none)
    where
      by_trigger : (found : Option Source) → triggered_by found ≡ Open → stage.sources ≡ []
      by_trigger None is = cc
      by_trigger (Some source) is = cc

  is_pending : (reason mode stage inputs).cause ≡ Open → (java_step mode stage inputs).done ≡ None
  is_pending is = by_done (java_step mode stage inputs).done ((each_accounts mode stage inputs).adds_up ∙ ap (λ (cause : Cause). option_map (later_by (reason mode stage inputs)) (tick_of stage inputs cause)) is) where
    by_done : (done : Option Done) → option_map done_moment done ≡ None → done ≡ None
    by_done None none = refl
    by_done (Some done) none = cc

pub each_is_open : EachIsOpen
each_is_open mode stage inputs arity =
    (λ is. (is_pending mode stage inputs is, names_none mode stage inputs arity is), λ pending none. is_open mode stage inputs pending none)
