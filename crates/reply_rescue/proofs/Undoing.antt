-- A stage whose exception did not arise completes with the value, at its own moment.
use Rattle.std.proofs.Common.{◌≡◌, ◌+◌, ℕ, max, Bool, true, false, cond, List, [], ◌∷◌, ◌++◌, Option, Some, None, map, refl, ap, sym, ◌∙◌, pos, negsuc}
use Rattle.std.specs.Prelude.{IfSome, nat_lt, slice_get}
use Rattle.std.specs.Option.{option_map, option_to_list}
use Rattle.std.proofs.lemmas.Bool.{false≢true}
use Rattle.std.proofs.lemmas.Option.{same_Some}
use Rattle.act_expr.specs.declared.outcome.Mode.{Mode}
use Rattle.act_expr.specs.declared.outcome.Outcome.{Outcome}
use Rattle.act_expr.specs.declared.outcome.Outcome.TheVariants.{Value as Normal, Bare, Wrapped}
use Rattle.act_expr.specs.declared.outcome.Value.{Value}
use Rattle.act_expr.specs.declared.outcome.Value.TheVariants.{Null, Num}
use Rattle.act_expr.specs.declared.expr.Answer.{Answer}
use Rattle.act_expr.specs.declared.expr.Answer.TheVariants.{Gives, Throws}
use Rattle.stage_graph.specs.declared.end.End.{End}
use Rattle.stage_graph.specs.declared.op.Op.{Op}
use Rattle.stage_graph.specs.declared.op.Op.TheVariants.{Async, Manual, Completed, Failed, ThenApply, ThenAccept, ThenRun, Copy, Handle, WhenComplete, Exceptionally, ThenCompose, ExceptionallyCompose, ThenCombine, ThenAcceptBoth, RunAfterBoth, ApplyToEither, AcceptEither, RunAfterEither, AllOf, AnyOf}
use Rattle.stage_graph.specs.declared.stage.Stage.{Stage}
use Rattle.stage_ops.specs.declared.reason.Cause.TheVariants.{Ended}
use Rattle.stage_ops.specs.declared.reason.Reason.{Reason}
use Rattle.stage_ops.specs.declared.state.Done.{Done}
use Rattle.stage_ops.specs.Actions.{answer_of, handed, one_value}
use Rattle.stage_ops.specs.AfterAll.{after_all, after_values, unless_failed, value_named}
use Rattle.stage_ops.specs.AfterOne.{after_failure, after_outcome, after_value, decided}
use Rattle.stage_ops.specs.Earliest.{earliest, sooner}
use Rattle.stage_ops.specs.Ended.{done_moment, ended, set_by}
use Rattle.stage_ops.specs.Natural.{finished, natural, progress_of}
use Rattle.stage_ops.specs.Picking.{awaits, picked, picks}
use Rattle.stage_ops.specs.Pinned.{pinned, set_to, with_moment, with_pins, with_result}
use Rattle.stage_ops.specs.Reasons.{at_once, ended_reason, explained, explained_done, explained_moment, natural_reason, reason_or, set_from, with_pins_reason}
use Rattle.stage_ops.specs.Sources.{completed, earliest_failed, have_completed, latest, moment_of}
use Rattle.stage_ops.specs.States.{Completion}
use Rattle.reply_rescue.specs.Laws.{is_ended, EachKeepsItsMoment}

same_cond : {A : Type 0} (b : Bool) (one other rest : A) → one ≡ other → cond b one rest ≡ cond b other rest
same_cond b one other rest same = ap (λ (one : _). cond b one rest) same

-- ---- what a stage comes to by its operation leaves its pinned result out

module _ (mode : Mode) (stage : Stage) (result : Option Outcome) where
  abbrev other : Stage
  other = record stage { pin_result = result }

  same_awaits : (trigger index : ℕ) (place : Option ℕ) → awaits mode other trigger index place ≡ awaits mode stage trigger index place
  same_awaits trigger index None = refl
  same_awaits trigger index (Some place) = refl

  same_picked : (trigger : ℕ) (value : Value) → picked mode other trigger value ≡ picked mode stage trigger value
  same_picked trigger Null = refl
  same_picked trigger (Num (negsuc index)) = refl
  same_picked trigger (Num (pos index)) = same_awaits trigger index (slice_get stage.inner index)

  same_picks : (trigger : ℕ) (answer : Answer) → picks mode other trigger answer ≡ picks mode stage trigger answer
  same_picks trigger (Throws name) = refl
  same_picks trigger (Gives number) = same_picked trigger number

  same_value : (op : Op) (trigger : ℕ) (value : Value) → after_value op mode other trigger value ≡ after_value op mode stage trigger value
  same_value Async trigger value = refl
  same_value Manual trigger value = refl
  same_value (Completed given) trigger value = refl
  same_value (Failed name) trigger value = refl
  same_value ThenApply trigger value = refl
  same_value ThenAccept trigger value = refl
  same_value ThenRun trigger value = refl
  same_value Copy trigger value = refl
  same_value Handle trigger value = refl
  same_value WhenComplete trigger value = refl
  same_value Exceptionally trigger value = refl
  same_value ThenCompose trigger value = same_picks trigger (answer_of stage (one_value value))
  same_value ExceptionallyCompose trigger value = refl
  same_value ThenCombine trigger value = refl
  same_value ThenAcceptBoth trigger value = refl
  same_value RunAfterBoth trigger value = refl
  same_value ApplyToEither trigger value = refl
  same_value AcceptEither trigger value = refl
  same_value RunAfterEither trigger value = refl
  same_value AllOf trigger value = refl
  same_value AnyOf trigger value = refl

  same_failure : (op : Op) (trigger : ℕ) (source : _) → after_failure op mode other trigger source ≡ after_failure op mode stage trigger source
  same_failure Async trigger source = refl
  same_failure Manual trigger source = refl
  same_failure (Completed given) trigger source = refl
  same_failure (Failed name) trigger source = refl
  same_failure ThenApply trigger source = refl
  same_failure ThenAccept trigger source = refl
  same_failure ThenRun trigger source = refl
  same_failure Copy trigger source = refl
  same_failure Handle trigger source = refl
  same_failure WhenComplete trigger source = refl
  same_failure Exceptionally trigger source = refl
  same_failure ThenCompose trigger source = refl
  same_failure ExceptionallyCompose trigger source = same_picks trigger (answer_of stage (handed source.outcome))
  same_failure ThenCombine trigger source = refl
  same_failure ThenAcceptBoth trigger source = refl
  same_failure RunAfterBoth trigger source = refl
  same_failure ApplyToEither trigger source = refl
  same_failure AcceptEither trigger source = refl
  same_failure RunAfterEither trigger source = refl
  same_failure AllOf trigger source = refl
  same_failure AnyOf trigger source = refl

  same_outcome : (op : Op) (trigger : ℕ) (source : _) (outcome : Outcome) → after_outcome op mode other trigger source outcome ≡ after_outcome op mode stage trigger source outcome
  same_outcome op trigger source (Normal value) = same_value op trigger value
  same_outcome op trigger source (Bare name) = same_failure op trigger source
  same_outcome op trigger source (Wrapped name) = same_failure op trigger source

  same_decided : (op : Op) (source : Option _) → decided op mode other source ≡ decided op mode stage source
  same_decided op None = refl
  same_decided op (Some source) = same_outcome op (max stage.created source.moment) source source.outcome

  same_values : (op : Op) (trigger : ℕ) (first second : Value) → after_values op mode other trigger first second ≡ after_values op mode stage trigger first second
  same_values Async trigger first second = refl
  same_values Manual trigger first second = refl
  same_values (Completed given) trigger first second = refl
  same_values (Failed name) trigger first second = refl
  same_values ThenApply trigger first second = refl
  same_values ThenAccept trigger first second = refl
  same_values ThenRun trigger first second = refl
  same_values Copy trigger first second = refl
  same_values Handle trigger first second = refl
  same_values WhenComplete trigger first second = refl
  same_values Exceptionally trigger first second = refl
  same_values ThenCompose trigger first second = refl
  same_values ExceptionallyCompose trigger first second = refl
  same_values ThenCombine trigger first second = refl
  same_values ThenAcceptBoth trigger first second = refl
  same_values RunAfterBoth trigger first second = refl
  same_values ApplyToEither trigger first second = refl
  same_values AcceptEither trigger first second = refl
  same_values RunAfterEither trigger first second = refl
  same_values AllOf trigger first second = refl
  same_values AnyOf trigger first second = refl

  module _ (inputs : ℕ → Option Completion) where
    same_unless : (op : Op) (trigger : ℕ) (failed : Option _) → unless_failed op mode other inputs trigger failed ≡ unless_failed op mode stage inputs trigger failed
    same_unless op trigger None = same_values op trigger (value_named inputs stage 0) (value_named inputs stage 1)
    same_unless op trigger (Some source) = refl

    same_all : (op : Op) → after_all op mode other inputs ≡ after_all op mode stage inputs
    same_all op =
        same_cond (have_completed inputs stage.sources) _ _ _ (same_unless op (latest stage.created (completed inputs stage.sources)) (earliest_failed (completed inputs stage.sources)))

    same_progress : (op : Op) → progress_of op mode other inputs ≡ progress_of op mode stage inputs
    same_progress Async = refl
    same_progress Manual = refl
    same_progress (Completed given) = refl
    same_progress (Failed name) = refl
    same_progress ThenApply = same_decided ThenApply (earliest moment_of (completed inputs stage.sources))
    same_progress ThenAccept = same_decided ThenAccept (earliest moment_of (completed inputs stage.sources))
    same_progress ThenRun = same_decided ThenRun (earliest moment_of (completed inputs stage.sources))
    same_progress Copy = same_decided Copy (earliest moment_of (completed inputs stage.sources))
    same_progress Handle = same_decided Handle (earliest moment_of (completed inputs stage.sources))
    same_progress WhenComplete = same_decided WhenComplete (earliest moment_of (completed inputs stage.sources))
    same_progress Exceptionally = same_decided Exceptionally (earliest moment_of (completed inputs stage.sources))
    same_progress ThenCompose = same_decided ThenCompose (earliest moment_of (completed inputs stage.sources))
    same_progress ExceptionallyCompose = same_decided ExceptionallyCompose (earliest moment_of (completed inputs stage.sources))
    same_progress ThenCombine = same_all ThenCombine
    same_progress ThenAcceptBoth = same_all ThenAcceptBoth
    same_progress RunAfterBoth = same_all RunAfterBoth
    same_progress ApplyToEither = same_decided ApplyToEither (earliest moment_of (completed inputs stage.sources))
    same_progress AcceptEither = same_decided AcceptEither (earliest moment_of (completed inputs stage.sources))
    same_progress RunAfterEither = same_decided RunAfterEither (earliest moment_of (completed inputs stage.sources))
    same_progress AllOf = same_all AllOf
    same_progress AnyOf = same_decided AnyOf (earliest moment_of (completed inputs stage.sources))

    same_natural : natural mode other inputs ≡ natural mode stage inputs
    same_natural = ap (finished inputs) (same_progress stage.op)

-- ---- with the value as its pinned result

with_value : (result : Option Outcome) (moment : Option ℕ) (natural : Option Done) (value : Value) (done : Done) → with_pins result moment natural ≡ Some done
    → with_pins (Some (Normal value)) moment natural ≡ Some (set_to (Normal value) done.moment)
with_value None None None value done is = cc
with_value None None (Some natural) value done is = ap (λ (done : Done). Some (set_to (Normal value) done.moment)) (same_Some natural done is)
with_value (Some outcome) None None value done is = cc
with_value (Some outcome) None (Some natural) value done is = ap (λ (done : Done). Some (set_to (Normal value) done.moment)) (same_Some (with_result outcome natural) done is)
with_value None (Some moment) None value done is = cc
with_value None (Some moment) (Some natural) value done is = ap (λ (done : Done). Some (set_to (Normal value) done.moment)) (same_Some (with_moment moment natural) done is)
with_value (Some outcome) (Some moment) natural value done is = ap (λ (done : Done). Some (set_to (Normal value) done.moment)) (same_Some (set_to outcome moment) done is)

-- ---- what the ends set

done_of : (b : Bool) (first second : _) → explained_done (cond b first second) ≡ cond b (explained_done first) (explained_done second)
done_of true first second = refl
done_of false first second = refl

sooner_done : (first : _) (rest : Option _) → explained_done (sooner explained_moment first rest) ≡ sooner done_moment (explained_done first) (option_map explained_done rest)
sooner_done first None = refl
sooner_done first (Some second) = done_of (nat_lt (explained_moment second) (explained_moment first)) second first

set_dones : (index : ℕ) (ends : List End) → option_map explained_done (earliest explained_moment (set_from index ends)) ≡ earliest done_moment (map set_by ends)
set_dones index [] = refl
set_dones index (end ∷ ends) =
    ap (λ (done : Done). Some done)
    (sooner_done (explained (at_once (Ended index)) (set_by end)) (earliest explained_moment (set_from (index + 1) ends)) ∙ ap (sooner done_moment (set_by end)) (set_dones (index + 1) ends))

module _ (reason : Reason) where
  cause_of : (b : Bool) (first second : _) → is_ended (reason_or reason (Some first)).cause ≡ true → is_ended (reason_or reason (Some second)).cause ≡ true → is_ended (reason_or reason (Some (cond b first second))).cause ≡ true
  cause_of true first second is also = is
  cause_of false first second is also = also

  sooner_cause : (first : _) (rest : Option _) → is_ended (reason_or reason (Some first)).cause ≡ true → IfSome rest (λ one. is_ended (reason_or reason (Some one)).cause ≡ true)
      → is_ended (reason_or reason (Some (sooner explained_moment first rest))).cause ≡ true
  sooner_cause first None is all = is
  sooner_cause first (Some second) is all = cause_of (nat_lt (explained_moment second) (explained_moment first)) second first all is

  set_causes : (index : ℕ) (ends : List End) → IfSome (earliest explained_moment (set_from index ends)) (λ one. is_ended (reason_or reason (Some one)).cause ≡ true)
  set_causes index [] = tt
  set_causes index (end ∷ ends) = sooner_cause (explained (at_once (Ended index)) (set_by end)) (earliest explained_moment (set_from (index + 1) ends)) refl (set_causes (index + 1) ends)

  -- ---- where no end completed the stage, none comes before the value

  module _ (value : Value) (done : Done) where
    if_sooner : (own : Done) (one : _) (b : Bool) → Some (cond b (explained_done one) own) ≡ Some done → is_ended (reason_or reason (Some (cond b one (explained reason own)))).cause ≡ false
        → is_ended (reason_or reason (Some one)).cause ≡ true → Some (cond b (explained_done one) (set_to (Normal value) own.moment)) ≡ Some (set_to (Normal value) done.moment)
    if_sooner own one true is not_ended set = absurd (false≢true (sym not_ended ∙ set))
    if_sooner own one false is not_ended set = ap (λ (done : Done). Some (set_to (Normal value) done.moment)) (same_Some own done is)

    before_ends : (own : Done) (set : Option _) → IfSome set (λ one. is_ended (reason_or reason (Some one)).cause ≡ true) → Some (sooner done_moment own (option_map explained_done set)) ≡ Some done
        → is_ended (reason_or reason (Some (sooner explained_moment (explained reason own) set))).cause ≡ false
        → Some (sooner done_moment (set_to (Normal value) own.moment) (option_map explained_done set)) ≡ Some (set_to (Normal value) done.moment)
    before_ends own None all is not_ended = ap (λ (done : Done). Some (set_to (Normal value) done.moment)) (same_Some own done is)
    before_ends own (Some one) all is not_ended = if_sooner own one (nat_lt (explained_moment one) own.moment) is not_ended all

    only_ends : (set : Option _) → IfSome set (λ one. is_ended (reason_or reason (Some one)).cause ≡ true) → option_map explained_done set ≡ Some done → is_ended (reason_or reason set).cause ≡ false → ⊥
    only_ends None all is not_ended = cc
    only_ends (Some one) all is not_ended = false≢true (sym not_ended ∙ all)

    at_own_moment : (ends : List End) (own changed : Option Done) → ((one : Done) → own ≡ Some one → changed ≡ Some (set_to (Normal value) one.moment)) → earliest done_moment (option_to_list own ++ map set_by ends) ≡ Some done
        → is_ended (ended_reason ends own reason).cause ≡ false → earliest done_moment (option_to_list changed ++ map set_by ends) ≡ Some (set_to (Normal value) done.moment)
    at_own_moment ends None changed made is not_ended = absurd (only_ends (earliest explained_moment (set_from 0 ends)) (set_causes 0 ends) (set_dones 0 ends ∙ is) not_ended)
    at_own_moment ends (Some own) changed made is not_ended =
        ap (λ (changed : Option Done). earliest done_moment (option_to_list changed ++ map set_by ends)) (made own refl)
        ∙ ap (λ (set : Option Done). Some (sooner done_moment (set_to (Normal value) own.moment) set)) (sym (set_dones 0 ends))
        ∙ before_ends own (earliest explained_moment (set_from 0 ends)) (set_causes 0 ends) (ap (λ (set : Option Done). Some (sooner done_moment own set)) (set_dones 0 ends) ∙ is) not_ended

pub keeps_its_moment : EachKeepsItsMoment
keeps_its_moment mode stage inputs value done is not_ended =
    let own = natural mode stage inputs in
    ap (λ (natural : Option Done). ended stage (with_pins (Some (Normal value)) stage.pin_moment natural)) (same_natural mode stage (Some (Normal value)) inputs)
    ∙ at_own_moment (with_pins_reason stage.pin_result stage.pin_moment own (natural_reason mode stage inputs)) value done stage.ends (pinned stage own) (with_pins (Some (Normal value)) stage.pin_moment own)
    (λ one here. with_value stage.pin_result stage.pin_moment own value one here) is not_ended
