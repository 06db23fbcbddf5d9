-- The reason of a stage accounts for its state.
use Rattle.std.proofs.Common.{ℕ, suc, zero, pos, negsuc, ◌+◌, ◌≤◌, ◌≡◌, inl, inr, max, Bool, true, false, cond, List, [], ◌∷◌, ◌++◌, Option, Some, None, refl, sym, ap, ◌∙◌, subst, arith}
use Rattle.std.proofs.lemmas.Bool.{eqb-true, cases_lt, cond_below, cond_above}
use Rattle.std.proofs.lemmas.Bool.Decides.{eqb_tells}
use Rattle.std.specs.Prelude.{All, Contains, IfSome, is_some, map, nat_lt, ◌==◌, slice_get}
use Rattle.std.specs.Option.{option_map, option_to_list}
use Rattle.std.specs.List.{cons_option}
use Rattle.act_expr.specs.declared.outcome.Mode.{Mode}
use Rattle.act_expr.specs.declared.outcome.Value.{Value}
use Rattle.act_expr.specs.declared.outcome.Value.TheVariants.{Null, Num}
use Rattle.act_expr.specs.declared.outcome.Outcome.{Outcome}
use Rattle.act_expr.specs.declared.outcome.Outcome.TheVariants.{Value as Normal, Bare, Wrapped}
use Rattle.act_expr.specs.declared.expr.Answer.{Answer}
use Rattle.act_expr.specs.declared.expr.Answer.TheVariants.{Gives, Throws}
use Rattle.stage_graph.specs.declared.end.End.{End}
use Rattle.stage_graph.specs.declared.op.Op.{Op}
use Rattle.stage_graph.specs.declared.op.Op.TheVariants.{Async, Manual, Completed, Failed, ThenApply, ThenAccept, ThenRun, Copy, Handle, WhenComplete, Exceptionally, ThenCompose, ExceptionallyCompose, ThenCombine, ThenAcceptBoth, RunAfterBoth, ApplyToEither, AcceptEither, RunAfterEither, AllOf, AnyOf}
use Rattle.stage_graph.specs.declared.stage.Stage.{Stage}
use Rattle.stage_ops.specs.declared.natural.Pick.{Pick}
use Rattle.stage_ops.specs.declared.natural.Progress.{Progress}
use Rattle.stage_ops.specs.declared.natural.Progress.TheVariants.{Waits, Completes, Awaits}
use Rattle.stage_ops.specs.declared.reason.Cause.{Cause}
use Rattle.stage_ops.specs.declared.reason.Cause.TheVariants.{Created, After, Inner, Pinned, Ended, Waiting, Open}
use Rattle.stage_ops.specs.declared.reason.Reason.{Reason}
use Rattle.stage_ops.specs.declared.reasons.Explained.{Explained}
use Rattle.stage_ops.specs.declared.sources.Source.{Source}
use Rattle.stage_ops.specs.declared.state.Done.{Done}
use Rattle.stage_ops.specs.declared.state.Reads.{Reads}
use Rattle.stage_ops.specs.declared.state.Reads.TheVariants.{Nothing, Sources, Picked}
use Rattle.stage_ops.specs.States.{Completion, IsReadBy}
use Rattle.stage_ops.specs.Earliest.{earliest, sooner}
use Rattle.stage_ops.specs.Sources.{source_of, source_at, completed, have_completed, latest, moment_of, earliest_failed}
use Rattle.stage_ops.specs.SourceLaws.{completed_in, earliest_in, latest_above, latest_from}
use Rattle.stage_graph.proofs.Lists.{All-contains_each}
use Rattle.stage_ops.specs.Running.{at_trigger, runs}
use Rattle.stage_ops.specs.Picking.{awaits, picked, picks}
use Rattle.stage_ops.specs.AfterOne.{after_value, after_failure, after_outcome, decided, after_earliest}
use Rattle.stage_ops.specs.AfterAll.{after_values, value_named, unless_failed, after_all}
use Rattle.stage_ops.specs.Natural.{progress_of, finished, natural, taken_over}
use Rattle.stage_ops.specs.Pinned.{with_pins}
use Rattle.stage_ops.specs.Ended.{acts_at, done_moment, ended, set_by}
use Rattle.stage_ops.specs.Reads.{read_on, read_with_pins}
use Rattle.stage_ops.specs.ProgressLaws.{IsFair, is_fair, last_moment}
use Rattle.stage_ops.specs.Reasons.{at_once, by_action, candidates, ended_reason, explained, explained_done, explained_moment, feed_in, first_at, first_pending, later_by, natural_reason, pending_on, reason, reason_on, reason_or, set_from, since_pick, since_trigger, tick_of, trigger_cause, triggered_by, waited_for, with_pins_reason}
use Rattle.stage_ops.specs.Accounts.{IsAccount, EachAccounts, IsLatest, EachIsLatest}

-- ---- the progress of an operation keeps time: it completes at its trigger, or its action's ticks later

abbrev took : Stage → Option ℕ → ℕ
took stage None = 0
took stage (Some start) = stage.queued + stage.runs

abbrev IsTimed : Stage → ℕ → Progress → Type 0
IsTimed stage trigger Waits = Unit {0}
IsTimed stage trigger (Completes done) = done.moment ≡ trigger + took stage done.start
IsTimed stage trigger (Awaits pick) = pick.end ≡ trigger + stage.queued + stage.runs

module _ (mode : Mode) (stage : Stage) (trigger : ℕ) where
  timed_runs : (answer : Answer) → IsTimed stage trigger (runs mode stage trigger answer)
  timed_runs answer = omega arith

  timed_at : (outcome : Outcome) (from : Option ℕ) → IsTimed stage trigger (at_trigger trigger outcome from)
  timed_at outcome from = omega arith

  timed_awaits : (index : ℕ) (place : Option ℕ) → IsTimed stage trigger (awaits mode stage trigger index place)
  timed_awaits index None = omega arith
  timed_awaits index (Some place) = refl

  timed_picked : (number : Value) → IsTimed stage trigger (picked mode stage trigger number)
  timed_picked Null = omega arith
  timed_picked (Num (negsuc index)) = omega arith
  timed_picked (Num (pos index)) = timed_awaits index (slice_get stage.inner index)

  timed_picks : (answer : Answer) → IsTimed stage trigger (picks mode stage trigger answer)
  timed_picks (Throws name) = omega arith
  timed_picks (Gives number) = timed_picked number

  timed_value : (op : Op) (value : Value) → IsTimed stage trigger (after_value op mode stage trigger value)
  timed_value ThenApply value = omega arith
  timed_value ThenAccept value = omega arith
  timed_value ThenRun value = omega arith
  timed_value Copy value = omega arith
  timed_value Handle value = omega arith
  timed_value WhenComplete value = omega arith
  timed_value Exceptionally value = omega arith
  timed_value ThenCompose value = timed_picks _
  timed_value ExceptionallyCompose value = omega arith
  timed_value ApplyToEither value = omega arith
  timed_value AcceptEither value = omega arith
  timed_value RunAfterEither value = omega arith
  timed_value AnyOf value = omega arith
  timed_value op value = tt

  timed_failure : (op : Op) (source : Source) → IsTimed stage trigger (after_failure op mode stage trigger source)
  timed_failure Handle source = omega arith
  timed_failure WhenComplete source = omega arith
  timed_failure Exceptionally source = omega arith
  timed_failure ExceptionallyCompose source = timed_picks _
  timed_failure op source = omega arith

  timed_outcome : (op : Op) (source : Source) (outcome : Outcome) → IsTimed stage trigger (after_outcome op mode stage trigger source outcome)
  timed_outcome op source (Normal value) = timed_value op value
  timed_outcome op source (Bare name) = timed_failure op source
  timed_outcome op source (Wrapped name) = timed_failure op source

  timed_values : (op : Op) (first second : Value) → IsTimed stage trigger (after_values op mode stage trigger first second)
  timed_values ThenCombine first second = omega arith
  timed_values ThenAcceptBoth first second = omega arith
  timed_values RunAfterBoth first second = omega arith
  timed_values AllOf first second = omega arith
  timed_values op first second = tt

  timed_unless : (op : Op) (inputs : ℕ → Option Completion) (failed : Option Source) → IsTimed stage trigger (unless_failed op mode stage inputs trigger failed)
  timed_unless op inputs None = timed_values op (value_named inputs stage 0) (value_named inputs stage 1)
  timed_unless op inputs (Some source) = omega arith

  timed_if : (progress : Progress) (b : Bool) → IsTimed stage trigger progress → IsTimed stage trigger (cond b progress Waits)
  timed_if progress true timed = timed
  timed_if progress false timed = tt

module _ (mode : Mode) (stage : Stage) (inputs : ℕ → Option Completion) where
  timed_decided : (op : Op) (source : Option Source) → IsTimed stage (latest stage.created (option_to_list source)) (decided op mode stage source)
  timed_decided op None = tt
  timed_decided op (Some source) =
      let same : max stage.created source.moment ≡ max source.moment stage.created = omega arith in
      subst (λ trigger. IsTimed stage trigger (after_outcome op mode stage (max stage.created source.moment) source source.outcome)) same
      (timed_outcome mode stage (max stage.created source.moment) op source source.outcome)

  timed_earliest : (op : Op) → IsTimed stage (latest stage.created (option_to_list (earliest moment_of (completed inputs stage.sources)))) (after_earliest op mode stage inputs)
  timed_earliest op = timed_decided op (earliest moment_of (completed inputs stage.sources))

  timed_all : (op : Op) → IsTimed stage (latest stage.created (completed inputs stage.sources)) (after_all op mode stage inputs)
  timed_all op =
      timed_if mode stage (latest stage.created (completed inputs stage.sources))
      (unless_failed op mode stage inputs (latest stage.created (completed inputs stage.sources)) (earliest_failed (completed inputs stage.sources)))
      (have_completed inputs stage.sources)
      (timed_unless mode stage (latest stage.created (completed inputs stage.sources)) op inputs (earliest_failed (completed inputs stage.sources)))

  is_timed : (op : Op) → IsTimed stage (latest stage.created (waited_for op stage inputs)) (progress_of op mode stage inputs)
  is_timed Async = omega arith
  is_timed Manual = tt
  is_timed (Completed value) = omega arith
  is_timed (Failed name) = omega arith
  is_timed ThenCombine = timed_all ThenCombine
  is_timed ThenAcceptBoth = timed_all ThenAcceptBoth
  is_timed RunAfterBoth = timed_all RunAfterBoth
  is_timed AllOf = timed_all AllOf
  is_timed op = timed_earliest op

-- ---- the sources that the operation waits for

-- a source that has completed is the completion at its place
shown : (inputs : ℕ → Option Completion) (place : ℕ) (sources : List Source) (source : Source) (here : Option Source) → source_at inputs place ≡ here
    → (Contains sources source → source_at inputs source.place ≡ Some source)
    → Contains (cons_option here sources) source → source_at inputs source.place ≡ Some source
shown inputs place sources source None is rest among = rest among
shown inputs place sources source (Some first) is rest (zero, within, at) = subst (λ (source : Source). source_at inputs source.place ≡ Some source) at (own (inputs place) is) where
  own : (here : Option Completion) → option_map (source_of place) here ≡ Some first → source_at inputs first.place ≡ Some first
  own None is' = cc
  own (Some completion) is' = let same : place ≡ first.place = cc in ap (source_at inputs) (sym same) ∙ is
shown inputs place sources source (Some first) is rest (suc k, within, at) = rest (k, omega arith, at)

completed_shown : (inputs : ℕ → Option Completion) (places : List ℕ) (source : Source) → Contains (completed inputs places) source → source_at inputs source.place ≡ Some source
completed_shown inputs [] source (k, within, at) = absurd (omega arith)
completed_shown inputs (place ∷ places) source among =
    shown inputs place (completed inputs places) source (source_at inputs place) refl (completed_shown inputs places source) among

of_one : (one : Option Source) (sources : List Source) (source : Source) → IfSome one (Contains sources) → Contains (option_to_list one) source → Contains sources source
of_one None sources source here (k, within, at) = absurd (omega arith)
of_one (Some first) sources source here (zero, within, at) = subst (Contains sources) at here
of_one (Some first) sources source here (suc k, within, at) = absurd (omega arith)

of_earliest : (sources : List Source) (source : Source) → Contains (option_to_list (earliest moment_of sources)) source → Contains sources source
of_earliest sources source among = of_one (earliest moment_of sources) sources source (earliest_in moment_of sources) among

of_none : (sources : List Source) (source : Source) → Contains [] source → Contains sources source
of_none sources source (k, within, at) = absurd (omega arith)

waited_in : (op : Op) (stage : Stage) (inputs : ℕ → Option Completion) (source : Source) → Contains (waited_for op stage inputs) source → Contains (completed inputs stage.sources) source
waited_in Async stage inputs source among = of_none (completed inputs stage.sources) source among
waited_in Manual stage inputs source among = of_none (completed inputs stage.sources) source among
waited_in (Completed value) stage inputs source among = of_none (completed inputs stage.sources) source among
waited_in (Failed name) stage inputs source among = of_none (completed inputs stage.sources) source among
waited_in ThenCombine stage inputs source among = among
waited_in ThenAcceptBoth stage inputs source among = among
waited_in RunAfterBoth stage inputs source among = among
waited_in AllOf stage inputs source among = among
waited_in op stage inputs source among = of_earliest (completed inputs stage.sources) source among

-- ---- the first of them at a tick

-- the first at a tick is among them, and has that tick
abbrev IsAt : ℕ → List Source → Source → Type 0
IsAt tick sources source = Contains sources source × (source.moment ≡ tick)

at_later : (tick : ℕ) (first : Source) (sources : List Source) (found : Option Source) → IfSome found (IsAt tick sources) → IfSome found (IsAt tick (first ∷ sources))
at_later tick first sources None at = tt
at_later tick first sources (Some source) ((k, within, at), tick_is) = ((suc k, omega arith, at), tick_is)

at_first : (tick : ℕ) (first : Source) (sources : List Source) (found : Option Source) → IfSome found (IsAt tick sources)
    → (b : Bool) → (first.moment == tick) ≡ b → IfSome (cond b (Some first) found) (IsAt tick (first ∷ sources))
at_first tick first sources found rest true is = ((0, omega arith, refl), eqb-true first.moment tick is)
at_first tick first sources found rest false is = at_later tick first sources found rest

first_at_is : (tick : ℕ) (sources : List Source) → IfSome (first_at tick sources) (IsAt tick sources)
first_at_is tick [] = tt
first_at_is tick (first ∷ sources) = at_first tick first sources (first_at tick sources) (first_at_is tick sources) (first.moment == tick) refl

-- if none of them completed at the latest tick, it is the creation's
none_at_latest : (created : ℕ) (sources : List Source) → first_at (latest created sources) sources ≡ None → latest created sources ≡ created
none_at_latest created [] none = refl
none_at_latest created (first ∷ sources) none =
    let tick = max first.moment (latest created sources) in
    elim (eqb_tells first.moment tick) [
      | inl (is, same) ↦
          let some : Some first ≡ None = ap (λ b. cond b (Some first) (first_at tick sources)) (sym is) ∙ none in
          cc
      | inr (is, differ) ↦
          let rest : tick ≡ latest created sources = omega (arith, differ) in
          let none_left : first_at tick sources ≡ None = ap (λ b. cond b (Some first) (first_at tick sources)) (sym is) ∙ none in
          rest ∙ none_at_latest created sources (ap (λ tick. first_at tick sources) (sym rest) ∙ none_left)
    ]

module _ (stage : Stage) (inputs : ℕ → Option Completion) where
  abbrev waited : List Source
  waited = waited_for stage.op stage inputs

  abbrev trigger : ℕ
  trigger = latest stage.created waited

  tick_by : (found : Option Source) → first_at trigger waited ≡ found → IfSome found (IsAt trigger waited)
      → tick_of stage inputs (triggered_by found) ≡ Some trigger
  tick_by None none here = ap (λ tick. Some tick) (sym (none_at_latest stage.created waited none))
  tick_by (Some source) is (among, at) =
      ap (option_map moment_of) (completed_shown inputs stage.sources source (waited_in stage.op stage inputs source among)) ∙ ap (λ tick. Some tick) at

  trigger_tick : tick_of stage inputs (trigger_cause stage inputs) ≡ Some trigger
  trigger_tick = tick_by (first_at trigger waited) refl (first_at_is trigger waited)

  read_by : (found : Option Source) → IfSome found (IsAt trigger waited) → IfSome (feed_in (triggered_by found)) (Contains stage.sources)
  read_by None here = tt
  read_by (Some source) (among, at) = completed_in inputs stage.sources source (waited_in stage.op stage inputs source among)

  trigger_read : IfSome (feed_in (trigger_cause stage inputs)) (Contains stage.sources)
  trigger_read = read_by (first_at trigger waited) (first_at_is trigger waited)

  -- ---- the account of a completion

  moment_told : (place tick : ℕ) (here : Option Completion) → option_map moment_of (option_map (source_of place) here) ≡ Some tick → is_some here ≡ true
  moment_told place tick None is = cc
  moment_told place tick (Some completion) is = refl

  feed_told : (cause : Cause) (tick : ℕ) → tick_of stage inputs cause ≡ Some tick → IfSome (feed_in cause) (λ feed. is_some (inputs feed) ≡ true)
  feed_told Created tick is = tt
  feed_told (After place) tick is = moment_told place tick (inputs place) is
  feed_told (Inner place) tick is = moment_told place tick (inputs place) is
  feed_told Pinned tick is = tt
  feed_told (Ended index) tick is = tt
  feed_told (Waiting place) tick is = cc
  feed_told Open tick is = tt

  account_of : (reads : Reads) (done : Done) (reason : Reason) (tick : ℕ) → tick_of stage inputs reason.cause ≡ Some tick → done.moment ≡ later_by reason tick
      → IfSome (feed_in reason.cause) (IsReadBy stage reads) → IsAccount stage inputs reads (Some done) reason
  account_of reads done reason tick told later read = record {
    adds_up = ap (λ moment. Some moment) later ∙ ap (option_map (later_by reason)) (sym told);
    read = read;
    alike = feed_told reason.cause tick told;
  }

  -- ---- by its operation

  abbrev IsPendingIn : List ℕ → ℕ → Type 0
  IsPendingIn places place = Contains places place × (is_some (inputs place) ≡ false)

  pending_later : (place : ℕ) (places : List ℕ) (found : Option ℕ) → IfSome found (IsPendingIn places) → IfSome found (IsPendingIn (place ∷ places))
  pending_later place places None at = tt
  pending_later place places (Some other) ((k, within, at), none) = ((suc k, omega arith, at), none)

  pending_first : (place : ℕ) (places : List ℕ) (found : Option ℕ) → IfSome found (IsPendingIn places) → (here : Option Completion) → inputs place ≡ here
      → IfSome (cond (is_some (option_map (source_of place) here)) found (Some place)) (IsPendingIn (place ∷ places))
  pending_first place places found rest None is = ((0, omega arith, refl), ap is_some is)
  pending_first place places found rest (Some completion) is = pending_later place places found rest

  pending_in : (places : List ℕ) → IfSome (first_pending inputs places) (IsPendingIn places)
  pending_in [] = tt
  pending_in (place ∷ places) = pending_first place places (first_pending inputs places) (pending_in places) (inputs place) refl

  waits_account : (found : Option ℕ) → IfSome found (IsPendingIn stage.sources)
      → IsAccount stage inputs Sources None (at_once (pending_on found))
  waits_account None here = record { adds_up = refl; read = tt; alike = tt }
  waits_account (Some place) (among, none) = record { adds_up = refl; read = among; alike = none }

  trigger_account : (done : Done) (start : Option ℕ) → done.moment ≡ trigger + took stage start
      → IsAccount stage inputs Sources (Some done) (since_trigger stage (trigger_cause stage inputs) start)
  trigger_account done None later = account_of Sources done (at_once (trigger_cause stage inputs)) trigger trigger_tick (omega (arith, later)) trigger_read
  trigger_account done (Some start) later = account_of Sources done (by_action stage (trigger_cause stage inputs)) trigger trigger_tick (omega (arith, later)) trigger_read

  read_too : (index : ℕ) (found : Option ℕ) → IfSome found (Contains stage.sources) → IfSome found (IsReadBy stage (Picked index))
  read_too index None here = tt
  read_too index (Some feed) here = inl here

  none_shown : (place : ℕ) (here : Option Completion) → option_map (source_of place) here ≡ None → is_some here ≡ false
  none_shown place None is = refl
  none_shown place (Some completion) is = cc

  picked_account : (pick : Pick) → slice_get stage.inner pick.index ≡ Some pick.place → pick.end ≡ trigger + stage.queued + stage.runs
      → (here : Option Source) → source_at inputs pick.place ≡ here
      → IsAccount stage inputs (Picked pick.index) (option_map (taken_over pick) here) (since_pick stage (trigger_cause stage inputs) pick here)
  picked_account pick stands ends None none = record { adds_up = refl; read = inr stands; alike = none_shown pick.place (inputs pick.place) none }
  picked_account pick stands ends (Some inner) is = elim (cases_lt pick.end inner.moment) [
    | inl late ↦
        subst (IsAccount stage inputs (Picked pick.index) (Some (taken_over pick inner)))
        (cond_below pick.end inner.moment (at_once (Inner pick.place)) (by_action stage (trigger_cause stage inputs)) late)
        (account_of (Picked pick.index) (taken_over pick inner) (at_once (Inner pick.place)) inner.moment (ap (option_map moment_of) is) (omega (arith, late)) (inr stands))
    | inr early ↦
        subst (IsAccount stage inputs (Picked pick.index) (Some (taken_over pick inner)))
        (cond_above pick.end inner.moment (at_once (Inner pick.place)) (by_action stage (trigger_cause stage inputs)) (by_action stage (trigger_cause stage inputs)) early refl)
        (account_of (Picked pick.index) (taken_over pick inner) (by_action stage (trigger_cause stage inputs)) trigger trigger_tick (omega (arith, ends, early))
        (read_too pick.index (feed_in (trigger_cause stage inputs)) trigger_read))
  ]

  progress_account : (last : ℕ) (progress : Progress) → IsTimed stage trigger progress → IsFair stage last progress
      → IsAccount stage inputs (read_on progress) (finished inputs progress) (reason_on stage inputs progress)
  progress_account last Waits timed fair = waits_account (first_pending inputs stage.sources) (pending_in stage.sources)
  progress_account last (Completes done) timed fair = trigger_account done done.start timed
  progress_account last (Awaits pick) timed fair = picked_account pick fair.0 timed (source_at inputs pick.place) refl

  -- ---- after its pins

  result_account : (outcome : Outcome) (reads : Reads) (natural : Option Done) (reason : Reason) → IsAccount stage inputs reads natural reason
      → IsAccount stage inputs (read_with_pins (Some outcome) None reads) (with_pins (Some outcome) None natural) reason
  result_account outcome reads None reason account = record { adds_up = account.adds_up; read = account.read; alike = account.alike }
  result_account outcome reads (Some done) reason account = record { adds_up = account.adds_up; read = account.read; alike = account.alike }

  moment_account : (moment : ℕ) → stage.pin_moment ≡ Some moment → (reads : Reads) (natural : Option Done) (reason : Reason) → IsAccount stage inputs reads natural reason
      → IsAccount stage inputs reads (with_pins None (Some moment) natural) (with_pins_reason None (Some moment) natural reason)
  moment_account moment pin reads None reason account = account
  moment_account moment pin reads (Some done) reason account = account_of reads _ (at_once Pinned) moment pin (omega arith) tt

  pinned_account : (result : Option Outcome) (pin : Option ℕ) → stage.pin_moment ≡ pin → (reads : Reads) (natural : Option Done) (reason : Reason) → IsAccount stage inputs reads natural reason
      → IsAccount stage inputs (read_with_pins result pin reads) (with_pins result pin natural) (with_pins_reason result pin natural reason)
  pinned_account None None pin reads natural reason account = account
  pinned_account (Some outcome) None pin reads natural reason account = result_account outcome reads natural reason account
  pinned_account None (Some moment) pin reads natural reason account = moment_account moment pin reads natural reason account
  pinned_account (Some outcome) (Some moment) pin reads natural reason account = account_of Nothing _ (at_once Pinned) moment pin (omega arith) tt

-- ---- after its ends

-- the earliest of a list of mapped elements
sooner_map : {A B : Type 0} (f : A → B) (moment : B → ℕ) (first : A) (rest : Option A) → f (sooner (λ x. moment (f x)) first rest) ≡ sooner moment (f first) (option_map f rest)
sooner_map f moment first None = refl
sooner_map f moment first (Some other) = either (nat_lt (moment (f other)) (moment (f first))) where
  either : (b : Bool) → f (cond b other first) ≡ cond b (f other) (f first)
  either true = refl
  either false = refl

earliest_map : {A B : Type 0} (f : A → B) (moment : B → ℕ) (items : List A) → option_map f (earliest (λ x. moment (f x)) items) ≡ earliest moment (map f items)
earliest_map f moment [] = refl
earliest_map f moment (first ∷ items) =
    ap (λ x. Some x) (sooner_map f moment first (earliest (λ x. moment (f x)) items)) ∙ ap (λ rest. Some (sooner moment (f first) rest)) (earliest_map f moment items)

set_done : (index : ℕ) (ends : List End) → map explained_done (set_from index ends) ≡ map set_by ends
set_done index [] = refl
set_done index (end ∷ ends) = ap (λ others. set_by end ∷ others) (set_done (index + 1) ends)

candidates_done : (completion : Option Done) (reason : Reason) (ends : List End) → map explained_done (candidates completion reason ends) ≡ option_to_list completion ++ map set_by ends
candidates_done None reason ends = set_done 0 ends
candidates_done (Some done) reason ends = ap (λ others. done ∷ others) (set_done 0 ends)

ended_told : (stage : Stage) (completion : Option Done) (reason : Reason)
    → option_map explained_done (earliest explained_moment (candidates completion reason stage.ends)) ≡ ended stage completion
ended_told stage completion reason =
    earliest_map explained_done done_moment (candidates completion reason stage.ends) ∙ ap (earliest done_moment) (candidates_done completion reason stage.ends)

module _ (stage : Stage) (inputs : ℕ → Option Completion) (reads : Reads) where
  abbrev Explains : Explained → Type 0
  Explains one = IsAccount stage inputs reads (Some one.done) one.reason

  end_explains : (index : ℕ) (end : End) → slice_get stage.ends index ≡ Some end → Explains (explained (at_once (Ended index)) (set_by end))
  end_explains index end stands = account_of stage inputs reads (set_by end) (at_once (Ended index)) (acts_at end) (ap (option_map acts_at) stands) (omega arith) tt

  each_set : (index : ℕ) (ends : List End) → ((i : ℕ) (end : End) → slice_get ends i ≡ Some end → slice_get stage.ends (index + i) ≡ Some end)
      → (one : Explained) → Contains (set_from index ends) one → Explains one
  each_set index [] stand one (k, within, at) = absurd (omega arith)
  each_set index (end ∷ ends) stand one (zero, within, at) =
      let first : index + 0 ≡ index = omega arith in
      subst Explains at (end_explains index end (ap (slice_get stage.ends) (sym first) ∙ stand 0 end refl))
  each_set index (end ∷ ends) stand one (suc k, within, at) =
      each_set (index + 1) ends
      (λ i other is. let next : index + 1 + i ≡ index + suc i = omega arith in ap (slice_get stage.ends) next ∙ stand (suc i) other is)
      one (k, omega arith, at)

  all_set : (one : Explained) → Contains (set_from 0 stage.ends) one → Explains one
  all_set one among = each_set 0 stage.ends (λ i end is. let same : 0 + i ≡ i = omega arith in ap (slice_get stage.ends) same ∙ is) one among

  each_candidate : (completion : Option Done) (reason : Reason) → IsAccount stage inputs reads completion reason
      → (one : Explained) → Contains (candidates completion reason stage.ends) one → Explains one
  each_candidate None reason account one among = all_set one among
  each_candidate (Some done) reason account one (zero, within, at) = subst Explains at account
  each_candidate (Some done) reason account one (suc k, within, at) = all_set one (k, omega arith, at)

  one_of : (items : List Explained) (found : Option Explained) → IfSome found (Contains items) → ((one : Explained) → Contains items one → Explains one) → IfSome found Explains
  one_of items None among each = tt
  one_of items (Some one) among each = each one among

  by_found : (completion : Option Done) (reason : Reason) → IsAccount stage inputs reads completion reason
      → (found : Option Explained) → earliest explained_moment (candidates completion reason stage.ends) ≡ found → IfSome found Explains
      → IsAccount stage inputs reads (option_map explained_done found) (reason_or reason found)
  by_found completion reason account (Some one) is explains = explains
  by_found None reason account None is explains = account
  by_found (Some done) reason account None is explains = cc

  ended_account : (completion : Option Done) (reason : Reason) → IsAccount stage inputs reads completion reason
      → IsAccount stage inputs reads (ended stage completion) (ended_reason stage.ends completion reason)
  ended_account completion reason account =
      let found = earliest explained_moment (candidates completion reason stage.ends) in
      subst (λ (done : Option Done). IsAccount stage inputs reads done (reason_or reason found)) (ended_told stage completion reason)
      (by_found completion reason account found refl
      (one_of (candidates completion reason stage.ends) found (earliest_in explained_moment (candidates completion reason stage.ends)) (each_candidate completion reason account)))

pub each_accounts : EachAccounts
each_accounts mode stage inputs =
    let progress = progress_of stage.op mode stage inputs in
    let natural_account = progress_account stage inputs (last_moment stage inputs) progress (is_timed mode stage inputs stage.op) (is_fair mode stage inputs stage.op) in
    ended_account stage inputs (read_with_pins stage.pin_result stage.pin_moment (read_on progress))
    (with_pins stage.pin_result stage.pin_moment (natural mode stage inputs)) (with_pins_reason stage.pin_result stage.pin_moment (natural mode stage inputs) (natural_reason mode stage inputs))
    (pinned_account stage inputs stage.pin_result stage.pin_moment refl (read_on progress) (natural mode stage inputs) (natural_reason mode stage inputs) natural_account)

-- ---- what holds of each possible cause

module _ (mode : Mode) (stage : Stage) (inputs : ℕ → Option Completion) (P : Cause → Type 0)
    (by_trigger : P (trigger_cause stage inputs)) (taken : (place : ℕ) → P (Inner place)) (pinned : P Pinned) (ended : (index : ℕ) → P (Ended index))
    (waiting : (place : ℕ) → P (Waiting place)) (of_open : progress_of stage.op mode stage inputs ≡ Waits → first_pending inputs stage.sources ≡ None → P Open) where
  of_pending : progress_of stage.op mode stage inputs ≡ Waits → (found : Option ℕ) → first_pending inputs stage.sources ≡ found → P (pending_on found)
  of_pending waits None none = of_open waits none
  of_pending waits (Some place) some = waiting place

  of_start : (start : Option ℕ) → P (since_trigger stage (trigger_cause stage inputs) start).cause
  of_start None = by_trigger
  of_start (Some start) = by_trigger

  of_either : (b : Bool) (place : ℕ) → P (cond b (at_once (Inner place)) (by_action stage (trigger_cause stage inputs))).cause
  of_either true place = taken place
  of_either false place = by_trigger

  of_pick : (pick : Pick) (inner : Option Source) → P (since_pick stage (trigger_cause stage inputs) pick inner).cause
  of_pick pick None = waiting pick.place
  of_pick pick (Some inner) = of_either (nat_lt pick.end inner.moment) pick.place

  of_progress : (progress : Progress) → progress_of stage.op mode stage inputs ≡ progress → P (reason_on stage inputs progress).cause
  of_progress Waits is = of_pending is (first_pending inputs stage.sources) refl
  of_progress (Completes done) is = of_start done.start
  of_progress (Awaits pick) is = of_pick pick (source_at inputs pick.place)

  of_pins : (result : Option Outcome) (pin : Option ℕ) (natural : Option Done) (reason : Reason) → P reason.cause → P (with_pins_reason result pin natural reason).cause
  of_pins None None natural reason own = own
  of_pins (Some outcome) None natural reason own = own
  of_pins None (Some moment) None reason own = own
  of_pins None (Some moment) (Some done) reason own = pinned
  of_pins (Some outcome) (Some moment) natural reason own = pinned

  of_set : (index : ℕ) (ends : List End) (one : Explained) → Contains (set_from index ends) one → P one.reason.cause
  of_set index [] one (k, within, at) = absurd (omega arith)
  of_set index (end ∷ ends) one (zero, within, at) = subst (λ (one : Explained). P one.reason.cause) at (ended index)
  of_set index (end ∷ ends) one (suc k, within, at) = of_set (index + 1) ends one (k, omega arith, at)

  of_candidate : (completion : Option Done) (reason : Reason) (ends : List End) → P reason.cause → (one : Explained) → Contains (candidates completion reason ends) one → P one.reason.cause
  of_candidate None reason ends own one among = of_set 0 ends one among
  of_candidate (Some done) reason ends own one (zero, within, at) = subst (λ (one : Explained). P one.reason.cause) at own
  of_candidate (Some done) reason ends own one (suc k, within, at) = of_set 0 ends one (k, omega arith, at)

  of_found : (items : List Explained) (found : Option Explained) (reason : Reason) → IfSome found (Contains items) → ((one : Explained) → Contains items one → P one.reason.cause)
      → P reason.cause → P (reason_or reason found).cause
  of_found items None reason among each own = own
  of_found items (Some one) reason among each own = each one among

  of_ends : (completion : Option Done) (reason : Reason) → P reason.cause → P (ended_reason stage.ends completion reason).cause
  of_ends completion reason own =
      of_found (candidates completion reason stage.ends) (earliest explained_moment (candidates completion reason stage.ends)) reason
      (earliest_in explained_moment (candidates completion reason stage.ends)) (of_candidate completion reason stage.ends own) own

  pub each_cause : P (reason mode stage inputs).cause
  each_cause =
      of_ends (with_pins stage.pin_result stage.pin_moment (natural mode stage inputs)) (with_pins_reason stage.pin_result stage.pin_moment (natural mode stage inputs) (natural_reason mode stage inputs))
      (of_pins stage.pin_result stage.pin_moment (natural mode stage inputs) (natural_reason mode stage inputs) (of_progress (progress_of stage.op mode stage inputs) refl))

-- ---- nothing that a stage waited for came later than its trigger

module _ (stage : Stage) (inputs : ℕ → Option Completion) where
  all_by : (tick : ℕ) → latest stage.created (waited stage inputs) ≡ tick → All (λ source. source.moment ≤ tick) (waited stage inputs)
  all_by tick is =
      All-contains_each (λ source. source.moment ≤ tick) (waited stage inputs)
      (λ source among. let above : source.moment ≤ latest stage.created (waited stage inputs) = latest_above stage.created (waited stage inputs) source among in omega (arith, above, is))

  latest_by_found : (found : Option Source) → first_at (trigger stage inputs) (waited stage inputs) ≡ found → IfSome found (IsAt (trigger stage inputs) (waited stage inputs))
      → IsLatest stage inputs (triggered_by found)
  latest_by_found None none here = all_by stage.created (none_at_latest stage.created (waited stage inputs) none)
  latest_by_found (Some source) is (among, at) =
      subst (λ (last : Option Source). IfSome last (λ last. (stage.created ≤ last.moment) × All (λ source. source.moment ≤ last.moment) (waited stage inputs)))
      (sym (completed_shown inputs stage.sources source (waited_in stage.op stage inputs source among)))
      (let from : stage.created ≤ latest stage.created (waited stage inputs) = latest_from stage.created (waited stage inputs) in omega (arith, from, at), all_by source.moment (sym at))

pub each_is_latest : EachIsLatest
each_is_latest mode stage inputs =
    each_cause mode stage inputs (IsLatest stage inputs)
    (latest_by_found stage inputs (first_at (trigger stage inputs) (waited stage inputs)) refl (first_at_is (trigger stage inputs) (waited stage inputs)))
    (λ place. tt) tt (λ index. tt) (λ place. tt) (λ waits none. tt)
