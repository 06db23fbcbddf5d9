-- What is told of each end is true of its stage's completion.
use Rattle.std.proofs.Common.{◌≡◌, ℕ, suc, ◌+◌, ◌-◌, ◌≤◌, Bool, true, false, not, ◌&&◌, cond, List, [], ◌∷◌, ◌++◌, Option, Some, None, refl, sym, ap, ◌∙◌, subst, arith, map}
use Rattle.std.specs.Prelude.{All, IfSome, slice_get, nat_le}
use Rattle.std.specs.Option.{option_map, option_to_list}
use Rattle.std.specs.List.{flat_map}
use Rattle.std.proofs.lemmas.Bool.{eqb-true}
use Rattle.std.proofs.lemmas.List.Elements.{All-append, All-cons, All-head, All-nil, All-tail}
use Rattle.stage_graph.specs.declared.end.Act.{Act}
use Rattle.stage_graph.specs.declared.end.Act.TheVariants.{Complete, CompleteExceptionally, Cancel, OrTimeout, CompleteOnTimeout}
use Rattle.stage_graph.specs.declared.end.End.{End}
use Rattle.stage_graph.specs.declared.stage.Stage.{Stage}
use Rattle.stage_graph.specs.Plain.{PlainGraph, all_places, stage_at}
use Rattle.stage_graph.specs.Walk.{IsRanked}
use Rattle.stage_ops.specs.declared.reason.Cause.{Cause}
use Rattle.stage_ops.specs.declared.reason.Cause.TheVariants.{Created, After, Inner, Pinned, Ended, Waiting, Open}
use Rattle.stage_ops.specs.declared.reason.Reason.{Reason}
use Rattle.stage_ops.specs.declared.state.Done.{Done}
use Rattle.stage_ops.specs.Earliest.{IsEarliest}
use Rattle.stage_ops.specs.Ended.{acts_at, done_moment, ended, set_by}
use Rattle.stage_ops.specs.Natural.{natural}
use Rattle.stage_ops.specs.Pinned.{pinned}
use Rattle.stage_ops.specs.Reasons.{later_by, reason, tick_of}
use Rattle.stage_ops.specs.States.{Completion, seen_at}
use Rattle.stage_ops.proofs.Accounting.{each_accounts}
use Rattle.stage_ops.proofs.EarliestLemmas.{is_earliest}
use Rattle.scratch_eval.specs.Path.{reason_at, reason_in, reason_of_place}
use Rattle.version_store.specs.Queries.{moment_in, state_of}
use Rattle.stage_ends.specs.declared.completed.Completed.{Completed}
use Rattle.stage_ends.specs.declared.fate.Fate.TheVariants.{Struck, CutOff}
use Rattle.stage_ends.specs.Ends.{completed_when, end_fate, ends, fate_of, fates_at, fates_from, fates_in, fates_of, has_ended, has_struck, is_under_way, missed, struck, trigger_of}
use Rattle.stage_ends.specs.Told.{IsTold, IsTrueAt}
use Rattle.stage_ends.proofs.Placing.{done_at}

-- ---- no end acts before the completion

All-right : {X : Type 0} (P : X → Type 0) (xs ys : List X) → All P (xs ++ ys) → All P ys
All-right P [] ys all = all
All-right P (x ∷ xs) ys all = All-right P xs ys (All-tail P x (xs ++ ys) all)

All-mapped : {X Y : Type 0} (P : Y → Type 0) (f : X → Y) (xs : List X) → All P (map f xs) → All (λ x. P (f x)) xs
All-mapped P f [] all = All-nil (λ x. P (f x))
All-mapped P f (x ∷ xs) all = All-cons (λ x. P (f x)) x xs (All-head P (f x) (map f xs) all) (All-mapped P f xs (All-tail P (f x) (map f xs) all))

none_before : (stage : Stage) (completion : Option Done) (done : Done) → ended stage completion ≡ Some done → All (λ end. done.moment ≤ acts_at end) stage.ends
none_before stage completion done is =
    let found : IsEarliest done_moment (option_to_list completion ++ map set_by stage.ends) done =
    subst (λ (one : Option Done). IfSome one (IsEarliest done_moment (option_to_list completion ++ map set_by stage.ends))) is
    (is_earliest done_moment (option_to_list completion ++ map set_by stage.ends)) in
    All-mapped (λ (other : Done). done.moment ≤ other.moment) set_by stage.ends
    (All-right (λ (other : Done). done.moment ≤ other.moment) (option_to_list completion) (map set_by stage.ends) found.least)

-- ---- an end that is the cause acts no later than the completion

struck_cause : (cause : Cause) (index : ℕ) → has_struck cause index ≡ true → cause ≡ Ended index
struck_cause Created index has = cc
struck_cause (After place) index has = cc
struck_cause (Inner place) index has = cc
struck_cause Pinned index has = cc
struck_cause (Ended other) index has = ap Ended (eqb-true other index has)
struck_cause (Waiting place) index has = cc
struck_cause Open index has = cc

acts_by : (stage : Stage) (inputs : ℕ → Option Completion) (done : Done) (reason : Reason) (index : ℕ) (end : End)
    → option_map done_moment (Some done) ≡ option_map (later_by reason) (tick_of stage inputs reason.cause) → reason.cause ≡ Ended index → slice_get stage.ends index ≡ Some end
    → acts_at end ≤ done.moment
acts_by stage inputs done reason index end adds_up cause stands =
    let told : Some done.moment ≡ Some (acts_at end + reason.queued + reason.ran) =
    adds_up ∙ ap (λ (cause : Cause). option_map (later_by reason) (tick_of stage inputs cause)) cause ∙ ap (λ (end : Option End). option_map (later_by reason) (option_map acts_at end)) stands in
    let same : done.moment ≡ acts_at end + reason.queued + reason.ran = cc in
    omega (arith, same)

-- ---- what is told of one end

cut_true : (stage : Stage) (start moment : ℕ) (under_way : Bool) → is_under_way stage start moment ≡ under_way
    → IsTrueAt (Some moment) moment (cond under_way (CutOff (moment - start) stage.runs) Struck)
cut_true stage start moment false is = refl
cut_true stage start moment true is = (refl, not_ended (has_ended stage start moment) (nat_le (trigger_of stage start) moment) refl is) where
  not_ended : (over triggered : Bool) → nat_le (start + stage.runs) moment ≡ over → (triggered && not over) ≡ true → moment - start ≤ stage.runs
  not_ended true true is both = cc
  not_ended true false is both = cc
  not_ended false triggered is both = grind (arith, is)

struck_true : (stage : Stage) (start : Option ℕ) (moment tick : ℕ) → moment ≡ tick → IsTrueAt (Some moment) tick (struck stage start moment)
struck_true stage None moment tick same = ap (λ n. Some n) same
struck_true stage (Some start) moment tick same =
    subst (λ tick. IsTrueAt (Some moment) tick (struck stage (Some start) moment)) same (cut_true stage start moment (is_under_way stage start moment) refl)

missed_true : (act : Act) (moment tick : ℕ) → moment ≤ tick → IsTrueAt (Some moment) tick (missed act (tick - moment))
missed_true act moment tick before = by_act act where
  later : Some (moment + (tick - moment)) ≡ Some tick
  later = let same : moment + (tick - moment) ≡ tick = omega arith in ap (λ n. Some n) same

  by_act : (act : Act) → IsTrueAt (Some moment) tick (missed act (tick - moment))
  by_act (Complete value) = later
  by_act (CompleteExceptionally name) = later
  by_act Cancel = later
  by_act (OrTimeout delay) = later
  by_act (CompleteOnTimeout delay value) = later

fate_true : (stage : Stage) (completed : Completed) (index : ℕ) (act : Act) (tick : ℕ) → completed.moment ≤ tick
    → (completed.cause ≡ Ended index → tick ≤ completed.moment) → IsTrueAt (Some completed.moment) tick (fate_of stage completed index act tick)
fate_true stage completed index act tick before at = either (has_struck completed.cause index) refl where
  either : (b : Bool) → has_struck completed.cause index ≡ b
      → IsTrueAt (Some completed.moment) tick (cond b (struck stage completed.start completed.moment) (missed act (tick - completed.moment)))
  either true has =
      let by : tick ≤ completed.moment = at (struck_cause completed.cause index has) in
      struck_true stage completed.start completed.moment tick (omega (arith, before, by))
  either false has = missed_true act completed.moment tick before

-- ---- what is told of all of them

module _ (graph : PlainGraph) (ranked : IsRanked graph.places) where
  module _ (place : ℕ) (stage : Stage) (completed : Completed) (then : moment_in (state_of graph place) ≡ Some completed.moment)
      (struck_by : (index : ℕ) (end : End) → completed.cause ≡ Ended index → slice_get stage.ends index ≡ Some end → acts_at end ≤ completed.moment) where
    told_from : (index : ℕ) (ends : List End) → ((i : ℕ) (end : End) → slice_get ends i ≡ Some end → slice_get stage.ends (index + i) ≡ Some end)
        → All (λ end. completed.moment ≤ acts_at end) ends → All (IsTold graph) (fates_from place stage completed index ends)
    told_from index [] stand before = All-nil (IsTold graph)
    told_from index (end ∷ others) stand before =
        let first : index + 0 ≡ index = omega arith in
        let stands : slice_get stage.ends index ≡ Some end = ap (slice_get stage.ends) (sym first) ∙ stand 0 end refl in
        All-cons (IsTold graph) (end_fate place stage completed index end) (fates_from place stage completed (index + 1) others)
        (subst (λ (moment : Option ℕ). IsTrueAt moment (acts_at end) (fate_of stage completed index end.act (acts_at end))) (sym then)
        (fate_true stage completed index end.act (acts_at end) (All-head (λ end. completed.moment ≤ acts_at end) end others before) (λ cause. struck_by index end cause stands)))
        (told_from (index + 1) others
        (λ i other is. let next : index + 1 + i ≡ index + suc i = omega arith in ap (slice_get stage.ends) next ∙ stand (suc i) other is)
        (All-tail (λ end. completed.moment ≤ acts_at end) end others before))

  -- an end that is the cause acts no later than the completion
  struck_at : (place : ℕ) (stage : Stage) → stage_at graph.places place ≡ Some stage → (done : Done) → (state_of graph place).done ≡ Some done
      → (index : ℕ) (end : End) → (reason_at graph place).cause ≡ Ended index → slice_get stage.ends index ≡ Some end → acts_at end ≤ done.moment
  struck_at place stage here done is index end cause stands =
      let inputs = seen_at (state_of graph) in
      let adds_up : option_map done_moment (Some done) ≡ option_map (later_by (reason_in graph stage)) (tick_of stage inputs (reason_in graph stage).cause) =
      ap (option_map done_moment) (sym is ∙ done_at graph ranked place stage here) ∙ (each_accounts graph.mode stage inputs).adds_up in
      acts_by stage inputs done (reason_in graph stage) index end adds_up (ap (λ (one : Option Stage). (reason_of_place graph one).cause) (sym here) ∙ cause) stands

  at_stage_told : (place : ℕ) (stage : Stage) → stage_at graph.places place ≡ Some stage → (done : Option Done) → (state_of graph place).done ≡ done
      → All (IsTold graph) (fates_of place stage (option_map (completed_when graph place) (option_map done_moment done)))
  at_stage_told place stage here None is = All-nil (IsTold graph)
  at_stage_told place stage here (Some done) is =
      told_from place stage (completed_when graph place done.moment) (ap (option_map done_moment) is) (struck_at place stage here done is)
      0 stage.ends (λ i end there. let same : 0 + i ≡ i = omega arith in ap (slice_get stage.ends) same ∙ there)
      (none_before stage (pinned stage (natural graph.mode stage (seen_at (state_of graph)))) done (sym (done_at graph ranked place stage here) ∙ is))

  in_place : (place : ℕ) (here : Option Stage) → stage_at graph.places place ≡ here → All (IsTold graph) (fates_in graph place here)
  in_place place None is = All-nil (IsTold graph)
  in_place place (Some stage) is = at_stage_told place stage is (state_of graph place).done refl

  at_places : (places : List ℕ) → All (IsTold graph) (flat_map (fates_at graph) places)
  at_places [] = All-nil (IsTold graph)
  at_places (place ∷ places) =
      All-append (IsTold graph) (fates_at graph place) (flat_map (fates_at graph) places) (in_place place (stage_at graph.places place) refl) (at_places places)

  pub each_told : All (IsTold graph) (ends graph)
  each_told = at_places (all_places graph.places)
