-- A stage that has neither a pin nor an end hands on how much sooner the last of its sources completes: as far as the stage was created
-- before, and as its other sources had completed before.
use Rattle.std.proofs.Common.{◌≡◌, ℕ, pos, negsuc, ◌+◌, ◌-◌, ◌≤◌, max, min, Bool, true, false, not, cond, List, [], ◌∷◌, ◌++◌, ◌&&◌, Option, Some, None, refl, ap, sym, ◌∙◌, subst, arith, ⊎_elim, filter, is_some, slice_get, map, ◌==◌}
use Rattle.std.specs.List.{cons_option}
use Rattle.std.specs.Option.{option_map, option_and_then, option_to_list}
use Rattle.std.proofs.lemmas.Bool.{cases_Bool, cond-true, cond-false, eqb-true, eq-eqb, or_cases}
use Rattle.act_expr.specs.declared.outcome.Mode.{Mode}
use Rattle.act_expr.specs.declared.outcome.Value.{Value}
use Rattle.act_expr.specs.declared.outcome.Value.TheVariants.{Null, Num}
use Rattle.act_expr.specs.declared.outcome.Outcome.{Outcome}
use Rattle.act_expr.specs.declared.outcome.Outcome.TheVariants.{Value as Normal, Bare, Wrapped}
use Rattle.act_expr.specs.declared.expr.Answer.{Answer}
use Rattle.act_expr.specs.declared.expr.Answer.TheVariants.{Gives, Throws}
use Rattle.act_expr.specs.ExceptionName.{null_pointer}
use Rattle.stage_graph.specs.declared.op.Op.{Op}
use Rattle.stage_graph.specs.declared.op.Op.TheVariants.{Async, Manual, Completed, Failed, ThenApply, ThenAccept, ThenRun, Copy, Handle, WhenComplete, Exceptionally, ThenCompose, ExceptionallyCompose, ThenCombine, ThenAcceptBoth, RunAfterBoth, ApplyToEither, AcceptEither, RunAfterEither, AllOf, AnyOf}
use Rattle.stage_graph.specs.declared.stage.Stage.{Stage}
use Rattle.stage_ops.specs.declared.state.Done.{Done}
use Rattle.stage_ops.specs.declared.state.Reads.{Reads}
use Rattle.stage_ops.specs.declared.state.Reads.TheVariants.{Sources}
use Rattle.stage_ops.specs.declared.state.State.{State}
use Rattle.stage_ops.specs.Actions.{answer_of, nothing, one_value, two_values, handed, instead, outcome_of}
use Rattle.stage_ops.specs.AfterAll.{after_all, after_values, unless_failed, value_named}
use Rattle.stage_ops.specs.AfterOne.{after_earliest, after_failure, after_outcome, after_value, decided}
use Rattle.stage_ops.specs.Earliest.{earliest}
use Rattle.stage_ops.specs.Ended.{done_moment, ended, set_by}
use Rattle.stage_ops.specs.Java.{java_step}
use Rattle.stage_ops.specs.Natural.{finished, progress_of}
use Rattle.stage_ops.specs.Picking.{awaits, picked, picks}
use Rattle.stage_ops.specs.Pinned.{with_pins}
use Rattle.stage_ops.specs.Reads.{read_on, read_with_pins}
use Rattle.stage_ops.specs.Running.{after_action, index_out_of_bounds, runs, watched}
use Rattle.stage_ops.specs.Sources.{completed, earliest_failed, has_failed, have_completed, is_exceptional, latest, moment_of, source_at, source_of, value_or_null}
use Rattle.stage_ops.specs.States.{Completion, seen, seen_at, state_at}
use Rattle.stage_ops.specs.Usual.{IsPlain}
use Rattle.rank_order.specs.Lists.{is_among}
use Rattle.time_sweep.specs.Forms.{others, rest_of, takes_one, waits_for_all}
use Rattle.time_sweep.specs.Sooner.{sooner_completion, sooner_done, with_sooner, HandsOn}

-- ---- one progress is another so many ticks sooner

-- It reads as much. Where it reads no more than the sources, it completes so many ticks sooner. P: the type of a progress
abbrev IsSooner : {P : Type 0} → (P → Option Done) → (P → Option Done) → (P → Reads) → ℕ → P → P → Type 0
IsSooner now_done was_done reads ticks now was = (reads now ≡ reads was) × (reads was ≡ Sources → now_done now ≡ option_map (sooner_done ticks) (was_done was))

module _ {P : Type 0} (now_done was_done : P → Option Done) (reads : P → Reads) (ticks : ℕ) where
  moved : (now was now' was' : P) → now ≡ now' → was ≡ was' → IsSooner now_done was_done reads ticks now' was' → IsSooner now_done was_done reads ticks now was
  moved now was now' was' one other sooner = (
    ap reads one ∙ sooner.0 ∙ sym (ap reads other),
    λ read. ap now_done one ∙ sooner.1 (sym (ap reads other) ∙ read) ∙ ap (option_map (sooner_done ticks)) (sym (ap was_done other)),
  )

  either_way : (b : Bool) (now was none : P) → IsSooner now_done was_done reads ticks now was → IsSooner now_done was_done reads ticks none none
      → IsSooner now_done was_done reads ticks (cond b now none) (cond b was none)
  either_way true now was none sooner waits = sooner
  either_way false now was none sooner waits = waits

  if_any : {A : Type 0} (now was : Option A → P) → IsSooner now_done was_done reads ticks (now None) (was None)
      → ((a : A) → IsSooner now_done was_done reads ticks (now (Some a)) (was (Some a))) → (found : Option A) → IsSooner now_done was_done reads ticks (now found) (was found)
  if_any now was none some None = none
  if_any now was none some (Some a) = some a

abbrev done_at : Outcome → Option ℕ → ℕ → Option ℕ → Option Done
done_at outcome from moment start = Some (record { outcome = outcome; moment = moment; from = from; start = start })

-- ---- what an operation makes of a trigger that comes sooner

module _ (mode : Mode) (stage : Stage) (inputs inputs' : ℕ → Option Completion) (ticks : ℕ) where
  sooner_start : (trigger : ℕ) → ticks ≤ trigger → trigger - ticks + stage.queued ≡ trigger + stage.queued - ticks
  sooner_start trigger early = omega arith

  sooner_end : (trigger : ℕ) → ticks ≤ trigger → trigger - ticks + stage.queued + stage.runs ≡ trigger + stage.queued + stage.runs - ticks
  sooner_end trigger early = omega arith

  sooner_action : (trigger : ℕ) (outcome : Outcome) (from : Option ℕ) → ticks ≤ trigger
      → IsSooner (finished inputs') (finished inputs) read_on ticks (after_action stage (trigger - ticks) outcome from) (after_action stage trigger outcome from)
  sooner_action trigger outcome from early = (
    refl,
    λ read.
        ap (λ (moment : ℕ). done_at outcome from moment (Some (trigger - ticks + stage.queued))) (sooner_end trigger early)
        ∙ ap (λ (start : ℕ). done_at outcome from (trigger + stage.queued + stage.runs - ticks) (Some start)) (sooner_start trigger early),
  )

  sooner_runs : (trigger : ℕ) (answer : Answer) → ticks ≤ trigger
      → IsSooner (finished inputs') (finished inputs) read_on ticks (runs mode stage (trigger - ticks) answer) (runs mode stage trigger answer)
  sooner_runs trigger answer early = sooner_action trigger (outcome_of mode answer) None early

  sooner_awaits : (trigger index : ℕ) (place : Option ℕ) → ticks ≤ trigger
      → IsSooner (finished inputs') (finished inputs) read_on ticks (awaits mode stage (trigger - ticks) index place) (awaits mode stage trigger index place)
  sooner_awaits trigger index None early = sooner_runs trigger (Throws index_out_of_bounds) early
  sooner_awaits trigger index (Some place) early = (refl, λ read. cc)

  sooner_picked : (trigger : ℕ) (number : Value) → ticks ≤ trigger
      → IsSooner (finished inputs') (finished inputs) read_on ticks (picked mode stage (trigger - ticks) number) (picked mode stage trigger number)
  sooner_picked trigger Null early = sooner_runs trigger (Throws null_pointer) early
  sooner_picked trigger (Num (negsuc index)) early = sooner_runs trigger (Throws index_out_of_bounds) early
  sooner_picked trigger (Num (pos index)) early = sooner_awaits trigger index (slice_get stage.inner index) early

  sooner_picks : (trigger : ℕ) (answer : Answer) → ticks ≤ trigger
      → IsSooner (finished inputs') (finished inputs) read_on ticks (picks mode stage (trigger - ticks) answer) (picks mode stage trigger answer)
  sooner_picks trigger (Throws name) early = sooner_runs trigger (Throws name) early
  sooner_picks trigger (Gives number) early = sooner_picked trigger number early

  sooner_value : (op : Op) (trigger : ℕ) (value : Value) → ticks ≤ trigger
      → IsSooner (finished inputs') (finished inputs) read_on ticks (after_value op mode stage (trigger - ticks) value) (after_value op mode stage trigger value)
  sooner_value ThenApply trigger value early = sooner_runs trigger (answer_of stage (one_value value)) early
  sooner_value ThenAccept trigger value early = sooner_runs trigger (instead Null (answer_of stage (one_value value))) early
  sooner_value ThenRun trigger value early = sooner_runs trigger (instead Null (answer_of stage nothing)) early
  sooner_value Copy trigger value early = (refl, λ read. refl)
  sooner_value Handle trigger value early = sooner_runs trigger (answer_of stage (one_value value)) early
  sooner_value WhenComplete trigger value early = sooner_runs trigger (instead value (answer_of stage (one_value value))) early
  sooner_value Exceptionally trigger value early = (refl, λ read. refl)
  sooner_value ThenCompose trigger value early = sooner_picks trigger (answer_of stage (one_value value)) early
  sooner_value ExceptionallyCompose trigger value early = (refl, λ read. refl)
  sooner_value ApplyToEither trigger value early = sooner_runs trigger (answer_of stage (one_value value)) early
  sooner_value AcceptEither trigger value early = sooner_runs trigger (instead Null (answer_of stage (one_value value))) early
  sooner_value RunAfterEither trigger value early = sooner_runs trigger (instead Null (answer_of stage nothing)) early
  sooner_value AnyOf trigger value early = (refl, λ read. refl)
  sooner_value op trigger value early = (refl, λ read. refl)

  sooner_values : (op : Op) (trigger : ℕ) (first second : Value) → ticks ≤ trigger
      → IsSooner (finished inputs') (finished inputs) read_on ticks (after_values op mode stage (trigger - ticks) first second) (after_values op mode stage trigger first second)
  sooner_values ThenCombine trigger first second early = sooner_runs trigger (answer_of stage (two_values first second)) early
  sooner_values ThenAcceptBoth trigger first second early = sooner_runs trigger (instead Null (answer_of stage (two_values first second))) early
  sooner_values RunAfterBoth trigger first second early = sooner_runs trigger (instead Null (answer_of stage nothing)) early
  sooner_values AllOf trigger first second early = (refl, λ read. refl)
  sooner_values op trigger first second early = (refl, λ read. refl)

  -- the source that decides completes by some ticks sooner itself
  module _ (place : ℕ) (completion : Completion) (gain : ℕ) where
    sooner_failure : (op : Op) (trigger : ℕ) → ticks ≤ trigger
        → IsSooner (finished inputs') (finished inputs) read_on ticks (after_failure op mode stage (trigger - ticks) (source_of place (sooner_completion gain completion)))
        (after_failure op mode stage trigger (source_of place completion))
    sooner_failure Handle trigger early = sooner_runs trigger (answer_of stage (handed completion.outcome)) early
    sooner_failure WhenComplete trigger early = sooner_action trigger (watched mode completion.outcome) (Some place) early
    sooner_failure Exceptionally trigger early = sooner_runs trigger (answer_of stage (handed completion.outcome)) early
    sooner_failure ExceptionallyCompose trigger early = sooner_picks trigger (answer_of stage (handed completion.outcome)) early
    sooner_failure op trigger early = (refl, λ read. refl)

    sooner_outcome : (op : Op) (trigger : ℕ) (outcome : Outcome) → ticks ≤ trigger
        → IsSooner (finished inputs') (finished inputs) read_on ticks (after_outcome op mode stage (trigger - ticks) (source_of place (sooner_completion gain completion)) outcome)
        (after_outcome op mode stage trigger (source_of place completion) outcome)
    sooner_outcome op trigger (Normal value) early = sooner_value op trigger value early
    sooner_outcome op trigger (Bare name) early = sooner_failure op trigger early
    sooner_outcome op trigger (Wrapped name) early = sooner_failure op trigger early

-- ---- what a stage sees of its sources

-- the last of all is the later one of a source and the rest
module _ (created : ℕ) (inputs : ℕ → Option Completion) (feed : ℕ) (completion : Completion) (here : inputs feed ≡ Some completion) where
  -- the last of some places is no later than that of all, and this no later than the one of the source and that
  abbrev IsBetween : ℕ → ℕ → Type 0
  IsBetween rest all = (rest ≤ all) × (all ≤ max completion.moment rest)

  abbrev last_with : ℕ → Option Completion → List ℕ → ℕ
  last_with place found places = latest created (cons_option (option_map (source_of place) found) (completed inputs places))

  one_more : (place : ℕ) (found : Option Completion) (rest all : List ℕ) → IsBetween (latest created (completed inputs rest)) (latest created (completed inputs all))
      → IsBetween (last_with place found rest) (last_with place found all)
  one_more place None rest all between = between
  one_more place (Some source) rest all between = (omega (arith, between.0), omega (arith, between.1))

  itself : (place : ℕ) (places : List ℕ) → place ≡ feed → latest created (completed inputs (place ∷ places)) ≡ max completion.moment (latest created (completed inputs places))
  itself place places same = ap (λ found. last_with place found places) (ap inputs same ∙ here)

  without : (place : ℕ) (places : List ℕ) (b : Bool) → (place == feed) ≡ b
      → rest_of created inputs feed (place ∷ places) ≡ latest created (completed inputs (cond (not b) (place ∷ others feed places) (others feed places)))
  without place places b is = ap (λ same. latest created (completed inputs (cond (not same) (place ∷ others feed places) (others feed places)))) is

  between : (places : List ℕ) → IsBetween (rest_of created inputs feed places) (latest created (completed inputs places))
  between [] = (omega arith, omega arith)
  between (place ∷ places) =
      ⊎_elim
      (λ same.
      let whole = itself place places (eqb-true place feed same) in
      let part = without place places true same in
      let later = between places in
      (omega (arith, whole, part, later.0, later.1), omega (arith, whole, part, later.0, later.1)))
      (λ other.
      let part = without place places false other in
      let more = one_more place (inputs place) (others feed places) places (between places) in
      (omega (arith, part, more.0, more.1), omega (arith, part, more.0, more.1)))
      (cases_Bool (place == feed))

  grows : (place : ℕ) (found : Option Completion) (places : List ℕ) → latest created (completed inputs places) ≤ last_with place found places
  grows place None places = omega arith
  grows place (Some source) places = omega arith

  counts : (places : List ℕ) → is_among feed places ≡ true → completion.moment ≤ latest created (completed inputs places)
  counts [] among = cc
  counts (place ∷ places) among =
      ⊎_elim
      (λ same. let whole = itself place places (sym (eqb-true feed place same)) in omega (arith, whole))
      (λ later. let more = grows place (inputs place) places in omega (arith, more, counts places later))
      (or_cases (feed == place) (is_among feed places) among)

  last_or_rest : (places : List ℕ) → is_among feed places ≡ true → latest created (completed inputs places) ≡ max completion.moment (rest_of created inputs feed places)
  last_or_rest places among = let within = between places in omega (arith, within.0, within.1, counts places among)

module _ (inputs : ℕ → Option Completion) (feed : ℕ) (completion : Completion) (here : inputs feed ≡ Some completion) (ticks : ℕ) where
  abbrev inputs_then : ℕ → Option Completion
  inputs_then = with_sooner ticks feed inputs

  at_feed : (place : ℕ) → (place == feed) ≡ true → inputs_then place ≡ Some (sooner_completion ticks completion)
  at_feed place same =
      cond-true (place == feed) (option_map (sooner_completion ticks) (inputs place)) (inputs place) same
      ∙ ap (option_map (sooner_completion ticks)) (ap inputs (eqb-true place feed same) ∙ here)

  at_other : (place : ℕ) → (place == feed) ≡ false → inputs_then place ≡ inputs place
  at_other place other = cond-false (place == feed) (option_map (sooner_completion ticks) (inputs place)) (inputs place) other

  was_there : (place : ℕ) → (place == feed) ≡ true → inputs place ≡ Some completion
  was_there place same = ap inputs (eqb-true place feed same) ∙ here

  -- the rest stays
  same_others : (places : List ℕ) → completed inputs_then (others feed places) ≡ completed inputs (others feed places)
  same_others [] = refl
  same_others (place ∷ places) =
      ⊎_elim
      (λ same.
      ap (λ b. completed inputs_then (cond (not b) (place ∷ others feed places) (others feed places))) same
      ∙ same_others places
      ∙ sym (ap (λ b. completed inputs (cond (not b) (place ∷ others feed places) (others feed places))) same))
      (λ other.
      ap (λ b. completed inputs_then (cond (not b) (place ∷ others feed places) (others feed places))) other
      ∙ ap (λ found. cons_option (option_map (source_of place) found) (completed inputs_then (others feed places))) (at_other place other)
      ∙ ap (cons_option (source_at inputs place)) (same_others places)
      ∙ sym (ap (λ b. completed inputs (cond (not b) (place ∷ others feed places) (others feed places))) other))
      (cases_Bool (place == feed))

  -- so the last of all comes as much sooner as the source, until it is the rest
  sooner_latest : (created : ℕ) (places : List ℕ) → is_among feed places ≡ true
      → latest created (completed inputs_then places) ≡ latest created (completed inputs places) - min ticks (completion.moment - rest_of created inputs feed places)
  sooner_latest created places among =
      let was = last_or_rest created inputs feed completion here places among in
      let now = last_or_rest created inputs_then feed (sooner_completion ticks completion) (at_feed feed (eq-eqb feed feed refl)) places among in
      let rest = ap (latest created) (same_others places) in
      omega (arith, was, now, rest)

  -- all have completed as before
  found_alike : (place : ℕ) → is_some (source_at inputs_then place) ≡ is_some (source_at inputs place)
  found_alike place =
      ⊎_elim
      (λ same.
      ap (λ found. is_some (option_map (source_of place) found)) (at_feed place same)
      ∙ sym (ap (λ found. is_some (option_map (source_of place) found)) (was_there place same)))
      (λ other. ap (λ found. is_some (option_map (source_of place) found)) (at_other place other))
      (cases_Bool (place == feed))

  all_alike : (places : List ℕ) → have_completed inputs_then places ≡ have_completed inputs places
  all_alike [] = refl
  all_alike (place ∷ places) =
      ap (λ b. b && have_completed inputs_then places) (found_alike place) ∙ ap (λ b. is_some (source_at inputs place) && b) (all_alike places)

  -- each source has the value that it had
  value_alike : (place : ℕ) → value_or_null (source_at inputs_then place) ≡ value_or_null (source_at inputs place)
  value_alike place =
      ⊎_elim
      (λ same.
      ap (λ found. value_or_null (option_map (source_of place) found)) (at_feed place same)
      ∙ sym (ap (λ found. value_or_null (option_map (source_of place) found)) (was_there place same)))
      (λ other. ap (λ found. value_or_null (option_map (source_of place) found)) (at_other place other))
      (cases_Bool (place == feed))

  named_alike : (named : Option ℕ) → value_or_null (option_and_then (source_at inputs_then) named) ≡ value_or_null (option_and_then (source_at inputs) named)
  named_alike None = refl
  named_alike (Some place) = value_alike place

  -- and, where the source has not failed, the failed ones are those that they were
  kept_alike : (place : ℕ) (found : Option Completion) (places : List ℕ) → filter has_failed (completed inputs_then places) ≡ filter has_failed (completed inputs places)
      → filter has_failed (cons_option (option_map (source_of place) found) (completed inputs_then places))
      ≡ filter has_failed (cons_option (option_map (source_of place) found) (completed inputs places))
  kept_alike place None places rest = rest
  kept_alike place (Some source) places rest = ap (λ rest. cond (has_failed (source_of place source)) (source_of place source ∷ rest) rest) rest

  failed_alike : is_exceptional completion.outcome ≡ false → (places : List ℕ) → filter has_failed (completed inputs_then places) ≡ filter has_failed (completed inputs places)
  failed_alike normal [] = refl
  failed_alike normal (place ∷ places) =
      ⊎_elim
      (λ same.
      ap (λ found. filter has_failed (cons_option (option_map (source_of place) found) (completed inputs_then places))) (at_feed place same)
      ∙ ap (λ b. cond b (source_of place (sooner_completion ticks completion) ∷ filter has_failed (completed inputs_then places)) (filter has_failed (completed inputs_then places))) normal
      ∙ failed_alike normal places
      ∙ sym (ap (λ b. cond b (source_of place completion ∷ filter has_failed (completed inputs places)) (filter has_failed (completed inputs places))) normal)
      ∙ sym (ap (λ found. filter has_failed (cons_option (option_map (source_of place) found) (completed inputs places))) (was_there place same)))
      (λ other.
      ap (λ found. filter has_failed (cons_option (option_map (source_of place) found) (completed inputs_then places))) (at_other place other)
      ∙ kept_alike place (inputs place) places (failed_alike normal places))
      (cases_Bool (place == feed))

-- ---- how an operation continues

module _ (mode : Mode) (stage : Stage) (inputs : ℕ → Option Completion) (feed : ℕ) (completion : Completion) (here : inputs feed ≡ Some completion) where
  -- after its only source
  only_source : stage.sources ≡ feed ∷ [] → (op : Op) (ticks : ℕ)
      → IsSooner (finished (with_sooner ticks feed inputs)) (finished inputs) read_on (min ticks (completion.moment - stage.created))
      (after_earliest op mode stage (with_sooner ticks feed inputs)) (after_earliest op mode stage inputs)
  only_source only op ticks =
      let inputs' = with_sooner ticks feed inputs in
      let gain = min ticks (completion.moment - stage.created) in
      let trigger = max stage.created completion.moment in
      let early : min ticks (completion.moment - stage.created) ≤ max stage.created completion.moment = omega arith in
      let sooner : max stage.created (completion.moment - ticks) ≡ max stage.created completion.moment - min ticks (completion.moment - stage.created) = omega arith in
      moved (finished inputs') (finished inputs) read_on gain (after_earliest op mode stage inputs') (after_earliest op mode stage inputs)
      (after_outcome op mode stage (trigger - gain) (source_of feed (sooner_completion ticks completion)) completion.outcome)
      (after_outcome op mode stage trigger (source_of feed completion) completion.outcome)
      (ap (λ sources. decided op mode stage (earliest moment_of (completed inputs' sources))) only
      ∙ ap (λ found. decided op mode stage (earliest moment_of (cons_option (option_map (source_of feed) found) []))) (at_feed inputs feed completion here ticks feed (eq-eqb feed feed refl))
      ∙ ap (λ moment. after_outcome op mode stage moment (source_of feed (sooner_completion ticks completion)) completion.outcome) sooner)
      (ap (λ sources. decided op mode stage (earliest moment_of (completed inputs sources))) only
      ∙ ap (λ found. decided op mode stage (earliest moment_of (cons_option (option_map (source_of feed) found) []))) here)
      (sooner_outcome mode stage inputs inputs' gain feed completion ticks op trigger completion.outcome early)

  -- after all of its sources
  module _ (among : is_among feed stage.sources ≡ true) (normal : is_exceptional completion.outcome ≡ false) where
    abbrev slack : ℕ
    slack = completion.moment - rest_of stage.created inputs feed stage.sources

    abbrev last : ℕ
    last = latest stage.created (completed inputs stage.sources)

    all_normal : (op : Op) (ticks : ℕ)
        → IsSooner (finished (with_sooner ticks feed inputs)) (finished inputs) read_on (min ticks slack)
        (unless_failed op mode stage (with_sooner ticks feed inputs) (last - min ticks slack) None) (unless_failed op mode stage inputs last None)
    all_normal op ticks =
        let inputs' = with_sooner ticks feed inputs in
        let counted = counts stage.created inputs feed completion here stage.sources among in
        let early : min ticks slack ≤ last = omega (arith, counted) in
        moved (finished inputs') (finished inputs) read_on (min ticks slack)
        (unless_failed op mode stage inputs' (last - min ticks slack) None) (unless_failed op mode stage inputs last None)
        (after_values op mode stage (last - min ticks slack) (value_named inputs stage 0) (value_named inputs stage 1))
        (after_values op mode stage last (value_named inputs stage 0) (value_named inputs stage 1))
        (ap (λ first. after_values op mode stage (last - min ticks slack) first (value_named inputs' stage 1)) (named_alike inputs feed completion here ticks (slice_get stage.sources 0))
        ∙ ap (λ second. after_values op mode stage (last - min ticks slack) (value_named inputs stage 0) second) (named_alike inputs feed completion here ticks (slice_get stage.sources 1)))
        refl
        (sooner_values mode stage inputs inputs' (min ticks slack) op last (value_named inputs stage 0) (value_named inputs stage 1) early)

    all_sources : (op : Op) (ticks : ℕ)
        → IsSooner (finished (with_sooner ticks feed inputs)) (finished inputs) read_on (min ticks slack)
        (after_all op mode stage (with_sooner ticks feed inputs)) (after_all op mode stage inputs)
    all_sources op ticks =
        let inputs' = with_sooner ticks feed inputs in
        let gain = min ticks slack in
        let none = progress_of Manual mode stage inputs in
        moved (finished inputs') (finished inputs) read_on gain (after_all op mode stage inputs') (after_all op mode stage inputs)
        (cond (have_completed inputs stage.sources) (unless_failed op mode stage inputs' (last - gain) (earliest_failed (completed inputs stage.sources))) none)
        (cond (have_completed inputs stage.sources) (unless_failed op mode stage inputs last (earliest_failed (completed inputs stage.sources))) none)
        (ap (λ b. cond b (unless_failed op mode stage inputs' (latest stage.created (completed inputs' stage.sources)) (earliest_failed (completed inputs' stage.sources))) none)
        (all_alike inputs feed completion here ticks stage.sources)
        ∙ ap (λ moment. cond (have_completed inputs stage.sources) (unless_failed op mode stage inputs' moment (earliest_failed (completed inputs' stage.sources))) none)
        (sooner_latest inputs feed completion here ticks stage.created stage.sources among)
        ∙ ap (λ failed. cond (have_completed inputs stage.sources) (unless_failed op mode stage inputs' (last - gain) (earliest moment_of failed)) none)
        (failed_alike inputs feed completion here ticks normal stage.sources))
        refl
        (either_way (finished inputs') (finished inputs) read_on gain (have_completed inputs stage.sources)
        (unless_failed op mode stage inputs' (last - gain) (earliest_failed (completed inputs stage.sources)))
        (unless_failed op mode stage inputs last (earliest_failed (completed inputs stage.sources))) none
        (if_any (finished inputs') (finished inputs) read_on gain (unless_failed op mode stage inputs' (last - gain)) (unless_failed op mode stage inputs last)
        (all_normal op ticks) (λ source. (refl, λ read. refl)) (earliest_failed (completed inputs stage.sources)))
        (refl, λ read. refl))

-- ---- the state of the stage

module _ (mode : Mode) (stage : Stage) (plain : IsPlain stage) where
  alone : (done : Option Done) → earliest done_moment (option_to_list done ++ []) ≡ done
  alone None = refl
  alone (Some done) = refl

  plain_done : (done : Option Done) → ended stage (with_pins stage.pin_result stage.pin_moment done) ≡ done
  plain_done done =
      ap (λ ends. earliest done_moment (option_to_list (with_pins stage.pin_result stage.pin_moment done) ++ map set_by ends)) plain.ends
      ∙ ap (λ result. earliest done_moment (option_to_list (with_pins result stage.pin_moment done) ++ [])) plain.result
      ∙ ap (λ moment. earliest done_moment (option_to_list (with_pins None moment done) ++ [])) plain.moment
      ∙ alone done

  plain_reads : (reads : Reads) → read_with_pins stage.pin_result stage.pin_moment reads ≡ reads
  plain_reads reads = ap (λ result. read_with_pins result stage.pin_moment reads) plain.result ∙ ap (λ moment. read_with_pins None moment reads) plain.moment

  state_handed_on : (inputs : ℕ → Option Completion) (feed most : ℕ) → (java_step mode stage inputs).reads ≡ Sources
      → ((ticks : ℕ) → IsSooner (finished (with_sooner ticks feed inputs)) (finished inputs) read_on (min ticks most)
      (progress_of stage.op mode stage (with_sooner ticks feed inputs)) (progress_of stage.op mode stage inputs))
      → HandsOn (java_step mode) stage inputs feed most
  state_handed_on inputs feed most sources hands ticks =
      let inputs' = with_sooner ticks feed inputs in
      let gain = min ticks most in
      let was = progress_of stage.op mode stage inputs in
      let now = progress_of stage.op mode stage inputs' in
      let read : read_on was ≡ Sources = sym (plain_reads (read_on was)) ∙ sources in
      let done : ended stage (with_pins stage.pin_result stage.pin_moment (finished inputs' now)) ≡ option_map (sooner_done gain) (java_step mode stage inputs).done =
      plain_done (finished inputs' now) ∙ (hands ticks).1 read ∙ ap (option_map (sooner_done gain)) (sym (plain_done (finished inputs was))) in
      let reads : (java_step mode stage inputs').reads ≡ (java_step mode stage inputs).reads =
      plain_reads (read_on now) ∙ (hands ticks).0 ∙ sym (plain_reads (read_on was)) in
      λ i. record { done = done i; reads = reads i }

-- ---- by the form of the stage

module _ (mode : Mode) (stage : Stage) (plain : IsPlain stage) (inputs : ℕ → Option Completion) (feed : ℕ) (completion : Completion) (here : inputs feed ≡ Some completion)
    (sources : (java_step mode stage inputs).reads ≡ Sources) where
  -- with one source
  pub by_one : takes_one stage.op ≡ true → stage.sources ≡ feed ∷ [] → HandsOn (java_step mode) stage inputs feed (completion.moment - stage.created)
  by_one takes only = state_handed_on mode stage plain inputs feed (completion.moment - stage.created) sources (λ ticks. of stage.op takes ticks) where
    of : (op : Op) → takes_one op ≡ true → (ticks : ℕ)
        → IsSooner (finished (with_sooner ticks feed inputs)) (finished inputs) read_on (min ticks (completion.moment - stage.created))
        (progress_of op mode stage (with_sooner ticks feed inputs)) (progress_of op mode stage inputs)
    of Async takes ticks = cc
    of Manual takes ticks = cc
    of (Completed value) takes ticks = cc
    of (Failed name) takes ticks = cc
    of ThenCombine takes ticks = cc
    of ThenAcceptBoth takes ticks = cc
    of RunAfterBoth takes ticks = cc
    of AllOf takes ticks = cc
    of op takes ticks = only_source mode stage inputs feed completion here only op ticks

  -- after all of its sources
  pub by_all : waits_for_all stage.op ≡ true → is_among feed stage.sources ≡ true → is_exceptional completion.outcome ≡ false
      → HandsOn (java_step mode) stage inputs feed (completion.moment - rest_of stage.created inputs feed stage.sources)
  by_all waits among normal = state_handed_on mode stage plain inputs feed (completion.moment - rest_of stage.created inputs feed stage.sources) sources (λ ticks. of stage.op waits ticks) where
    of : (op : Op) → waits_for_all op ≡ true → (ticks : ℕ)
        → IsSooner (finished (with_sooner ticks feed inputs)) (finished inputs) read_on (min ticks (completion.moment - rest_of stage.created inputs feed stage.sources))
        (progress_of op mode stage (with_sooner ticks feed inputs)) (progress_of op mode stage inputs)
    of ThenCombine waits ticks = all_sources mode stage inputs feed completion here among normal ThenCombine ticks
    of ThenAcceptBoth waits ticks = all_sources mode stage inputs feed completion here among normal ThenAcceptBoth ticks
    of RunAfterBoth waits ticks = all_sources mode stage inputs feed completion here among normal RunAfterBoth ticks
    of AllOf waits ticks = all_sources mode stage inputs feed completion here among normal AllOf ticks
    of op waits ticks = cc

-- ---- the same of a done source, as a list of states has it

module _ (stage : Stage) (plain : IsPlain stage) (before : List State) (feed : ℕ) (done : Done) (found : Some done ≡ (state_at before feed).done) where
  seen_there : seen_at (state_at before) feed ≡ Some (seen done)
  seen_there = ap (option_map seen) (sym found)

  pub hands_on_only : takes_one stage.op ≡ true → stage.sources ≡ feed ∷ [] → (most : ℕ) → most ≡ done.moment - stage.created
      → (mode : Mode) → (java_step mode stage (seen_at (state_at before))).reads ≡ Sources → HandsOn (java_step mode) stage (seen_at (state_at before)) feed most
  hands_on_only takes only most is mode sources =
      subst (HandsOn (java_step mode) stage (seen_at (state_at before)) feed) (sym is) (by_one mode stage plain (seen_at (state_at before)) feed (seen done) seen_there sources takes only)

  pub hands_on_last : waits_for_all stage.op ≡ true → is_among feed stage.sources ≡ true → is_exceptional done.outcome ≡ false
      → (most : ℕ) → most ≡ done.moment - rest_of stage.created (seen_at (state_at before)) feed stage.sources
      → (mode : Mode) → (java_step mode stage (seen_at (state_at before))).reads ≡ Sources → HandsOn (java_step mode) stage (seen_at (state_at before)) feed most
  hands_on_last waits among normal most is mode sources =
      subst (HandsOn (java_step mode) stage (seen_at (state_at before)) feed) (sym is) (by_all mode stage plain (seen_at (state_at before)) feed (seen done) seen_there sources waits among normal)
