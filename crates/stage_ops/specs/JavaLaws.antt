-- The laws of the completion stage's operations.
use Rattle.std.proofs.Common.{ℕ, suc, zero, ◌+◌, ◌^◌, ◌≤◌, ◌≡◌, inl, inr, List, [], ◌∷◌, ◌++◌, Option, Some, None, refl, ap, ◌∙◌, subst, arith}
use Rattle.std.specs.Prelude.{Contains, IfSome, map}
use Rattle.std.specs.Option.{option_map, option_to_list}
use Rattle.std.proofs.lemmas.List.Elements.{All-contains}
use Rattle.act_expr.specs.declared.outcome.Mode.{Mode}
use Rattle.act_expr.specs.declared.outcome.Outcome.{Outcome}
use Rattle.act_expr.specs.declared.outcome.Outcome.TheVariants.{Value as Normal, Bare, Wrapped}
use Rattle.stage_graph.specs.declared.end.End.{End}
use Rattle.stage_graph.specs.declared.stage.Stage.{Stage}
use Rattle.stage_ops.specs.Among.{IsLimited, IsEarlyEnd}
use Rattle.stage_ops.specs.AmongLaws.{limits}
use Rattle.stage_ops.specs.declared.state.State.{State}
use Rattle.stage_ops.specs.declared.state.Done.{Done}
use Rattle.stage_ops.specs.declared.state.Reads.{Reads}
use Rattle.stage_ops.specs.declared.natural.Pick.{Pick}
use Rattle.stage_ops.specs.declared.natural.Progress.{Progress}
use Rattle.stage_ops.specs.declared.natural.Progress.TheVariants.{Waits, Completes, Awaits}
use Rattle.stage_ops.specs.States.{Completion, seen, IsReadBy, IsBy}
use Rattle.stage_ops.specs.Earliest.{earliest}
use Rattle.stage_ops.specs.Evaluation.{ReadsDecide, BlamesRead, ReadBy, IsSoon, IsPrompt}
use Rattle.stage_ops.specs.Sources.{source_of}
use Rattle.stage_ops.specs.SourceLaws.{earliest_in, latest_by}
use Rattle.stage_ops.specs.Natural.{progress_of, finished, taken_over, blamed}
use Rattle.stage_ops.specs.ProgressLaws.{IsFair, is_fair, same_progress, last_moment}
use Rattle.stage_ops.specs.Java.{java_step}
use Rattle.stage_ops.specs.Pinned.{with_pins}
use Rattle.stage_ops.specs.Ended.{set_by, done_moment, ended}
use Rattle.stage_ops.specs.Reads.{read_on, read_with_pins}

-- what holds of a completion, and of what each end sets, holds of the earliest of them
module _ (P : Done → Type 0) where
  each_end : (ends : List End) → ((end : End) → Contains ends end → P (set_by end)) → (done : Done) → Contains (map set_by ends) done → P done
  each_end [] each done (k, within, at) = absurd (omega arith)
  each_end (end ∷ ends) each done (zero, within, at) = subst P at (each end (0, omega arith, refl))
  each_end (end ∷ ends) each done (suc k, within, at) = each_end ends (λ end (k, within, at). each end (suc k, omega arith, at)) done (k, omega arith, at)

  each_candidate : (completion : Option Done) (ends : List End) → IfSome completion P → ((end : End) → Contains ends end → P (set_by end))
      → (done : Done) → Contains (option_to_list completion ++ map set_by ends) done → P done
  each_candidate None ends here each done among = each_end ends each done among
  each_candidate (Some first) ends here each done (zero, within, at) = subst P at here
  each_candidate (Some first) ends here each done (suc k, within, at) = each_end ends each done (k, omega arith, at)

  found : (items : List Done) (earliest : Option Done) → IfSome earliest (Contains items) → ((done : Done) → Contains items done → P done) → IfSome earliest P
  found items None here each = tt
  found items (Some done) here each = each done here

  ended_keeps : (stage : Stage) (completion : Option Done) → IfSome completion P → ((end : End) → Contains stage.ends end → P (set_by end)) → IfSome (ended stage completion) P
  ended_keeps stage completion here each =
      found (option_to_list completion ++ map set_by stage.ends) (earliest done_moment (option_to_list completion ++ map set_by stage.ends))
      (earliest_in done_moment (option_to_list completion ++ map set_by stage.ends)) (each_candidate completion stage.ends here each)

-- an operation that reads anything reads its sources
sources_read : (stage : Stage) (progress : Progress) (feed : ℕ) → Contains stage.sources feed → IsReadBy stage (read_on progress) feed
sources_read stage Waits feed here = here
sources_read stage (Completes done) feed here = here
sources_read stage (Awaits pick) feed here = inl here

-- Inputs that agree on what is read.
abbrev state_by : Stage → Option Outcome → Option ℕ → Option Done → Progress → State
state_by stage result moment natural progress =
    record { done = ended stage (with_pins result moment natural); reads = read_with_pins result moment (read_on progress) }

module _ (mode : Mode) (stage : Stage) (inputs others : ℕ → Option Completion) where
  finished_same : (last : ℕ) (progress : Progress) → IsFair stage last progress → ((feed : ℕ) → IsReadBy stage (read_on progress) feed → inputs feed ≡ others feed)
      → finished inputs progress ≡ finished others progress
  finished_same last Waits fair agree = refl
  finished_same last (Completes done) fair agree = refl
  finished_same last (Awaits pick) fair agree =
      ap (λ completion. option_map (taken_over pick) (option_map (source_of pick.place) completion)) (agree pick.place (inr fair.0))

  decide_read : ((feed : ℕ) → IsReadBy stage (read_on (progress_of stage.op mode stage inputs)) feed → inputs feed ≡ others feed) → (result : Option Outcome) (moment : Option ℕ)
      → state_by stage result moment (finished inputs (progress_of stage.op mode stage inputs)) (progress_of stage.op mode stage inputs)
      ≡ state_by stage result moment (finished others (progress_of stage.op mode stage others)) (progress_of stage.op mode stage others)
  decide_read agree result moment =
      ap (λ natural. state_by stage result moment natural (progress_of stage.op mode stage inputs))
      (finished_same (last_moment stage inputs) (progress_of stage.op mode stage inputs) (is_fair mode stage inputs stage.op) agree)
      ∙ ap (λ progress. state_by stage result moment (finished others progress) progress)
      (same_progress mode stage inputs others (λ place among. agree place (sources_read stage (progress_of stage.op mode stage inputs) place among)) stage.op)

  decide : (result : Option Outcome) (moment : Option ℕ)
      → ((feed : ℕ) → IsReadBy stage (read_with_pins result moment (read_on (progress_of stage.op mode stage inputs))) feed → inputs feed ≡ others feed)
      → state_by stage result moment (finished inputs (progress_of stage.op mode stage inputs)) (progress_of stage.op mode stage inputs)
      ≡ state_by stage result moment (finished others (progress_of stage.op mode stage others)) (progress_of stage.op mode stage others)
  decide None None agree = decide_read agree None None
  decide (Some outcome) None agree = decide_read agree (Some outcome) None
  decide None (Some moment) agree = decide_read agree None (Some moment)
  decide (Some outcome) (Some moment) agree = refl

pub java_reads_decide : (mode : Mode) → ReadsDecide (java_step mode)
java_reads_decide mode stage inputs others agree = decide mode stage inputs others stage.pin_result stage.pin_moment agree

-- The blamed source was read.
module _ (stage : Stage) where
  abbrev Blames : Reads → Done → Type 0
  Blames reads done = IfSome done.from (IsReadBy stage reads)

  blames_inner : (pick : Pick) (outcome : Outcome) → IsReadBy stage (read_on (Awaits pick)) pick.place → IfSome (blamed pick.place outcome) (IsReadBy stage (read_on (Awaits pick)))
  blames_inner pick (Normal value) read = tt
  blames_inner pick (Bare name) read = read
  blames_inner pick (Wrapped name) read = read

  blames_taken : (pick : Pick) (completion : Option Completion) → IsReadBy stage (read_on (Awaits pick)) pick.place
      → IfSome (option_map (taken_over pick) (option_map (source_of pick.place) completion)) (Blames (read_on (Awaits pick)))
  blames_taken pick None read = tt
  blames_taken pick (Some completion) read = blames_inner pick completion.outcome read

  blames_natural : (inputs : ℕ → Option Completion) (last : ℕ) (progress : Progress) → IsFair stage last progress → IfSome (finished inputs progress) (Blames (read_on progress))
  blames_natural inputs last Waits fair = tt
  blames_natural inputs last (Completes done) fair = fair.0
  blames_natural inputs last (Awaits pick) fair = blames_taken pick (inputs pick.place) (inr fair.0)

  blames_pinned : (result : Option Outcome) (moment : Option ℕ) (natural : Option Done) (reads : Reads) → IfSome natural (Blames reads)
      → IfSome (with_pins result moment natural) (Blames (read_with_pins result moment reads))
  blames_pinned None None natural reads read = read
  blames_pinned (Some outcome) None None reads read = tt
  blames_pinned (Some outcome) None (Some done) reads read = tt
  blames_pinned None (Some moment) None reads read = tt
  blames_pinned None (Some moment) (Some done) reads read = read
  blames_pinned (Some outcome) (Some moment) natural reads read = tt

pub java_blames_read : (mode : Mode) (stage : Stage) (inputs : ℕ → Option Completion) → BlamesRead stage (java_step mode stage inputs)
java_blames_read mode stage inputs =
    let progress = progress_of stage.op mode stage inputs in
    let natural = finished inputs progress in
    let reads = read_with_pins stage.pin_result stage.pin_moment (read_on progress) in
    ended_keeps (Blames stage reads) stage (with_pins stage.pin_result stage.pin_moment natural)
    (blames_pinned stage stage.pin_result stage.pin_moment natural (read_on progress)
    (blames_natural stage inputs (last_moment stage inputs) progress (is_fair mode stage inputs stage.op)))
    (λ end among. tt)

-- It completes in time.
abbrev IsTimely : ℕ → Done → Type 0
IsTimely bound done = done.moment ≤ bound

timely_seen : (bound : ℕ) (done : Option Done) → IfSome done (IsTimely bound) → IsBy bound (option_map seen done)
timely_seen bound None timely = tt
timely_seen bound (Some done) timely = timely

module _ (mode : Mode) (stage : Stage) (inputs : ℕ → Option Completion) (moment bound : ℕ) (count : ℕ) (limited : IsLimited count stage)
    (late : 2 ^ 40 ≤ moment) (room : moment + stage.queued + stage.runs ≤ bound) (far : 2 ^ 41 ≤ bound) where
  timely_taken : (pick : Pick) (completion : Option Completion) → pick.end ≤ bound → IsBy moment completion
      → IfSome (option_map (taken_over pick) (option_map (source_of pick.place) completion)) (IsTimely bound)
  timely_taken pick None early by = tt
  timely_taken pick (Some completion) early by = omega arith

  timely_natural : (last : ℕ) → last ≤ moment → (progress : Progress) → IsFair stage last progress
      → ((feed : ℕ) → IsReadBy stage (read_on progress) feed → IsBy moment (inputs feed)) → IfSome (finished inputs progress) (IsTimely bound)
  timely_natural last upto Waits fair by = tt
  timely_natural last upto (Completes done) fair by = omega (arith, fair.1)
  timely_natural last upto (Awaits pick) fair by = timely_taken pick (inputs pick.place) (omega (arith, fair.1)) (by pick.place (inr fair.0))

  timely_read : ((feed : ℕ) → IsReadBy stage (read_on (progress_of stage.op mode stage inputs)) feed → IsBy moment (inputs feed))
      → IfSome (finished inputs (progress_of stage.op mode stage inputs)) (IsTimely bound)
  timely_read by =
      let progress = progress_of stage.op mode stage inputs in
      let early : stage.created ≤ moment = omega (arith, limited.created) in
      timely_natural (last_moment stage inputs)
      (latest_by inputs moment stage.created early stage.sources (λ place among. by place (sources_read stage progress place among)))
      progress (is_fair mode stage inputs stage.op) by

  timely_result : (outcome : Outcome) (natural : Option Done) → IfSome natural (IsTimely bound) → IfSome (with_pins (Some outcome) None natural) (IsTimely bound)
  timely_result outcome None timely = tt
  timely_result outcome (Some done) timely = timely

  timely_moment : (pin : ℕ) (natural : Option Done) → pin ≤ 2 ^ 40 → IfSome (with_pins None (Some pin) natural) (IsTimely bound)
  timely_moment pin None early = tt
  timely_moment pin (Some done) early = omega arith

  timely_pinned : (result : Option Outcome) (pin : Option ℕ) → ((moment : ℕ) → pin ≡ Some moment → moment ≤ 2 ^ 40)
      → ((feed : ℕ) → IsReadBy stage (read_with_pins result pin (read_on (progress_of stage.op mode stage inputs))) feed → IsBy moment (inputs feed))
      → IfSome (with_pins result pin (finished inputs (progress_of stage.op mode stage inputs))) (IsTimely bound)
  timely_pinned None None early by = timely_read by
  timely_pinned (Some outcome) None early by = timely_result outcome (finished inputs (progress_of stage.op mode stage inputs)) (timely_read by)
  timely_pinned None (Some pin) early by = timely_moment pin (finished inputs (progress_of stage.op mode stage inputs)) (early pin refl)
  timely_pinned (Some outcome) (Some pin) early by = let soon : pin ≤ 2 ^ 40 = early pin refl in omega arith

  timely_end : (end : End) → Contains stage.ends end → IsTimely bound (set_by end)
  timely_end end among = let early : IsEarlyEnd end = All-contains IsEarlyEnd stage.ends end limited.ends among in omega (arith, early.at, early.delay)

  in_time : ReadBy (java_step mode) stage inputs moment → IsBy bound (option_map seen (java_step mode stage inputs).done)
  in_time by =
      timely_seen bound (java_step mode stage inputs).done
      (ended_keeps (IsTimely bound) stage (with_pins stage.pin_result stage.pin_moment (finished inputs (progress_of stage.op mode stage inputs)))
      (timely_pinned stage.pin_result stage.pin_moment limited.pinned by) timely_end)

pub java_soon : (mode : Mode) → IsSoon (java_step mode)
java_soon mode count stage inputs moment sound late by =
    let limited = limits count stage sound in
    in_time mode stage inputs moment (moment + 2 ^ 41) count limited late (omega (arith, limited.queued, limited.runs)) (omega arith) by

pub java_prompt : (mode : Mode) → IsPrompt (java_step mode)
java_prompt mode count stage inputs moment sound idle late by =
    let limited = limits count stage sound in
    in_time mode stage inputs moment (moment + 2 ^ 40) count limited late (omega (arith, idle, limited.runs)) (omega arith) by
