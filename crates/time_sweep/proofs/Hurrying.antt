-- A stage whose action is faster, and the graph with it.
use Rattle.std.proofs.Common.{◌≡◌, ◌++◌, ℕ, [], ◌∷◌, ◌+◌, ◌*◌, ◌^◌, ◌≤◌, Option, Some, None, Bool, true, false, refl, ap, sym, ◌∙◌, arith, cond, leb, List}
use Rattle.std.specs.Prelude.{is_some, min, nat_eq, slice_set, ◌/◌, ◌&&◌, ◌||◌}
use Rattle.std.specs.Option.{option_map}
use Rattle.std.specs.List.{range_with_len}
use Rattle.std.proofs.lemmas.Bool.{and_from, and_parts, cond_above, eq-eqb, eqb-true, le-leb, leb-true, or_left, or_right}
use Rattle.std.proofs.lemmas.List.{map-id}
use Rattle.std.proofs.lemmas.List.FromFn.{map-range_with_len_more}
use Rattle.stage_graph.specs.declared.stage.Stage.{Stage}
use Rattle.stage_graph.specs.Operations.{has_action}
use Rattle.stage_graph.specs.Plain.{PlainGraph, stage_at}
use Rattle.stage_graph.specs.Sound.{IsSoundStage}
use Rattle.stage_ops.specs.declared.state.Done.{Done}
use Rattle.time_sweep.specs.declared.haste.Haste.{Haste}
use Rattle.time_sweep.specs.declared.haste.Part.{Part}
use Rattle.time_sweep.specs.declared.haste.Part.TheVariants.{Both, Queue}
use Rattle.time_sweep.specs.Hastened.{hastened, hastened_stage, runs_by, runs_left, share_of}
use Rattle.time_sweep.specs.Sweep.{completion_of, sooner_trial, trial_of}
use Rattle.time_sweep.specs.WithStage.{IsFitting}
use Rattle.time_sweep.proofs.Exchanging.{with_itself}

-- ---- no more of a time is left than there was

share_less : (percent ticks : ℕ) → share_of percent ticks ≤ ticks
share_less percent ticks = min_less ticks (ticks * percent / 100) where
  min_less : (a b : ℕ) → min a b ≤ a
  min_less a b = omega arith

runs_less : (part : Part) (percent ticks : ℕ) → runs_by part percent ticks ≤ ticks
runs_less Both percent ticks = share_less percent ticks
runs_less Queue percent ticks = omega arith

tick_less : (less ticks : ℕ) → less ≤ ticks → leb ticks (2 ^ 40) ≡ true → leb less (2 ^ 40) ≡ true
tick_less less ticks below tick = let upto : ticks ≤ 2 ^ 40 = leb-true ticks (2 ^ 40) tick in le-leb less (2 ^ 40) (omega (arith, below, upto))

none_less : (less ticks : ℕ) → less ≤ ticks → nat_eq ticks 0 ≡ true → nat_eq less 0 ≡ true
none_less less ticks below none = let zero : ticks ≡ 0 = eqb-true ticks 0 none in eq-eqb less 0 (omega (arith, below, zero))

times_less : (acts : Bool) (queued runs queued_then runs_then : ℕ) → queued_then ≤ queued → runs_then ≤ runs → (acts || (nat_eq queued 0 && nat_eq runs 0)) ≡ true
    → (acts || (nat_eq queued_then 0 && nat_eq runs_then 0)) ≡ true
times_less true queued runs queued_then runs_then first second fits = or_left true (nat_eq queued_then 0 && nat_eq runs_then 0) refl
times_less false queued runs queued_then runs_then first second fits =
    let none = and_parts (nat_eq queued 0) (nat_eq runs 0) fits in
    or_right false (nat_eq queued_then 0 && nat_eq runs_then 0)
    (and_from (nat_eq queued_then 0) (nat_eq runs_then 0) (none_less queued_then queued first none.0) (none_less runs_then runs second none.1))

-- so a faster stage keeps every rule
fast_sound : (places : List (Option Stage)) (haste : Haste) (place : ℕ) (stage : Stage) → IsSoundStage places place stage → IsSoundStage places place (hastened_stage haste stage)
fast_sound places haste place stage sound =
    let old = sound.lawful in
    let queued_less : share_of haste.percent stage.queued ≤ stage.queued = share_less haste.percent stage.queued in
    let ran_less : runs_left haste stage.runs ≤ stage.runs = runs_less haste.part haste.percent stage.runs in
    record {
      lawful = record {
        named = old.named;
        arity = old.arity;
        acts = old.acts;
        few_sources = old.few_sources;
        few_inner = old.few_inner;
        created = old.created;
        queued = tick_less (share_of haste.percent stage.queued) stage.queued queued_less old.queued;
        runs = tick_less (runs_left haste stage.runs) stage.runs ran_less old.runs;
        pin = old.pin;
        ends = old.ends;
        in_time = old.in_time;
        times = times_less (has_action stage.op) stage.queued stage.runs (share_of haste.percent stage.queued) (runs_left haste stage.runs) queued_less ran_less old.times;
        sized = old.sized;
      };
      own_place = sound.own_place;
      by_name = sound.by_name;
      live_feeds = sound.live_feeds;
    }

-- it may stand where it stood
pub fast_fits : (places : List (Option Stage)) (haste : Haste) (stage : Stage) → stage_at places stage.place ≡ Some stage → IsSoundStage places stage.place stage → IsFitting places (hastened_stage haste stage)
fast_fits places haste stage stands sound = record {
  sound = fast_sound places haste stage.place stage sound;
  sources = ap (option_map (λ (here : Stage). here.sources)) stands;
  inner = ap (option_map (λ (here : Stage). here.inner)) stands;
}

-- the places, with one more
pub range_more : (count : ℕ) → range_with_len 0 (count + 1) ≡ range_with_len 0 count ++ count ∷ []
range_more count =
    sym (map-id (range_with_len 0 (count + 1)))
    ∙ map-range_with_len_more (λ place. place) 0 count count (omega arith)
    ∙ ap (λ places. places ++ count ∷ []) (map-id (range_with_len 0 count))

-- a stage that stays as it is has no trial
pub none_sooner : (acts : Bool) (place : ℕ) (old : Option Done) → cond acts (sooner_trial place old old) None ≡ None
none_sooner true place None = refl
none_sooner true place (Some done) =
    sym (cond_above done.moment done.moment (Some (record { place = place; outcome = done.outcome; moment = done.moment })) None None (omega arith) refl)
none_sooner false place old = refl

pub unhastened : (graph : PlainGraph) (haste : Haste) (stage : Stage) (target place : ℕ) → stage_at graph.places stage.place ≡ Some stage → share_of haste.percent stage.queued ≡ stage.queued
    → runs_left haste stage.runs ≡ stage.runs → trial_of graph haste target place (Some stage) ≡ None
unhastened graph haste stage target place stands queued runs =
    let same_stage : hastened_stage haste stage ≡ stage =
    ap (λ (ticks : ℕ). record stage { queued = ticks; runs = runs_left haste stage.runs }) queued ∙ ap (λ (ticks : ℕ). record stage { runs = ticks }) runs in
    let same : hastened graph haste stage ≡ graph =
    ap (λ (made : Stage). record graph { places = slice_set graph.places stage.place (Some made) }) same_stage ∙ with_itself graph stage stands in
    ap (λ (made : PlainGraph). cond (is_some stage.action) (sooner_trial place (completion_of graph target) (completion_of made target)) None) same
    ∙ none_sooner (is_some stage.action) place (completion_of graph target)
