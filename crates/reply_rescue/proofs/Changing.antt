-- A changed stage keeps every rule.
use Rattle.std.proofs.Common.{◌≡◌, ℕ, Bool, true, false, List, Option, Some, refl, ap}
use Rattle.std.specs.Prelude.{nat_eq, ◌&&◌, ◌||◌}
use Rattle.std.specs.Option.{option_map}
use Rattle.std.proofs.lemmas.Bool.{and_from, and_parts}
use Rattle.act_expr.specs.declared.outcome.Outcome.{Outcome}
use Rattle.act_expr.specs.declared.outcome.Outcome.TheVariants.{Value as Normal}
use Rattle.stage_graph.specs.declared.end.End.{End}
use Rattle.stage_graph.specs.declared.stage.Stage.{Stage}
use Rattle.stage_graph.specs.Checks.{are_after, are_ends, fits_times, is_tick}
use Rattle.stage_graph.specs.Operations.{has_action}
use Rattle.stage_graph.specs.Plain.{stage_at}
use Rattle.stage_graph.specs.Sound.{IsSoundStage}
use Rattle.time_sweep.specs.WithStage.{IsFitting}
use Rattle.reply_rescue.specs.declared.change.Change.{Change}
use Rattle.reply_rescue.specs.declared.change.Change.TheVariants.{NoTime, NotQueued, NoFailure, WithoutEnd, TwiceTheDelay}
use Rattle.reply_rescue.specs.Changed.{changed}
use Rattle.reply_rescue.specs.Ends.{with_longer_end, without_end}
use Rattle.reply_rescue.proofs.Ending.{longer_are_after, longer_are_ends, without_are_after, without_are_ends}

-- with other times, another pinned result and other ends
abbrev remade : Stage → ℕ → ℕ → Option Outcome → List End → Stage
remade stage queued runs result ends = record stage { queued = queued; runs = runs; pin_result = result; ends = ends }

module _ (places : List (Option Stage)) (stage : Stage) (stands : stage_at places stage.place ≡ Some stage) (sound : IsSoundStage places stage.place stage) where
  remade_fits : (queued runs : ℕ) (result : Option Outcome) (ends : List End) → is_tick queued ≡ true → is_tick runs ≡ true → fits_times stage.op queued runs ≡ true
      → are_ends ends ≡ true → are_after stage.created ends ≡ true → IsFitting places (remade stage queued runs result ends)
  remade_fits queued runs result ends few_queued few_runs times fit after =
      let old = sound.lawful in
      record {
        sound = record {
          lawful = record {
            named = old.named;
            arity = old.arity;
            acts = old.acts;
            few_sources = old.few_sources;
            few_inner = old.few_inner;
            created = old.created;
            queued = few_queued;
            runs = few_runs;
            pin = old.pin;
            ends = fit;
            in_time = after;
            times = times;
            sized = old.sized;
          };
          own_place = sound.own_place;
          by_name = sound.by_name;
          live_feeds = sound.live_feeds;
        };
        sources = ap (option_map (λ (here : Stage). here.sources)) stands;
        inner = ap (option_map (λ (here : Stage). here.inner)) stands;
      }

  no_runs : (acts : Bool) → (acts || (nat_eq stage.queued 0 && nat_eq stage.runs 0)) ≡ true → (acts || (nat_eq stage.queued 0 && nat_eq 0 0)) ≡ true
  no_runs true fits = refl
  no_runs false fits = and_from (nat_eq stage.queued 0) true (and_parts (nat_eq stage.queued 0) (nat_eq stage.runs 0) fits).0 refl

  no_queue : (acts : Bool) → (acts || (nat_eq stage.queued 0 && nat_eq stage.runs 0)) ≡ true → (acts || (nat_eq 0 0 && nat_eq stage.runs 0)) ≡ true
  no_queue true fits = refl
  no_queue false fits = (and_parts (nat_eq stage.queued 0) (nat_eq stage.runs 0) fits).1

  -- each change leaves the stage's place, name and feeds, and keeps the rules of what it changes
  pub changed_fits : (change : Change) → IsFitting places (changed stage change)
  changed_fits NoTime =
      let old = sound.lawful in remade_fits stage.queued 0 stage.pin_result stage.ends old.queued refl (no_runs (has_action stage.op) old.times) old.ends old.in_time
  changed_fits NotQueued =
      let old = sound.lawful in remade_fits 0 stage.runs stage.pin_result stage.ends refl old.runs (no_queue (has_action stage.op) old.times) old.ends old.in_time
  changed_fits (NoFailure value) =
      let old = sound.lawful in remade_fits stage.queued stage.runs (Some (Normal value)) stage.ends old.queued old.runs old.times old.ends old.in_time
  changed_fits (WithoutEnd index) =
      let old = sound.lawful in
      remade_fits stage.queued stage.runs stage.pin_result (without_end stage.ends index) old.queued old.runs old.times (without_are_ends stage.ends index old.ends) (without_are_after stage.created stage.ends index old.in_time)
  changed_fits (TwiceTheDelay index) =
      let old = sound.lawful in
      remade_fits stage.queued stage.runs stage.pin_result (with_longer_end stage.ends index) old.queued old.runs old.times (longer_are_ends stage.ends index old.ends) (longer_are_after stage.created stage.ends index old.in_time)
