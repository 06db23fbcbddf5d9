-- A stage whose action runs longer.
use Rattle.std.proofs.Common.{◌≡◌, ◌+◌, ◌^◌, ◌≤◌, ℕ, Bool, true, false, cond, List, Option, Some, None, is_some, refl, ap, sym, ◌∙◌, subst, arith}
use Rattle.std.specs.Prelude.{IfSome, not, nat_eq, ◌==◌, ◌&&◌}
use Rattle.std.specs.Option.{option_map}
use Rattle.std.proofs.lemmas.Bool.{and_from, and_parts, eq-eqb, le-leb, or_left}
use Rattle.act_expr.specs.Expression.{Expression}
use Rattle.act_expr.specs.declared.outcome.Outcome.{Outcome}
use Rattle.stage_graph.specs.declared.op.Op.{Op}
use Rattle.stage_graph.specs.declared.stage.Stage.{Stage}
use Rattle.stage_graph.specs.Checks.{fits_action}
use Rattle.stage_graph.specs.Operations.{has_action}
use Rattle.stage_graph.specs.Plain.{PlainGraph, stage_at}
use Rattle.stage_graph.specs.Sound.{IsSound, IsSoundStage}
use Rattle.stage_ops.specs.declared.state.Done.{Done}
use Rattle.stage_ops.specs.States.{Completion}
use Rattle.propagate.specs.Completions.{same_completion, same_outcome}
use Rattle.propagate.proofs.Comparing.{differ_from_same}
use Rattle.version_store.specs.Queries.{start_in, state_of}
use Rattle.time_sweep.specs.Sweep.{completion_of}
use Rattle.time_sweep.specs.Waits.{can_wait_for}
use Rattle.time_sweep.specs.WithStage.{with_stage, IsFitting}
use Rattle.time_sweep.proofs.Exchanging.{with_itself}
use Rattle.stage_slack.specs.declared.slack.Slack.{Slack}
use Rattle.stage_slack.specs.Search.{most_ticks, IsEdge}
use Rattle.stage_slack.specs.Slacks.{agree, longer, most_longer, slack_at, slack_from, slack_of, stays, IsSlack}
use Rattle.stage_slack.proofs.Searching.{found_edge}

acting : (op : Op) (action : Option Expression) → fits_action op action ≡ true → is_some action ≡ true → has_action op ≡ true
acting op None fits acts = cc
acting op (Some action) fits acts = fits

-- it keeps every rule, as far as it runs no longer than a recording may say
pub longer_fits : (places : List (Option Stage)) (stage : Stage) (ticks : ℕ) → stage_at places stage.place ≡ Some stage → IsSoundStage places stage.place stage → is_some stage.action ≡ true
    → stage.runs + ticks ≤ 2 ^ 40 → IsFitting places (longer stage ticks)
longer_fits places stage ticks stands sound acts within =
    let old = sound.lawful in
    record {
      sound = record {
        lawful = record {
          named = old.named;
          arity = old.arity;
          acts = old.acts;
          few_sources = old.few_sources;
          few_inner = old.few_inner;
          created = old.created;
          queued = old.queued;
          runs = le-leb (stage.runs + ticks) (2 ^ 40) within;
          pin = old.pin;
          ends = old.ends;
          in_time = old.in_time;
          times = or_left (has_action stage.op) (nat_eq stage.queued 0 && nat_eq (stage.runs + ticks) 0) (acting stage.op stage.action old.acts acts);
          sized = old.sized;
        };
        own_place = sound.own_place;
        by_name = sound.by_name;
        live_feeds = sound.live_feeds;
      };
      sources = ap (option_map (λ (here : Stage). here.sources)) stands;
      inner = ap (option_map (λ (here : Stage). here.inner)) stands;
    }

-- ---- with no tick more the target completes as it does

holding : (b : Bool) → not b ≡ false → b ≡ true
holding true is = refl
holding false is = cc

outcome_self : (outcome : Outcome) → same_outcome outcome outcome ≡ true
outcome_self outcome =
    let done : Completion = record { outcome = outcome; moment = 0; from = None } in
    (and_parts (same_outcome outcome outcome) true (holding (same_completion done done) (differ_from_same (Some done) (Some done) refl))).0

agree_self : (done : Option Done) → agree done done ≡ true
agree_self None = refl
agree_self (Some done) = and_from (same_outcome done.outcome done.outcome) (done.moment == done.moment) (outcome_self done.outcome) (eq-eqb done.moment done.moment refl)

pub stays_as_it_is : (graph : PlainGraph) (target : ℕ) (stage : Stage) → stage_at graph.places stage.place ≡ Some stage → stays graph target stage 0 ≡ true
stays_as_it_is graph target stage stands =
    let none : stage.runs + 0 ≡ stage.runs = omega arith in
    let same_stage : longer stage 0 ≡ stage = ap (λ (runs : ℕ). record stage { runs = runs }) none in
    let same : with_stage graph (longer stage 0) ≡ graph = ap (with_stage graph) same_stage ∙ with_itself graph stage stands in
    ap (λ (made : PlainGraph). agree (completion_of graph target) (completion_of made target)) same ∙ agree_self (completion_of graph target)

-- ---- the slack of a place

module _ (graph : PlainGraph) (target place : ℕ) where
  abbrev with_ticks : Option ℕ → ℕ → Slack
  with_ticks ticks start = record { place = place; ticks = ticks; start = start }

  pub none_stands : stage_at graph.places place ≡ None → None ≡ slack_at graph target place
  none_stands none = sym (ap (slack_of graph target place) none)

  module _ (stage : Stage) (here : stage_at graph.places place ≡ Some stage) where
    by_action : (acts : Bool) → is_some stage.action ≡ acts → slack_at graph target place ≡ cond acts (option_map (slack_from graph target place stage) (start_in (state_of graph place))) None
    by_action acts is =
        ap (slack_of graph target place) here
        ∙ ap (λ (acts : Bool). cond acts (option_map (slack_from graph target place stage) (start_in (state_of graph place))) None) is

    pub no_action : is_some stage.action ≡ false → None ≡ slack_at graph target place
    no_action none = sym (by_action false none)

    pub not_started : is_some stage.action ≡ true → start_in (state_of graph place) ≡ None → None ≡ slack_at graph target place
    not_started acts none = sym (by_action true acts ∙ ap (option_map (slack_from graph target place stage)) none)

    pub slack_found : is_some stage.action ≡ true → (start : ℕ) → start_in (state_of graph place) ≡ Some start → (ticks : Option ℕ) → ticks ≡ most_ticks (most_longer stage) (stays graph target stage)
        → Some (record { place = place; ticks = ticks; start = start }) ≡ slack_at graph target place
    slack_found acts start began ticks is =
        ap (λ (ticks : Option ℕ). Some (with_ticks ticks start)) is ∙ sym (by_action true acts ∙ ap (option_map (slack_from graph target place stage)) began)

-- ---- what a slack says

module _ (graph : PlainGraph) (sound : IsSound graph) (target place : ℕ) (waits : can_wait_for graph.places target place ≡ true) where
  started : (stage : Stage) → stage_at graph.places place ≡ Some stage → (start : Option ℕ) → start_in (state_of graph place) ≡ start → IfSome (option_map (slack_from graph target place stage) start) (IsSlack graph target)
  started stage here None none = tt
  started stage here (Some start) is =
      let own : stage.place ≡ place = (sound.stages place stage here).own_place in
      record {
        waits = waits;
        start = is;
        ticks = subst_some stage here (found_edge (most_longer stage) (stays graph target stage) (stays_as_it_is graph target stage (ap (stage_at graph.places) own ∙ here)));
      } where
        subst_some : (stage : Stage) → stage_at graph.places place ≡ Some stage → IsEdge (most_longer stage) (stays graph target stage) (most_ticks (most_longer stage) (stays graph target stage))
            → IfSome (stage_at graph.places place) (λ (there : Stage). IsEdge (most_longer there) (stays graph target there) (most_ticks (most_longer stage) (stays graph target stage)))
        subst_some stage here edge =
            subst (λ (found : Option Stage). IfSome found (λ (there : Stage). IsEdge (most_longer there) (stays graph target there) (most_ticks (most_longer stage) (stays graph target stage)))) (sym here) edge

  acted : (acts : Bool) (slack : Option Slack) → IfSome slack (IsSlack graph target) → IfSome (cond acts slack None) (IsSlack graph target)
  acted true slack is = is
  acted false slack is = tt

  of_stage : (here : Option Stage) → stage_at graph.places place ≡ here → IfSome (slack_of graph target place here) (IsSlack graph target)
  of_stage None none = tt
  of_stage (Some stage) here =
      acted (is_some stage.action) (option_map (slack_from graph target place stage) (start_in (state_of graph place)))
      (started stage here (start_in (state_of graph place)) refl)

  pub is_slack : IfSome (slack_at graph target place) (IsSlack graph target)
  is_slack = of_stage (stage_at graph.places place) refl
