-- A stage that an edit changes stays sound.
use Rattle.std.proofs.Common.{Bool, true, false, ◌&&◌, ◌||◌, ◌≡◌, ℕ, List, length, Option, Some, None, is_some, unwrap_or, nat_eq, [], ◌∷◌, ◌++◌, Ok, sym, refl, ap, subst}
use Rattle.std.specs.Prelude.{All}
use Rattle.std.proofs.lemmas.List.{length-map}
use Rattle.std.proofs.lemmas.List.Elements.{All-nil, All-cons, All-append}
use Rattle.act_expr.specs.Expression.{Expression}
use Rattle.act_expr.specs.declared.expr.ExprFault.{ExprFault}
use Rattle.act_expr.specs.declared.outcome.Outcome.{Outcome}
use Rattle.stage_graph.specs.declared.checks.Checks.{Checks}
use Rattle.stage_graph.specs.declared.end.End.{End}
use Rattle.stage_graph.specs.declared.stage.Stage.{Stage}
use Rattle.stage_graph.specs.declared.op.Op.{Op}
use Rattle.stage_graph.specs.declared.fault.Refusal.{Refusal}
use Rattle.stage_graph.specs.declared.edit.Edit.{Edit}
use Rattle.stage_graph.specs.declared.edit.Edit.TheVariants.{PinResult, PinMoment, SetTimes, SetAction, SetEnds, Add, Remove, Rewire}
use Rattle.stage_graph.specs.Edits.{stage_edit}
use Rattle.stage_graph.specs.Operations.{has_action}
use Rattle.stage_graph.specs.Plain.{stage_at, IsLive, place_named}
use Rattle.stage_graph.specs.Checks.{passing, first_refusal, action_refusal, has_arity, fits_times, are_known, are_few, is_tick, is_pin, are_ends, are_after, action_fault}
use Rattle.stage_graph.specs.Names.{places_of}
use Rattle.stage_graph.specs.Edits.{unless_refused, allowed, with_result, with_moment, with_times, with_action, with_ends, with_feeds}
use Rattle.stage_graph.specs.Sound.{IsSoundStage}
use Rattle.stage_graph.proofs.Placing.{named_at, live_from_name}

-- each check passes
pub record Passes (checks : Checks) : Type 0 where
  pub free : checks.free ≡ true
  pub named : checks.named ≡ true
  pub arity : checks.arity ≡ true
  pub known : checks.known ≡ true
  pub within : checks.within ≡ true
  pub in_time : checks.in_time ≡ true
  pub acts : checks.acts ≡ true
  pub action : checks.action ≡ None

no_refusal : (action : Option ExprFault) → action_refusal action ≡ None → action ≡ None
no_refusal None none = refl
no_refusal (Some fault) none = cc

passed : (free named arity known within in_time acts : Bool) (action : Option ExprFault)
    → first_refusal (record { free = free; named = named; arity = arity; known = known; within = within; in_time = in_time; acts = acts; action = action }) ≡ None
    → Passes (record { free = free; named = named; arity = arity; known = known; within = within; in_time = in_time; acts = acts; action = action })
passed false named arity known within in_time acts action none = cc
passed true false arity known within in_time acts action none = cc
passed true true false known within in_time acts action none = cc
passed true true true false within in_time acts action none = cc
passed true true true true false in_time acts action none = cc
passed true true true true true false acts action none = cc
passed true true true true true true false action none = cc
passed true true true true true true true action none =
    record { free = refl; named = refl; arity = refl; known = refl; within = refl; in_time = refl; acts = refl; action = no_refusal action none }

pub passes : (checks : Checks) → first_refusal checks ≡ None → Passes checks
passes checks none = passed checks.free checks.named checks.arity checks.known checks.within checks.in_time checks.acts checks.action none

pub both : (a b : Bool) → (a && b) ≡ true → (a ≡ true) × (b ≡ true)
both true b holds = (refl, holds)
both false b holds = cc

not_refused : {A : Type 0} (refusal : Option Refusal) (value new : A) → unless_refused refusal value ≡ Ok new → (refusal ≡ None) × (value ≡ new)
not_refused None value new ok = (refl, cc)
not_refused (Some refusal) value new ok = cc

-- where a value is allowed, each check passes
pub allowed_ok : {A : Type 0} (checks : Checks) (value new : A) → allowed checks value ≡ Ok new → Passes checks × (value ≡ new)
allowed_ok checks value new ok = let is = not_refused (first_refusal checks) value new ok in (passes checks is.0, is.1)

-- an operation that has an action may have time
times_of_action : (op : Op) (queued runs : ℕ) → has_action op ≡ true → fits_times op queued runs ≡ true
times_of_action op queued runs acts = ap (λ has. has || (nat_eq queued 0 && nat_eq runs 0)) acts

-- a changed stage may stand where the old one stood
pub record IsChange (places : List (Option Stage)) (stage new : Stage) : Type 0 where
  pub sound : IsSoundStage places new.place new
  pub same_place : new.place ≡ stage.place
  pub same_name : new.name ≡ stage.name

-- names that are found have places
each_known : (find : List ℕ → Option ℕ) (P : ℕ → Type 0) → ((name : List ℕ) (k : ℕ) → find name ≡ Some k → P k) → (names : List (List ℕ)) → are_known find names ≡ true → All P (places_of find names)
each_known find P each [] known = All-nil P
each_known find P each (name ∷ names) known =
    let parts = both (is_some (find name)) (are_known find names) known in
    All-cons P (unwrap_or (find name) 0) (places_of find names) (of_found (find name) refl parts.0) (each_known find P each names parts.1) where
      of_found : (found : Option ℕ) → find name ≡ found → is_some (find name) ≡ true → P (unwrap_or (find name) 0)
      of_found None is known = cc
      of_found (Some k) is known = subst (λ found. P (unwrap_or found 0)) (sym is) (each name k is)

-- feeds that are known by name are live
pub known_live : (places : List (Option Stage)) (sources inner : List (List ℕ)) → (are_known (place_named places) sources && are_known (place_named places) inner) ≡ true
    → All (IsLive places) (places_of (place_named places) sources ++ places_of (place_named places) inner)
known_live places sources inner known =
    let parts = both (are_known (place_named places) sources) (are_known (place_named places) inner) known in
    let live : (name : List ℕ) (k : ℕ) → place_named places name ≡ Some k → IsLive places k = λ name k is. live_from_name name (stage_at places k) (named_at places name k is).1 in
    All-append (IsLive places) (places_of (place_named places) sources) (places_of (place_named places) inner)
    (each_known (place_named places) (IsLive places) live sources parts.0) (each_known (place_named places) (IsLive places) live inner parts.1)

module _ (places : List (Option Stage)) (stage new : Stage) (kept : IsSoundStage places stage.place stage) where
  pub result_changed : (pin : Option Outcome) → with_result pin stage ≡ Ok new → IsChange places stage new
  result_changed pin ok =
      let is : record stage { pin_result = pin } ≡ new = cc in
      let old = kept.lawful in
      subst (IsChange places stage) is (record {
        sound = record {
          lawful = record { named = old.named; arity = old.arity; acts = old.acts; few_sources = old.few_sources; few_inner = old.few_inner; created = old.created; queued = old.queued; runs = old.runs; pin = old.pin; ends = old.ends; in_time = old.in_time; times = old.times; sized = old.sized };
          own_place = refl;
          by_name = kept.by_name;
          live_feeds = kept.live_feeds;
        };
        same_place = refl;
        same_name = refl;
      })

  pub moment_changed : (moment : Option ℕ) → with_moment moment stage ≡ Ok new → IsChange places stage new
  moment_changed moment ok =
      let is = allowed_ok (record passing { within = is_pin moment }) (record stage { pin_moment = moment }) new ok in
      let old = kept.lawful in
      subst (IsChange places stage) is.1 (record {
        sound = record {
          lawful = record { named = old.named; arity = old.arity; acts = old.acts; few_sources = old.few_sources; few_inner = old.few_inner; created = old.created; queued = old.queued; runs = old.runs; pin = is.0.within; ends = old.ends; in_time = old.in_time; times = old.times; sized = old.sized };
          own_place = refl;
          by_name = kept.by_name;
          live_feeds = kept.live_feeds;
        };
        same_place = refl;
        same_name = refl;
      })

  pub times_changed : (queued : ℕ) (runs : ℕ) → with_times queued runs stage ≡ Ok new → IsChange places stage new
  times_changed queued runs ok =
      let is = allowed_ok (record passing { within = is_tick queued && is_tick runs; acts = has_action stage.op }) (record stage { queued = queued; runs = runs }) new ok in
      let ticks = both (is_tick queued) (is_tick runs) is.0.within in
      let old = kept.lawful in
      subst (IsChange places stage) is.1 (record {
        sound = record {
          lawful = record { named = old.named; arity = old.arity; acts = old.acts; few_sources = old.few_sources; few_inner = old.few_inner; created = old.created; queued = ticks.0; runs = ticks.1; pin = old.pin; ends = old.ends; in_time = old.in_time; times = times_of_action stage.op queued runs is.0.acts; sized = old.sized };
          own_place = refl;
          by_name = kept.by_name;
          live_feeds = kept.live_feeds;
        };
        same_place = refl;
        same_name = refl;
      })

  pub action_changed : (action : Expression) → with_action action stage ≡ Ok new → IsChange places stage new
  action_changed action ok =
      let is = allowed_ok (record passing { acts = has_action stage.op; action = action_fault (Some action) }) (record stage { action = Some action }) new ok in
      let old = kept.lawful in
      subst (IsChange places stage) is.1 (record {
        sound = record {
          lawful = record { named = old.named; arity = old.arity; acts = is.0.acts; few_sources = old.few_sources; few_inner = old.few_inner; created = old.created; queued = old.queued; runs = old.runs; pin = old.pin; ends = old.ends; in_time = old.in_time; times = old.times; sized = is.0.action };
          own_place = refl;
          by_name = kept.by_name;
          live_feeds = kept.live_feeds;
        };
        same_place = refl;
        same_name = refl;
      })

  pub ends_changed : (ends : List End) → with_ends ends stage ≡ Ok new → IsChange places stage new
  ends_changed ends ok =
      let is = allowed_ok (record passing { within = are_ends ends; in_time = are_after stage.created ends }) (record stage { ends = ends }) new ok in
      let old = kept.lawful in
      subst (IsChange places stage) is.1 (record {
        sound = record {
          lawful = record { named = old.named; arity = old.arity; acts = old.acts; few_sources = old.few_sources; few_inner = old.few_inner; created = old.created; queued = old.queued; runs = old.runs; pin = old.pin; ends = is.0.within; in_time = is.0.in_time; times = old.times; sized = old.sized };
          own_place = refl;
          by_name = kept.by_name;
          live_feeds = kept.live_feeds;
        };
        same_place = refl;
        same_name = refl;
      })

  pub feeds_changed : (sources : List (List ℕ)) (inner : List (List ℕ)) → with_feeds (place_named places) sources inner stage ≡ Ok new → IsChange places stage new
  feeds_changed sources inner ok =
      let is = allowed_ok (record passing {
        arity = has_arity stage.op (length sources) (length inner);
        known = are_known (place_named places) sources && are_known (place_named places) inner;
        within = are_few (length sources) && are_few (length inner);
      }) (record stage { sources = places_of (place_named places) sources; inner = places_of (place_named places) inner }) new ok in
      let few = both (are_few (length sources)) (are_few (length inner)) is.0.within in
      let many : (names : List (List ℕ)) → length (places_of (place_named places) names) ≡ length names = λ names. length-map names (λ name. unwrap_or (place_named places name) 0) in
      let old = kept.lawful in
      subst (IsChange places stage) is.1 (record {
        sound = record {
          lawful = record { named = old.named; arity = rw (many sources, many inner) is.0.arity; acts = old.acts; few_sources = rw (many sources) few.0; few_inner = rw (many inner) few.1; created = old.created; queued = old.queued; runs = old.runs; pin = old.pin; ends = old.ends; in_time = old.in_time; times = old.times; sized = old.sized };
          own_place = refl;
          by_name = kept.by_name;
          live_feeds = known_live places sources inner is.0.known;
        };
        same_place = refl;
        same_name = refl;
      })

  -- whatever the edit
  pub stage_edit_changed : (edit : Edit) → stage_edit (place_named places) edit stage ≡ Ok new → IsChange places stage new
  stage_edit_changed (PinResult name result) ok = result_changed result ok
  stage_edit_changed (PinMoment name moment) ok = moment_changed moment ok
  stage_edit_changed (SetTimes name queued runs) ok = times_changed queued runs ok
  stage_edit_changed (SetAction name action) ok = action_changed action ok
  stage_edit_changed (SetEnds name ends) ok = ends_changed ends ok
  stage_edit_changed (Rewire name sources inner) ok = feeds_changed sources inner ok
  stage_edit_changed (Add spec) ok = let is : stage ≡ new = cc in subst (IsChange places stage) is (record { sound = kept; same_place = refl; same_name = refl })
  stage_edit_changed (Remove name) ok = let is : stage ≡ new = cc in subst (IsChange places stage) is (record { sound = kept; same_place = refl; same_name = refl })
