-- What each rescue says.
use Rattle.std.proofs.Common.{◌≡◌, ◌≤◌, ℕ, Bool, true, false, cond, List, [], ◌∷◌, Option, Some, None, map, refl, ap, sym, subst}
use Rattle.std.specs.Prelude.{All, Contains, IfSome, filter_map, is_some}
use Rattle.std.specs.Option.{option_map}
use Rattle.std.specs.List.{cons_option, flat_map}
use Rattle.std.proofs.lemmas.Bool.{leb-true}
use Rattle.std.proofs.lemmas.List.Elements.{All-append, All-cons, All-contains_itself, All-head, All-map, All-nil, All-tail, All-weaker, filter_passes}
use Rattle.act_expr.specs.declared.outcome.Outcome.{Outcome}
use Rattle.act_expr.specs.declared.outcome.Outcome.TheVariants.{Value as Normal, Bare, Wrapped}
use Rattle.act_expr.specs.declared.outcome.Value.{Value}
use Rattle.stage_graph.specs.declared.stage.Stage.{Stage}
use Rattle.stage_graph.specs.Plain.{PlainGraph, all_places, stage_at}
use Rattle.stage_ops.specs.declared.state.Done.{Done}
use Rattle.time_sweep.specs.Sweep.{completion_of}
use Rattle.time_sweep.specs.Waits.{can_wait_for, waited_for}
use Rattle.time_sweep.specs.WithStage.{with_stage}
use Rattle.reply_rescue.specs.declared.change.Change.{Change}
use Rattle.reply_rescue.specs.declared.rescue.Rescue.{Rescue}
use Rattle.reply_rescue.specs.Changed.{changed}
use Rattle.reply_rescue.specs.Changes.{changes_of}
use Rattle.reply_rescue.specs.Replies.{is_by, reply_at, reply_of}
use Rattle.reply_rescue.specs.Rescues.{completion_with, rescue_by, saves, trial_at, trials, trials_at, trials_of, IsRescue, Trial}

-- ---- of each thing that a list gives, where something is known of each item

all_with : {Y : Type 0} (Q : Y → Type 0) (one : Option Y) (rest : List Y) → IfSome one Q → All Q rest → All Q (cons_option one rest)
all_with Q None rest is all = all
all_with Q (Some one) rest is all = All-cons Q one rest is all

all_given : {X Y : Type 0} (P : X → Type 0) (Q : Y → Type 0) (given : X → Option Y) → ((item : X) → P item → IfSome (given item) Q) → (items : List X) → All P items → All Q (filter_map given items)
all_given P Q given each [] all = All-nil Q
all_given P Q given each (item ∷ items) all =
    all_with Q (given item) (filter_map given items) (each item (All-head P item items all)) (all_given P Q given each items (All-tail P item items all))

all_joined : {X Y : Type 0} (P : X → Type 0) (Q : Y → Type 0) (given : X → List Y) → ((item : X) → P item → All Q (given item)) → (items : List X) → All P items → All Q (flat_map given items)
all_joined P Q given each [] all = All-nil Q
all_joined P Q given each (item ∷ items) all =
    All-append Q (given item) (flat_map given items) (each item (All-head P item items all)) (all_joined P Q given each items (All-tail P item items all))

module _ (graph : PlainGraph) (target : ℕ) (by : Option ℕ) (value : Value) where
  -- ---- what each trial is

  pub record IsTrial (trial : Trial) : Type 0 where
    pub waits : can_wait_for graph.places target trial.place ≡ true
    pub stage : Stage
    pub stands : stage_at graph.places trial.place ≡ Some stage
    pub tried : Contains (changes_of graph value trial.place stage) trial.change

  of_place : (place : ℕ) → can_wait_for graph.places target place ≡ true → (here : Option Stage) → stage_at graph.places place ≡ here → All IsTrial (trials_of graph value place here)
  of_place place waits None none = All-nil IsTrial
  of_place place waits (Some stage) here =
      let changes = changes_of graph value place stage in
      All-map IsTrial (trial_at place) changes
      (All-weaker (Contains changes) (λ (change : Change). IsTrial (trial_at place change)) (λ change among. record { waits = waits; stage = stage; stands = here; tried = among }) changes
      (All-contains_itself changes))

  unless_saved : (b : Bool) (all : List Trial) → All IsTrial all → All IsTrial (cond b [] all)
  unless_saved true all are = All-nil IsTrial
  unless_saved false all are = are

  each_trial : All IsTrial (trials graph target by value)
  each_trial =
      unless_saved (is_some (reply_of by (completion_of graph target))) (flat_map (trials_at graph value) (waited_for graph.places target))
      (all_joined (λ (place : ℕ). can_wait_for graph.places target place ≡ true) IsTrial (trials_at graph value) (λ place waits. of_place place waits (stage_at graph.places place) refl)
      (waited_for graph.places target) (filter_passes (can_wait_for graph.places target) (all_places graph.places)))

  -- ---- one that saves the reply

  module _ (trial : Trial) (is : IsTrial trial) where
    abbrev with_change : Option Done
    with_change = completion_of (with_stage graph (changed is.stage trial.change)) target

    in_time : (by : Option ℕ) (moment : ℕ) → is_by by moment ≡ true → IfSome by (λ last. moment ≤ last)
    in_time None moment holds = tt
    in_time (Some last) moment holds = leb-true moment last holds

    with_outcome : (done : Done) → with_change ≡ Some done → is_by by done.moment ≡ true → (outcome : Outcome) → done.outcome ≡ outcome
        → IfSome (option_map (rescue_by trial) (reply_at done.moment outcome)) (IsRescue graph target by value)
    with_outcome done completes holds (Normal own) same = record {
      waits = is.waits;
      stage = is.stage;
      stands = is.stands;
      tried = is.tried;
      done = done;
      completes = completes;
      outcome = same;
      moment = refl;
      in_time = in_time by done.moment holds;
    }
    with_outcome done completes holds (Bare name) same = tt
    with_outcome done completes holds (Wrapped name) same = tt

    if_by : (done : Done) → with_change ≡ Some done → (b : Bool) → is_by by done.moment ≡ b
        → IfSome (option_map (rescue_by trial) (cond b (reply_at done.moment done.outcome) None)) (IsRescue graph target by value)
    if_by done completes true holds = with_outcome done completes holds done.outcome refl
    if_by done completes false late = tt

    of_completion : (done : Option Done) → with_change ≡ done → IfSome (option_map (rescue_by trial) (reply_of by done)) (IsRescue graph target by value)
    of_completion None none = tt
    of_completion (Some done) completes = if_by done completes (is_by by done.moment) refl

    saved_is : IfSome (saves graph target by trial) (IsRescue graph target by value)
    saved_is =
        subst (λ (here : Option Stage). IfSome (option_map (rescue_by trial) (reply_of by (completion_with graph target trial.change here))) (IsRescue graph target by value)) (sym is.stands)
        (of_completion with_change refl)

  pub each_rescue : All (IsRescue graph target by value) (filter_map (saves graph target by) (trials graph target by value))
  each_rescue = all_given IsTrial (IsRescue graph target by value) (saves graph target by) saved_is (trials graph target by value) each_trial

-- ---- the trials of a place

pub none_stands : (graph : PlainGraph) (value : Value) (place : ℕ) → stage_at graph.places place ≡ None → [] ≡ trials_at graph value place
none_stands graph value place none = sym (ap (trials_of graph value place) none)

pub trials_here : (graph : PlainGraph) (value : Value) (place : ℕ) (stage : Stage) → stage_at graph.places place ≡ Some stage → trials_at graph value place ≡ map (trial_at place) (changes_of graph value place stage)
trials_here graph value place stage here = ap (trials_of graph value place) here

pub saved_each : (saves : Trial → Option Rescue) (place : ℕ) (changes : List Change) → filter_map (λ (change : Change). saves (trial_at place change)) changes ≡ filter_map saves (map (trial_at place) changes)
saved_each saves place [] = refl
saved_each saves place (change ∷ changes) = ap (cons_option (saves (trial_at place change))) (saved_each saves place changes)

-- a target that has a value in time needs no trial
pub none_needed : (graph : PlainGraph) (target : ℕ) (by : Option ℕ) (value : Value) → is_some (reply_of by (completion_of graph target)) ≡ true → trials graph target by value ≡ []
none_needed graph target by value holds = ap (λ (b : Bool). cond b [] (flat_map (trials_at graph value) (waited_for graph.places target))) holds

pub all_needed : (graph : PlainGraph) (target : ℕ) (by : Option ℕ) (value : Value) → is_some (reply_of by (completion_of graph target)) ≡ false
    → trials graph target by value ≡ flat_map (trials_at graph value) (waited_for graph.places target)
all_needed graph target by value none = ap (λ (b : Bool). cond b [] (flat_map (trials_at graph value) (waited_for graph.places target))) none
