-- One turn of the propagation: the least level is computed from the states as they are, and then set.
use Rattle.std.proofs.Common.{◌≡◌, ℕ, ◌+◌, ◌*◌, ◌^◌, ◌<◌, ◌≤◌, Bool, true, false, List, [], ◌∷◌, ◌++◌, length, get_or, refl, ap, sym, ◌∙◌, arith, subst, ⊎_elim, length-append}
use Rattle.std.specs.Prelude.{AllPairs, All, Contains, not, ◌&&◌, ◌||◌, zero, suc, Option, Some, None, is_some, map, if◌then◌else◌}
use Rattle.std.specs.List.{list_any}
use Rattle.std.proofs.lemmas.Bool.{and_parts, and_from, or_cases, or_left, true≢false, cases_Bool, cases_lt, cond-true, cond-false, not-true, not_from_false}
use Rattle.std.proofs.lemmas.List.Elements.{Contains-get_or, All-contains}
use Rattle.std.proofs.lemmas.Map.Steps.{length-le_from_distinct_below}
use Rattle.stage_graph.specs.declared.stage.Stage.{Stage}
use Rattle.stage_graph.specs.Plain.{PlainGraph, stage_at, feeds_at, feeds_of, feeds_of_place, IsLive}
use Rattle.stage_graph.specs.Sound.{IsSound}
use Rattle.stage_graph.specs.Walk.{rank, IsRanked}
use Rattle.stage_ops.specs.declared.state.State.{State}
use Rattle.stage_ops.specs.States.{Completion, pending, seen_at, seen_of, state_at, IsBy}
use Rattle.stage_ops.specs.Evaluation.{at, ReadsDecide}
use Rattle.scratch_eval.specs.Answers.{MomentsFollowRanks}
use Rattle.rank_order.specs.Lists.{is_among}
use Rattle.propagate.specs.Completions.{differ}
use Rattle.rank_order.specs.Marks.{IsLevel}
use Rattle.propagate.specs.Reach.{Stages, Step, Climbs, AreStates, come_to, has_read, is_told, is_touched, is_emptied, reads_of, reads_at, touched}
use Rattle.propagate.proofs.Members.{contains_among, false_unless}
use Rattle.propagate.proofs.Scratch.{scratch_meets}
use Rattle.propagate.proofs.Ranks.{HasLiveFeeds, live_within, rank_le}
use Rattle.propagate.proofs.Ascending.{IsBefore, ascends_from_pairs, before_strict, distinct_from_before, levels_ascend, no_longer}
use Rattle.propagate.proofs.Steps.{IsRankedChange, IsFeed, IsProgress, is_settled, mark_parts, waiting_old, dependent_old, comes_right}
use Rattle.propagate.proofs.Runs.{begun, empty_none, touched_listed, touched_live, ended_states, ended_touched}
use Rattle.propagate.proofs.LevelSteps.{waits_in, tells, computed_in, level_set, progress_told}

-- tests that agree on the elements of a list
same_any : (p q : ℕ → Bool) (xs : List ℕ) → ((x : ℕ) → Contains xs x → p x ≡ q x) → list_any p xs ≡ list_any q xs
same_any p q [] h = refl
same_any p q (x ∷ xs) h =
    ap (λ b. b || list_any p xs) (h x (0, omega arith, refl))
    ∙ ap (λ b. q x || b) (same_any p q xs (λ y (k, l, e). h y (suc k, omega arith, e)))

same_map : {A : Type 0} (f g : ℕ → A) (xs : List ℕ) → ((x : ℕ) → Contains xs x → f x ≡ g x) → map f xs ≡ map g xs
same_map f g [] h = refl
same_map f g (x ∷ xs) h =
    ap (λ y. y ∷ map f xs) (h x (0, omega arith, refl))
    ∙ ap (λ ys. g x ∷ ys) (same_map f g xs (λ y (k, l, e). h y (suc k, omega arith, e)))

pub climbs : (level : List ℕ) → AllPairs (λ one other. one < other) level → Climbs level
climbs level ascends i j le within =
    ⊎_elim
    (λ below. let less : get_or level i 0 < get_or level j 0 = ascends i j 0 below within in omega arith)
    (λ (from : j ≤ i). let same : i ≡ j = omega arith in let equal : get_or level i 0 ≡ get_or level j 0 = ap (λ k. get_or level k 0) same in omega arith)
    (cases_lt i j)

-- the feeds of a sound graph's stages are stages
pub live_feeds : (graph : PlainGraph) → IsSound graph → HasLiveFeeds graph.places
live_feeds graph sound s feed h = of (stage_at graph.places s) refl h where
  of : (here : Option Stage) → stage_at graph.places s ≡ here → Contains (feeds_of_place here) feed → IsLive graph.places feed
  of None e c = absurd (omega arith)
  of (Some stage) e c = All-contains (IsLive graph.places) (feeds_of stage) feed (sound.stages s stage e).live_feeds c

by_later : (seen : Option Completion) (moment later : ℕ) → moment ≤ later → IsBy moment seen → IsBy later seen
by_later None moment later le h = tt
by_later (Some completion) moment later le h = omega arith

-- no moment of evaluation from scratch is late
pub in_time : (step : Step) → MomentsFollowRanks step → (graph : PlainGraph) → IsRanked graph.places → IsSound graph → (s : ℕ) → IsBy (2 ^ 62) (seen_at (at step graph.places) s)
in_time step moments graph ranked sound s =
    let few : length graph.places ≤ 65536 = sound.few in
    let low : rank graph.places s ≤ length graph.places = rank_le graph.places s in
    by_later (seen_at (at step graph.places) s) (2 ^ 42 + rank graph.places s * 2 ^ 41) (2 ^ 62) (omega arith)
    (moments graph sound ranked s)

module _ {step : Step} {old new : Stages} {edited : ℕ → Bool} (edit : IsRankedChange old new edited) {computed : List ℕ} {marked : ℕ → Bool} {states : ℕ → State}
    (progress : IsProgress step old new edited computed marked states) where
  -- each computed place is touched
  pub within_touched : length computed ≤ length (touched step old new edited)
  within_touched =
      no_longer (IsBefore new) (before_strict new) computed (touched step old new edited)
      (ascends_from_pairs (IsBefore new) computed progress.ascending)
      (levels_ascend new (is_touched step old new edited) (length new) 0 (length new))
      (λ s c. touched_listed step edit s (progress.each_touched s c))

  pub within_graph : length computed ≤ length new
  within_graph =
      length-le_from_distinct_below computed (length new) (distinct_from_before new computed progress.ascending)
      (λ s c. live_within new s (touched_live step old new edited s (progress.each_touched s c)))

module _ {step : Step} (law : ReadsDecide step) {old new : Stages} {edited : ℕ → Bool} (edit : IsRankedChange old new edited) {computed : List ℕ} {marked : ℕ → Bool} {states : ℕ → State}
    (progress : IsProgress step old new edited computed marked states) where
  -- a state is that of the old graph or that of the new one
  pub states_in_time : ((s : ℕ) → IsBy (2 ^ 62) (seen_at (at step old) s)) → ((s : ℕ) → IsBy (2 ^ 62) (seen_at (at step new) s)) → (s : ℕ) → IsBy (2 ^ 62) (seen_at states s)
  states_in_time before after s =
      subst (λ (state : State). IsBy (2 ^ 62) (seen_of state)) (sym (progress.hold s))
      (⊎_elim
      (λ yes. subst (λ (state : State). IsBy (2 ^ 62) (seen_of state)) (sym (cond-true (is_settled new computed s) (at step new s) (at step old s) yes)) (after s))
      (λ no. subst (λ (state : State). IsBy (2 ^ 62) (seen_of state)) (sym (cond-false (is_settled new computed s) (at step new s) (at step old s) no)) (before s))
      (cases_Bool (is_settled new computed s)))

  module _ {level : List ℕ} {above : ℕ → Bool} (one : IsLevel (rank new) marked level above) where
    level_marked : (u : ℕ) → is_among u level ≡ true → marked u ≡ true
    level_marked u h = one.split u ∙ or_left (is_among u level) (above u) h

    pub level_live : All (IsLive new) level
    level_live = λ k d l.
        (mark_parts progress (get_or level k d) (level_marked (get_or level k d) (contains_among (get_or level k d) level (Contains-get_or level k d l)))).1

    level_old : (u : ℕ) → is_among u level ≡ true → states u ≡ at step old u
    level_old u h = let parts = mark_parts progress u (level_marked u h) in waiting_old progress u parts.0 parts.1

    level_comes : (u : ℕ) → is_among u level ≡ true → come_to step (stage_at new u) states ≡ at step new u
    level_comes u h =
        comes_right law edit progress u (λ m c.
        let mine : rank new u ≡ one.least = one.level_rank u h in
        ⊎_elim
        (λ l. let theirs : rank new m ≡ one.least = one.level_rank m l in omega arith)
        (λ r. let theirs : one.least < rank new m = one.above_rank m r in omega arith)
        (or_cases (is_among m level) (above m) (sym (one.split m) ∙ c)))

    -- the places of the level get their states of the new graph
    pub level_results : (results : List (Option State)) → results ≡ map (λ u. Some (come_to step (stage_at new u) states)) level → results ≡ map (λ u. Some (at step new u)) level
    level_results results e = e ∙ same_map (λ u. Some (come_to step (stage_at new u) states)) (λ u. Some (at step new u)) level (λ u c. ap Some (level_comes u (contains_among u level c)))

    in_old : (u s : ℕ) → is_among u level ≡ true → edited s ≡ false → IsFeed new s u → has_read new states u s ≡ is_among u (reads_at step old s)
    in_old u s h other feed =
        ap (λ p. is_among u (reads_of p (states s).reads)) (edit.change.elsewhere s other)
        ∙ ap (λ (x : State). is_among u (reads_of (stage_at old s) x.reads)) (dependent_old edit progress u (level_marked u h) s feed)

    level_progress : IsProgress step old new edited (computed ++ level) (λ s. above s || list_any (tells step old new (has_read new states) s) level) (computed_in step new level states)
    level_progress =
        level_set law edit (has_read new states) one.least computed level above states
        (progress_told computed computed marked (waits_in level above) states states refl (λ s. sym (one.split s)) (λ s. refl) progress)
        one.level_rank one.above_rank (ascends_from_pairs (λ a b. a < b) level one.ascends) in_old

    -- the level is computed
    pub level_done : (marked_then : ℕ → Bool) (states_then : ℕ → State) → ((s : ℕ) → marked_then s ≡ (above s || list_any (is_told new states (at step new) s) level))
        → ((s : ℕ) → states_then s ≡ (if is_among s level then at step new s else states s)) → IsProgress step old new edited (computed ++ level) marked_then states_then
    level_done marked_then states_then m h =
        progress_told (computed ++ level) (computed ++ level) (λ s. above s || list_any (tells step old new (has_read new states) s) level) marked_then (computed_in step new level states) states_then
        refl
        (λ s. m s ∙ ap (λ b. above s || b) (same_any (is_told new states (at step new) s) (tells step old new (has_read new states) s) level
        (λ u c. ap (λ (x : State). differ (seen_of x) (seen_at (at step new) u) && (is_among u (feeds_at new s) && has_read new states u s)) (level_old u (contains_among u level c)))))
        h level_progress

    pub level_touched : length computed + length level ≤ length (touched step old new edited)
    level_touched = let all = within_touched edit level_progress in omega (arith, all, length-append computed level)

    pub level_in_graph : length computed + length level ≤ length new
    level_in_graph = let all = within_graph edit level_progress in omega (arith, all, length-append computed level)

  -- in the end nothing is marked
  pub ended : (list : List State) → ((s : ℕ) → state_at list s ≡ states s) → length list ≡ length new → ((s : ℕ) → marked s ≡ false) → AreStates step new list
  ended list same size unmarked = record { count = size; each = λ s. same s ∙ ended_states law edit progress unmarked s }

  pub touched_all : ((s : ℕ) → marked s ≡ false) → computed ≡ touched step old new edited
  touched_all unmarked = ended_touched law edit progress unmarked

-- The propagation begins.
pub first_turn : {step : Step} → ReadsDecide step → {old new : Stages} (edited : List ℕ) → IsRankedChange old new (λ s. is_among s edited) → (marked : ℕ → Bool) (states before : ℕ → State)
    → ((s : ℕ) → before s ≡ at step old s)
    → ((s : ℕ) → states s ≡ (if is_emptied new edited s then pending else before s))
    → ((s : ℕ) → marked s ≡ (is_some (stage_at new s) && is_among s edited))
    → IsProgress step old new (λ s. is_among s edited) [] marked states
first_turn {step} law {old} {new} edited edit marked states before was now m =
    begun law edit marked states m (λ s.
    ⊎_elim
    (λ here.
    let empty : is_some (stage_at new s) ≡ false = not-true (is_some (stage_at new s)) (and_parts (is_among s edited) (not (is_some (stage_at new s))) here).1 in
    now s ∙ cond-true (is_emptied new edited s) pending (before s) here
    ∙ sym (cond-false (is_some (stage_at new s)) (at step old s) pending empty))
    (λ elsewhere.
    now s ∙ cond-false (is_emptied new edited s) pending (before s) elsewhere
    ∙ was s
    ∙ ⊎_elim
    (λ live. sym (cond-true (is_some (stage_at new s)) (at step old s) pending live))
    (λ empty.
    let other : is_among s edited ≡ false =
    false_unless (is_among s edited) (λ among. true≢false (sym (and_from (is_among s edited) (not (is_some (stage_at new s))) among (not_from_false (is_some (stage_at new s)) empty)) ∙ elsewhere)) in
    let nothing : stage_at old s ≡ None = sym (edit.change.elsewhere s other) ∙ empty_none (stage_at new s) empty in
    scratch_meets law old edit.old_ranked s ∙ ap (λ p. come_to step p (at step old)) nothing
    ∙ sym (cond-false (is_some (stage_at new s)) (at step old s) pending empty))
    (cases_Bool (is_some (stage_at new s))))
    (cases_Bool (is_emptied new edited s)))

-- live places of the graph are places of the list
pub live_places : (new : Stages) (list : List State) (level : List ℕ) → length list ≡ length new → All (IsLive new) level → All (λ place. place < length list) level
live_places new list level size live k d l = let within : get_or level k d < length new = live_within new (get_or level k d) (live k d l) in omega arith

-- all states of a list are in time
pub all_in_time : (list : List State) → ((s : ℕ) → IsBy (2 ^ 62) (seen_at (state_at list) s)) → All (λ state. IsBy (2 ^ 62) (seen_of state)) list
all_in_time list each k d l = subst (λ (state : State). IsBy (2 ^ 62) (seen_of state)) (sym (get_or_any list k d l)) (each k) where
  get_or_any : (xs : List State) (i : ℕ) (d : State) → i < length xs → get_or xs i d ≡ get_or xs i pending
  get_or_any [] i d h = absurd (omega arith)
  get_or_any (x ∷ xs) zero d h = refl
  get_or_any (x ∷ xs) (suc i) d h = get_or_any xs i d (omega arith)
