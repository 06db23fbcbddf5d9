-- The turns of a trial.
use Rattle.std.proofs.Common.{◌≡◌, ◌^◌, ◌<◌, ◌≤◌, ℕ, min, Bool, true, false, List, [], ◌∷◌, ◌++◌, Option, length, refl, ap, sym, ◌∙◌, arith, subst, ⊎_elim, length-append}
use Rattle.std.specs.Option.{option_map}
use Rattle.std.specs.Prelude.{All, slice_set, is_some, ◌==◌, ◌&&◌, ◌||◌, if◌then◌else◌}
use Rattle.std.proofs.lemmas.Bool.{and_from, and_parts, cond-true, eq-eqb, true≢false}
use Rattle.std.proofs.lemmas.Map.Steps.{length-le_from_distinct_below}
use Rattle.stage_graph.specs.declared.stage.Stage.{Stage}
use Rattle.stage_graph.specs.Plain.{PlainGraph, stage_at, feeds_at, IsLive}
use Rattle.stage_graph.specs.Sound.{IsSound}
use Rattle.stage_graph.specs.Walk.{IsRanked, rank}
use Rattle.stage_ops.specs.declared.state.State.{State}
use Rattle.stage_ops.specs.Evaluation.{at}
use Rattle.stage_ops.specs.Java.{java_step}
use Rattle.stage_ops.specs.JavaLaws.{java_reads_decide, java_soon}
use Rattle.stage_ops.specs.States.{seen_of, state_at, IsBy}
use Rattle.scratch_eval.specs.Answers.{MomentsFollowRanks}
use Rattle.scratch_eval.proofs.Evaluating.{moments_follow_ranks}
use Rattle.rank_order.specs.Lists.{is_among}
use Rattle.rank_order.specs.Marks.{IsFirst}
use Rattle.propagate.specs.Completions.{differ}
use Rattle.propagate.specs.Reach.{AreStates, come_to, has_read, reads_of}
use Rattle.propagate.proofs.Ascending.{distinct_from_before}
use Rattle.propagate.proofs.Comparing.{same_from_differ}
use Rattle.propagate.proofs.Members.{among_contains, among_push_cases, false_unless}
use Rattle.propagate.proofs.Ranks.{live_within, rank_feed}
use Rattle.propagate.proofs.Turns.{all_in_time, in_time}
use Rattle.time_sweep.specs.declared.changes.Change.{Change}
use Rattle.time_sweep.specs.Changed.{changed_places, state_in, states_in}
use Rattle.time_sweep.specs.HandedOn.{Reaches}
use Rattle.time_sweep.specs.Known.{AreRanksFor}
use Rattle.time_sweep.specs.Sooner.{sooner_completion, sooner_state}
use Rattle.time_sweep.specs.WithStage.{is_changed, with_stages, AreFitting}
use Rattle.time_sweep.proofs.Exchanging.{all_exchange, all_ranked, all_reads, all_sound}
use Rattle.time_sweep.proofs.Overlaid.{nothing_changed, overlaid, places_long, places_more, state_anywhere, unchanged}
use Rattle.time_sweep.proofs.Reaching.{reached}
use Rattle.time_sweep.proofs.Settling.{IsCalm, IsSettling, ascending_more, begun, calm_begun, calm_more, first_comes, first_known, settled_before, settled_whole, settling_more}
use Rattle.time_sweep.proofs.Unreached.{is_known}

-- the states of a trial so far, and the places that are marked
abbrev pub IsTurn : PlainGraph → List Stage → List (Option ℕ) → List State → List ℕ → List Change → (ℕ → Bool) → Type 0
IsTurn graph changed ranks before at list marked =
    IsSettling (java_step graph.mode) graph.places (with_stages graph changed).places (is_known ranks) (changed_places list) marked (state_in before at list)

-- what is not computed is as it was
abbrev pub IsCalmTurn : PlainGraph → List Stage → List (Option ℕ) → List State → List ℕ → List Change → (ℕ → Bool) → Type 0
IsCalmTurn graph changed ranks before at list marked =
    IsCalm (java_step graph.mode) graph.places (is_changed changed) (is_known ranks) (changed_places list) marked (state_in before at list)

-- the state that a place comes to in the graph with these stages
abbrev pub comes : PlainGraph → List Stage → List State → List ℕ → List Change → ℕ → State
comes graph changed before at list place = come_to (java_step graph.mode) (stage_at (with_stages graph changed).places place) (state_in before at list)

module _ (graph : PlainGraph) (ranked : IsRanked graph.places) (sound : IsSound graph) (changed : List Stage) (fit : AreFitting graph.places changed)
    (target : ℕ) (ranks : List (Option ℕ)) (are : AreRanksFor graph.places target ranks) (before : List State) (states : AreStates (java_step graph.mode) graph.places before) where
  pub first_turn : (at : List ℕ) (list : List Change) (marked : ℕ → Bool) → list ≡ [] → ((s : ℕ) → marked s ≡ (is_known ranks s && is_changed changed s)) → IsTurn graph changed ranks before at list marked
  first_turn at' list marked none marks =
      subst (λ (computed : List ℕ). IsSettling (java_step graph.mode) graph.places (with_stages graph changed).places (is_known ranks) computed marked (state_in before at' list))
      (sym (ap changed_places none))
      (begun (java_reads_decide graph.mode) (all_exchange graph changed fit ranked) (is_known ranks) marked (state_in before at' list)
      (λ s here unmarked. false_unless (is_changed changed s) (λ is. true≢false (sym (marks s ∙ and_from (is_known ranks s) (is_changed changed s) here is) ∙ unmarked)))
      (λ s is. (and_parts (is_known ranks s) (is_changed changed s) (sym (marks s) ∙ is)).0)
      (λ s. nothing_changed before at' list none s ∙ states.each s))

  pub first_calm : (at : List ℕ) (list : List Change) (marked : ℕ → Bool) → list ≡ [] → ((s : ℕ) → marked s ≡ (is_known ranks s && is_changed changed s)) → IsCalmTurn graph changed ranks before at list marked
  first_calm at' list marked none marks =
      subst (λ (computed : List ℕ). IsCalm (java_step graph.mode) graph.places (is_changed changed) (is_known ranks) computed marked (state_in before at' list))
      (sym (ap changed_places none))
      (calm_begun (is_changed changed) (is_known ranks) marked (state_in before at' list)
      (λ s here is. marks s ∙ and_from (is_known ranks s) (is_changed changed s) here is)
      (λ s. nothing_changed before at' list none s ∙ states.each s))

  moments : MomentsFollowRanks (java_step graph.mode)
  moments = moments_follow_ranks (java_step graph.mode) (java_reads_decide graph.mode) (java_soon graph.mode)

  module _ (at' : List ℕ) (list : List Change) (marked : ℕ → Bool) (each : length at' ≡ length graph.places) (turn : IsTurn graph changed ranks before at' list marked) where
    pub turn_moments : All (λ state. IsBy (2 ^ 62) (seen_of state)) (states_in before at' list)
    turn_moments =
        all_in_time (states_in before at' list)
        (λ s.
        subst (λ (state : State). IsBy (2 ^ 62) (seen_of state)) (sym (state_anywhere before at' list (each ∙ sym states.count) s))
        (⊎_elim
        (λ old. subst (λ (state : State). IsBy (2 ^ 62) (seen_of state)) (sym old) (in_time (java_step graph.mode) moments graph ranked sound s))
        (λ new. subst (λ (state : State). IsBy (2 ^ 62) (seen_of state)) (sym new)
        (in_time (java_step graph.mode) moments (with_stages graph changed) (all_ranked graph changed fit ranked) (all_sound graph changed fit sound) s))
        (turn.either s)))

    -- in the end the target has its state
    pub ended : ((m : ℕ) → marked m ≡ false) → state_in before at' list target ≡ at (java_step graph.mode) (with_stages graph changed).places target
    ended none = settled_whole (java_reads_decide graph.mode) (all_exchange graph changed fit ranked) (is_known ranks) are.feeds turn none target are.own

    module _ {left : ℕ → Bool} {u : ℕ} (first : IsFirst (rank graph.places) marked left u) where
      pub turn_known : is_known ranks u ≡ true
      turn_known = first_known (java_reads_decide graph.mode) (all_exchange graph changed fit ranked) (is_known ranks) are.feeds turn first

      pub turn_live : IsLive graph.places u
      turn_live = are.live u turn_known

      -- the same where the first mark is of a higher rank
      pub ended_before : rank graph.places target < rank graph.places u → state_in before at' list target ≡ at (java_step graph.mode) (with_stages graph changed).places target
      ended_before below = settled_before (java_reads_decide graph.mode) (all_exchange graph changed fit ranked) (is_known ranks) are.feeds turn first target are.own below

      pub turn_few : length list < length graph.places
      turn_few =
          let places : List ℕ = changed_places list ++ u ∷ [] in
          let short : length places ≤ length graph.places =
          length-le_from_distinct_below places (length graph.places)
          (distinct_from_before graph.places places (ascending_more (java_reads_decide graph.mode) (all_exchange graph changed fit ranked) (is_known ranks) are.feeds turn first))
          (λ s among.
          live_within graph.places s
          (⊎_elim
          (λ earlier. are.live s (turn.each_known s earlier))
          (λ (e : u ≡ s). subst (λ place. is_some (stage_at graph.places place) ≡ true) e turn_live)
          (among_push_cases s u (changed_places list) among))) in
          omega (arith, short, length-append (changed_places list) (u ∷ []), places_long list)

      -- A dependent is not computed before, so it has the state of the version, and has read what it had read there.
      unread : (s : ℕ) → is_known ranks s ≡ true → is_among u (feeds_at graph.places s) ≡ true → has_read graph.places (state_at before) u s ≡ false
          → is_among u (reads_of (stage_at (with_stages graph changed).places s) (state_in before at' list s).reads) ≡ false
      unread s known feed deaf =
          let lower : rank graph.places u < rank graph.places s = rank_feed graph.places ranked s u (among_contains u (feeds_at graph.places s) feed) in
          let later : is_among s (changed_places list) ≡ false =
          false_unless (is_among s (changed_places list)) (λ earlier.
          ⊎_elim
          (λ (below : rank graph.places s < rank graph.places u). omega arith)
          (λ tie. let same : rank graph.places s ≡ rank graph.places u = tie.0 in omega arith)
          (turn.before s u earlier first.here)) in
          ap (λ (places : List ℕ). is_among u places)
          (all_reads graph changed fit s (state_in before at' list s).reads
          ∙ ap (λ (state : State). reads_of (stage_at graph.places s) state.reads) (unchanged before at' list s later))
          ∙ deaf

      module _ (at_then : List ℕ) (list_then : List Change) (marked_then : ℕ → Bool)
          (at_is : at_then ≡ slice_set at' u (length list))
          (list_is : list_then ≡ list ++ (record { place = u; state = comes graph changed before at' list u }) ∷ [])
          (marks : (s : ℕ) → marked_then s ≡ (left s || (differ (seen_of (state_in before at' list u)) (seen_of (comes graph changed before at' list u)) && (is_among u (feeds_at graph.places s) && (is_known ranks s && has_read graph.places (state_at before) u s))))) where
        abbrev now : State
        now = comes graph changed before at' list u

        holds : (s : ℕ) → state_in before at_then list_then s ≡ (if u == s then now else state_in before at' list s)
        holds s =
            ap (λ (at'' : List ℕ). state_in before at'' list_then s) at_is
            ∙ ap (λ (list'' : List Change). state_in before (slice_set at' u (length list)) list'' s) list_is
            ∙ overlaid before at' list u now (let inside = live_within graph.places u turn_live in omega (arith, inside, each)) s

        pub next_turn : IsTurn graph changed ranks before at_then list_then marked_then
        next_turn =
            subst (λ (computed : List ℕ). IsSettling (java_step graph.mode) graph.places (with_stages graph changed).places (is_known ranks) computed marked_then (state_in before at_then list_then))
            (sym (ap changed_places list_is ∙ places_more list (record { place = u; state = now })))
            (settling_more (java_reads_decide graph.mode) (all_exchange graph changed fit ranked) (is_known ranks) are.feeds turn first
            (differ (seen_of (state_in before at' list u)) (seen_of now)) (has_read graph.places (state_at before) u) marked_then (state_in before at_then list_then) unread
            (same_from_differ (seen_of (state_in before at' list u)) (seen_of now))
            marks
            holds)

        -- the computed place has its state of the graph with the changed stages
        pub ended_here : u ≡ target → state_in before at_then list_then target ≡ at (java_step graph.mode) (with_stages graph changed).places target
        ended_here here =
            holds target
            ∙ cond-true (u == target) now (state_in before at' list target) (eq-eqb u target here)
            ∙ first_comes (java_reads_decide graph.mode) (all_exchange graph changed fit ranked) (is_known ranks) are.feeds turn first
            ∙ ap (at (java_step graph.mode) (with_stages graph changed).places) here

        -- the computed place has the state that it came to
        pub now_here : state_in before at_then list_then u ≡ now
        now_here = holds u ∙ cond-true (u == u) now (state_in before at' list u) (eq-eqb u u refl)

        module _ (calm : IsCalmTurn graph changed ranks before at' list marked) where
          pub next_calm : IsCalmTurn graph changed ranks before at_then list_then marked_then
          next_calm =
              subst (λ (computed : List ℕ). IsCalm (java_step graph.mode) graph.places (is_changed changed) (is_known ranks) computed marked_then (state_in before at_then list_then))
              (sym (ap changed_places list_is ∙ places_more list (record { place = u; state = now })))
              (calm_more (java_reads_decide graph.mode) (all_exchange graph changed fit ranked) (is_known ranks) are.feeds turn first
              (differ (seen_of (state_in before at' list u)) (seen_of now)) (has_read graph.places (state_at before) u) marked_then (state_in before at_then list_then) unread
              (same_from_differ (seen_of (state_in before at' list u)) (seen_of now))
              marks
              holds
              calm
              (λ s. ap (λ (state : State). is_among u (reads_of (stage_at graph.places s) state.reads)) (states.each s)))

          -- Where no other place is marked, and what it completes sooner reaches the target, as far as it does, the target has its state.
          pub handed_target : ((s : ℕ) → left s ≡ false) → (gain most : ℕ) → Reaches (java_step graph.mode) graph.places ranks target u most
              → seen_of (state_in before at_then list_then u) ≡ option_map (sooner_completion gain) (seen_of (state_at before u))
              → at (java_step graph.mode) (with_stages graph changed).places target ≡ sooner_state (min gain most) (at (java_step graph.mode) graph.places target)
          handed_target alone gain most (between, reaches) sees =
              reached (java_reads_decide graph.mode) (all_exchange graph changed fit ranked) ranks are.feeds target between turn calm first alone gain most reaches
              (ap seen_of (sym now_here) ∙ sees ∙ ap (λ (state : State). option_map (sooner_completion gain) (seen_of state)) (states.each u))
