-- A trial that has come down to one place is over where it is known how much of what the place completes sooner reaches the target.
use Rattle.std.proofs.Common.{◌≡◌, ℕ, zero, suc, ◌<◌, ◌≤◌, min, Bool, true, false, not, List, [], ◌∷◌, ◌++◌, Option, Some, None, refl, ap, sym, ◌∙◌, subst, arith, inl, ⊎_elim}
use Rattle.std.specs.Prelude.{Contains, is_some, ◌==◌, ◌&&◌, ◌||◌, if◌then◌else◌}
use Rattle.std.specs.Option.{option_map}
use Rattle.std.proofs.lemmas.Bool.{and_from, and_parts, cases_Bool, cond-false, cond-true, eq-eqb, eqb-true, not-true, not_from_false, or_cases, or_right, true≢false}
use Rattle.rank_order.specs.Lists.{is_among}
use Rattle.rank_order.specs.Marks.{IsFirst}
use Rattle.stage_graph.specs.Plain.{feeds_at, stage_at}
use Rattle.stage_graph.specs.Walk.{rank}
use Rattle.stage_graph.specs.declared.stage.Stage.{Stage}
use Rattle.stage_ops.specs.declared.state.Done.{Done}
use Rattle.stage_ops.specs.declared.state.Reads.{Reads}
use Rattle.stage_ops.specs.declared.state.State.{State}
use Rattle.stage_ops.specs.Evaluation.{at, ReadsDecide}
use Rattle.stage_ops.specs.States.{Completion, seen, seen_at, seen_of, IsReadBy}
use Rattle.propagate.specs.Reach.{Stages, Step, come_to, read_places, reads_at, reads_of}
use Rattle.propagate.proofs.Members.{among_contains, contains_among, false_unless, flip_eq}
use Rattle.propagate.proofs.Ranks.{rank_feed}
use Rattle.propagate.proofs.Scratch.{read_listed, reads_are_feeds, scratch_meets}
use Rattle.time_sweep.specs.HandedOn.{IsHandedOn, ReachesBy}
use Rattle.time_sweep.specs.Known.{rank_in}
use Rattle.time_sweep.specs.Sooner.{sooner_completion, sooner_done, sooner_state, with_sooner}
use Rattle.time_sweep.proofs.Settling.{IsCalm, IsClosed, IsExchange, IsSettling, calm_more, first_comes, settling_more}

-- what dependents see of a state that comes sooner
seen_sooner : (ticks : ℕ) (state : State) → seen_of (sooner_state ticks state) ≡ option_map (sooner_completion ticks) (seen_of state)
seen_sooner ticks state = of state.done where
  of : (done : Option Done) → option_map seen (option_map (sooner_done ticks) done) ≡ option_map (sooner_completion ticks) (option_map seen done)
  of None = refl
  of (Some done) = refl

module _ {step : Step} (law : ReadsDecide step) {old new : Stages} {differs : ℕ → Bool} (exchange : IsExchange old new differs) (ranks : List (Option ℕ))
    (closed : IsClosed old (λ s. is_some (rank_in ranks s))) where
  abbrev known : ℕ → Bool
  known s = is_some (rank_in ranks s)

  -- one place is marked, and no other
  module _ {computed : List ℕ} {marked : ℕ → Bool} {states : ℕ → State} (settling : IsSettling step old new known computed marked states)
      (calm : IsCalm step old differs known computed marked states) {left : ℕ → Bool} {u : ℕ} (first : IsFirst (rank old) marked left u) (alone : (s : ℕ) → left s ≡ false) where
    abbrev now : State
    now = come_to step (stage_at new u) states

    -- the places that have read it
    abbrev reader : ℕ → Bool
    reader s = is_among u (reads_at step old s)

    abbrev hears : ℕ → Bool
    hears s = is_among u (feeds_at old s) && (known s && reader s)

    -- it is computed, and all that have read it are marked
    abbrev marked_then : ℕ → Bool
    marked_then s = left s || hears s

    abbrev states_then : ℕ → State
    states_then s = if u == s then now else states s

    -- what stands above it is not computed, so it does not differ: all places that do are computed or marked, as far as they are known
    later : (s : ℕ) → rank old u < rank old s → is_among s computed ≡ false
    later s above = false_unless (is_among s computed) (λ earlier.
        ⊎_elim
        (λ (below : rank old s < rank old u). omega arith)
        (λ tie. let same : rank old s ≡ rank old u = tie.0 in omega arith)
        (settling.before s u earlier first.here))

    elsewhere : (s : ℕ) → known s ≡ true → rank old u < rank old s → differs s ≡ false
    elsewhere s here above = false_unless (differs s) (λ is.
        ⊎_elim
        (λ marks.
        let other : (s == u) ≡ false = false_unless (s == u) (λ is. let as_high : rank old s ≡ rank old u = ap (rank old) (eqb-true s u is) in omega arith) in
        true≢false (sym (first.rest s ∙ and_from (marked s) (not (s == u)) marks (not_from_false (s == u) other)) ∙ alone s))
        (λ earlier. true≢false (sym earlier ∙ later s above))
        (calm.differing s here is))

    reads_feed : (s : ℕ) → is_among u (reads_at step old s) ≡ true → Contains (feeds_at old s) u
    reads_feed s read = reads_are_feeds (stage_at old s) (at step old s).reads u (among_contains u (reads_at step old s) read)

    unread : (s : ℕ) → known s ≡ true → is_among u (feeds_at old s) ≡ true → reader s ≡ false → is_among u (reads_of (stage_at new s) (states s).reads) ≡ false
    unread s here feed deaf =
        let above : rank old u < rank old s = rank_feed old exchange.old_ranked s u (among_contains u (feeds_at old s) feed) in
        ap (λ (here : Option Stage). is_among u (reads_of here (states s).reads)) (exchange.elsewhere s (elsewhere s here above))
        ∙ ap (λ (state : State). is_among u (reads_of (stage_at old s) state.reads)) (calm.fresh s (later s above))
        ∙ deaf

    settling_then : IsSettling step old new known (computed ++ u ∷ []) marked_then states_then
    settling_then =
        settling_more law exchange known closed settling first true reader marked_then states_then unread (λ quiet. absurd (true≢false quiet)) (λ s. refl) (λ s. refl)

    calm_then : IsCalm step old differs known (computed ++ u ∷ []) marked_then states_then
    calm_then =
        calm_more law exchange known closed settling first true reader marked_then states_then unread (λ quiet. absurd (true≢false quiet)) (λ s. refl) (λ s. refl)
        calm (λ s. refl)

    -- One stage alone has read it, and hands on no more than some ticks.
    module _ {next own : ℕ} (handed : IsHandedOn step old ranks u next own) (gain : ℕ) (sees : seen_of now ≡ option_map (sooner_completion gain) (seen_at (at step old) u)) where
      feed_of_next : Contains (feeds_at old next) u
      feed_of_next = reads_feed next handed.reads

      above : rank old u < rank old next
      above = rank_feed old exchange.old_ranked next u feed_of_next

      marked_next : marked_then next ≡ true
      marked_next =
          or_right (left next) (hears next)
          (and_from (is_among u (feeds_at old next)) (known next && reader next) (contains_among u (feeds_at old next) feed_of_next) (and_from (known next) (reader next) handed.known handed.reads))

      only_next : (s : ℕ) → marked_then s ≡ true → s ≡ next
      only_next s is =
          ⊎_elim
          (λ l. absurd (true≢false (sym l ∙ alone s)))
          (λ t.
          let inner = and_parts (is_among u (feeds_at old s)) (known s && reader s) t in
          let parts = and_parts (known s) (reader s) inner.1 in
          handed.only s parts.0 parts.1)
          (or_cases (left s) (hears s) is)

      abbrev left_then : ℕ → Bool
      left_then s = marked_then s && not (s == next)

      first_then : IsFirst (rank old) marked_then left_then next
      first_then = record { here = marked_next; least = λ other is. inl (sym (only_next other is)); rest = λ other. refl }

      alone_then : (s : ℕ) → left_then s ≡ false
      alone_then s = false_unless (left_then s) (λ is.
          let parts = and_parts (marked_then s) (not (s == next)) is in
          true≢false (sym (eq-eqb s next (only_next s parts.0)) ∙ not-true (s == next) parts.1))

      unmarked_next : marked next ≡ false
      unmarked_next =
          let higher : rank old u < rank old next = above in
          let other : (next == u) ≡ false = false_unless (next == u) (λ is. let same : rank old next ≡ rank old u = ap (rank old) (eqb-true next u is) in omega arith) in
          false_unless (marked next) (λ is.
          true≢false (sym (first.rest next ∙ and_from (marked next) (not (next == u)) is (not_from_false (next == u) other)) ∙ alone next))

      was : at step old next ≡ step handed.stage (seen_at (at step old))
      was = scratch_meets law old exchange.old_ranked next ∙ ap (λ (here : Option Stage). come_to step here (at step old)) handed.stands

      abbrev sooner_seen : ℕ → Option Completion
      sooner_seen = with_sooner gain u (seen_at (at step old))

      -- what the stage reads then it read before
      among_reads : (feed : ℕ) → IsReadBy handed.stage (step handed.stage sooner_seen).reads feed → is_among feed (reads_at step old next) ≡ true
      among_reads feed read =
          let same : (step handed.stage sooner_seen).reads ≡ (at step old next).reads =
          ap (λ (state : State). state.reads) (handed.hands_on gain ∙ ap (sooner_state (min gain own)) (sym was)) in
          contains_among feed (reads_at step old next)
          (subst (λ (here : Option Stage). Contains (reads_of here (at step old next).reads) feed) (sym handed.stands)
          (subst (λ (reads : Reads). Contains (read_places handed.stage reads) feed) same
          (read_listed handed.stage (step handed.stage sooner_seen).reads feed read)))

      -- and there it sees the place sooner, and all else as it was
      agree : (feed : ℕ) → IsReadBy handed.stage (step handed.stage sooner_seen).reads feed → sooner_seen feed ≡ seen_at states_then feed
      agree feed read =
          ⊎_elim
          (λ same.
          let e : u ≡ feed = eqb-true u feed same in
          cond-true (feed == u) (option_map (sooner_completion gain) (seen_at (at step old) feed)) (seen_at (at step old) feed) (flip_eq feed u ∙ same)
          ∙ ap (λ x. option_map (sooner_completion gain) (seen_at (at step old) x)) (sym e)
          ∙ sym sees
          ∙ ap seen_of (sym (cond-true (u == feed) now (states feed) same)))
          (λ other.
          cond-false (feed == u) (option_map (sooner_completion gain) (seen_at (at step old) feed)) (seen_at (at step old) feed) (flip_eq feed u ∙ other)
          ∙ sym (calm.calm next feed handed.known unmarked_next (later next above) (among_reads feed read))
          ∙ ap seen_of (sym (cond-false (u == feed) now (states feed) other)))
          (cases_Bool (u == feed))

      comes : come_to step (stage_at new next) states_then ≡ sooner_state (min gain own) (at step old next)
      comes =
          ap (λ (here : Option Stage). come_to step here states_then) (exchange.elsewhere next (elsewhere next handed.known above) ∙ handed.stands)
          ∙ sym (law handed.stage sooner_seen (seen_at states_then) agree)
          ∙ handed.hands_on gain
          ∙ ap (sooner_state (min gain own)) (sym was)

      sees_then : seen_of (come_to step (stage_at new next) states_then) ≡ option_map (sooner_completion (min gain own)) (seen_at (at step old) next)
      sees_then = ap seen_of comes ∙ seen_sooner (min gain own) (at step old next)

  -- so the target completes as many ticks sooner as reach it
  pub reached : (target between : ℕ) {computed : List ℕ} {marked : ℕ → Bool} {states : ℕ → State} (settling : IsSettling step old new known computed marked states)
      (calm : IsCalm step old differs known computed marked states) {left : ℕ → Bool} {u : ℕ} (first : IsFirst (rank old) marked left u) (alone : (s : ℕ) → left s ≡ false)
      (gain most : ℕ) → ReachesBy step old ranks target between u most
      → seen_of (come_to step (stage_at new u) states) ≡ option_map (sooner_completion gain) (seen_at (at step old) u)
      → at step new target ≡ sooner_state (min gain most) (at step old target)
  reached target zero settling calm first alone gain most handed sees =
      sym (first_comes law exchange known closed (settling_then settling calm first alone) (first_then settling calm first alone handed gain sees))
      ∙ comes settling calm first alone handed gain sees
  reached target (suc between) settling calm first alone gain most (further, reaches) sees =
      let least : most ≡ min further.own further.later = further.least in
      let same : min (min gain further.own) further.later ≡ min gain most = omega arith in
      reached target between (settling_then settling calm first alone) (calm_then settling calm first alone) (first_then settling calm first alone further.here gain sees)
      (alone_then settling calm first alone further.here gain sees) (min gain further.own) further.later reaches (sees_then settling calm first alone further.here gain sees)
      ∙ ap (λ ticks. sooner_state ticks (at step old target)) same
