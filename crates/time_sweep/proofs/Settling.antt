-- The steps of a trial: which places are marked, and what the places hold.
use Rattle.std.proofs.Common.{◌≡◌, ℕ, ◌<◌, ◌≤◌, Bool, true, false, List, [], ◌∷◌, ◌++◌, get_or, ap, sym, ◌∙◌, arith, subst, inl, inr, ⊎_elim}
use Rattle.std.specs.Prelude.{Contains, AllPairs, not, ◌==◌, ◌&&◌, ◌||◌, ◌⊎◌, zero, suc, if◌then◌else◌}
use Rattle.std.proofs.lemmas.Bool.{eqb-true, eq-eqb, and_parts, and_from, or_cases, or_left, or_parts, true≢false, cases_Bool, cond-true, cond-false, not-true, not_from_false}
use Rattle.std.proofs.lemmas.List.Elements.{Contains-get_or}
use Rattle.std.proofs.lemmas.List.Quantifiers.{all_pairs_push}
use Rattle.stage_graph.specs.Plain.{stage_at, feeds_at}
use Rattle.stage_graph.specs.Walk.{rank, IsRanked}
use Rattle.stage_ops.specs.declared.state.State.{State}
use Rattle.stage_ops.specs.States.{seen_at, seen_of}
use Rattle.stage_ops.specs.Evaluation.{at, ReadsDecide}
use Rattle.rank_order.specs.Lists.{is_among}
use Rattle.rank_order.specs.Marks.{IsFirst}
use Rattle.propagate.specs.Reach.{Stages, Step, come_to, reads_at, reads_of}
use Rattle.propagate.proofs.Members.{false_unless, contains_among, among_contains, among_push_cases, among_push_left, among_push_self}
use Rattle.propagate.proofs.Scratch.{reads_are_feeds, scratch_meets, same_on_feeds, same_on_reads}
use Rattle.propagate.proofs.Ranks.{rank_feed}
use Rattle.propagate.proofs.Ascending.{IsBefore}

-- Two ranked graphs of the same feeds, which differ at some places only.
pub record IsExchange (old new : Stages) (differs : ℕ → Bool) : Type 0 where
  pub old_ranked : IsRanked old
  pub new_ranked : IsRanked new
  pub feeds : (s : ℕ) → feeds_at new s ≡ feeds_at old s
  pub elsewhere : (s : ℕ) → differs s ≡ false → stage_at new s ≡ stage_at old s

-- what is known of a place is known of its feeds
abbrev pub IsClosed : Stages → (ℕ → Bool) → Type 0
IsClosed stages known = (s feed : ℕ) → known s ≡ true → Contains (feeds_at stages s) feed → known feed ≡ true

-- Some places are computed, in order. Each known place that is not marked has the state that it comes to.
pub record IsSettling (step : Step) (old new : Stages) (known : ℕ → Bool) (computed : List ℕ) (marked : ℕ → Bool) (states : ℕ → State) : Type 0 where
  pub meets : (s : ℕ) → known s ≡ true → marked s ≡ false → states s ≡ come_to step (stage_at new s) states
  pub either : (s : ℕ) → (states s ≡ at step old s) ⊎ (states s ≡ at step new s)
  pub within : (s : ℕ) → marked s ≡ true → known s ≡ true
  pub before : (c m : ℕ) → is_among c computed ≡ true → marked m ≡ true → IsBefore old c m
  pub ascending : AllPairs (IsBefore old) computed
  pub each_known : (c : ℕ) → is_among c computed ≡ true → known c ≡ true

-- What is not computed keeps its state. What a known place that is neither marked nor computed has read looks the same there as before. And
-- each known place that differs is marked or computed.
pub record IsCalm (step : Step) (old : Stages) (differs known : ℕ → Bool) (computed : List ℕ) (marked : ℕ → Bool) (states : ℕ → State) : Type 0 where
  pub fresh : (s : ℕ) → is_among s computed ≡ false → states s ≡ at step old s
  pub calm : (s feed : ℕ) → known s ≡ true → marked s ≡ false → is_among s computed ≡ false → is_among feed (reads_at step old s) ≡ true
      → seen_at states feed ≡ seen_at (at step old) feed
  pub differing : (s : ℕ) → known s ≡ true → differs s ≡ true → (marked s ≡ true) ⊎ (is_among s computed ≡ true)

-- at the beginning, where the places that differ are marked as far as they are known
pub calm_begun : {step : Step} {old : Stages} (differs known marked : ℕ → Bool) (states : ℕ → State) → ((s : ℕ) → known s ≡ true → differs s ≡ true → marked s ≡ true)
    → ((s : ℕ) → states s ≡ at step old s) → IsCalm step old differs known [] marked states
calm_begun {step} {old} differs known marked states each same = record {
  fresh = λ s apart. same s;
  calm = λ s feed here unmarked apart read. ap seen_of (same feed);
  differing = λ s here is. inl (each s here is);
}

module _ {step : Step} (law : ReadsDecide step) {old new : Stages} {differs : ℕ → Bool} (exchange : IsExchange old new differs) (known : ℕ → Bool) where
  -- At the beginning nothing is computed. The places whose stages differ are marked, if they are known.
  pub begun : (marked : ℕ → Bool) (states : ℕ → State) → ((s : ℕ) → known s ≡ true → marked s ≡ false → differs s ≡ false) → ((s : ℕ) → marked s ≡ true → known s ≡ true)
      → ((s : ℕ) → states s ≡ at step old s) → IsSettling step old new known [] marked states
  begun marked states other within same = record {
    meets = λ s here unmarked.
        same s
        ∙ scratch_meets law old exchange.old_ranked s
        ∙ ap (λ p. come_to step p (at step old)) (sym (exchange.elsewhere s (other s here unmarked)))
        ∙ same_on_feeds law (stage_at new s) (at step old) states (λ feed c. ap seen_of (sym (same feed)));
    either = λ s. inl (same s);
    within = within;
    before = λ c m none. absurd (none_among none);
    ascending = λ i j d below short. absurd (omega arith);
    each_known = λ c none. absurd (none_among none);
  } where
    none_among : false ≡ true → ⊥
    none_among e = cc

  module _ (closed : IsClosed old known) {computed : List ℕ} {marked : ℕ → Bool} {states : ℕ → State} (settling : IsSettling step old new known computed marked states) where
    -- A known place of a rank below all marks has its state of the new graph.
    pub settled_below : (bound : ℕ) → ((m : ℕ) → marked m ≡ true → bound ≤ rank old m) → (k s : ℕ) → rank old s < k → k ≤ bound → known s ≡ true → states s ≡ at step new s
    settled_below bound low zero s below within here = absurd (omega arith)
    settled_below bound low (suc k) s below within here =
        let unmarked : marked s ≡ false = false_unless (marked s) (λ is. let least : bound ≤ rank old s = low s is in omega arith) in
        settling.meets s here unmarked
        ∙ same_on_feeds law (stage_at new s) states (at step new)
        (λ feed c.
        let c' : Contains (feeds_at old s) feed = subst (λ feeds. Contains feeds feed) (exchange.feeds s) c in
        let lower : rank old feed < rank old s = rank_feed old exchange.old_ranked s feed c' in
        ap seen_of (settled_below bound low k feed (omega arith) (omega arith) (closed s feed here c')))
        ∙ sym (scratch_meets law new exchange.new_ranked s)

    -- The state that a known place of the least marked rank comes to is that of the new graph.
    pub comes_right : (u : ℕ) → known u ≡ true → ((m : ℕ) → marked m ≡ true → rank old u ≤ rank old m) → come_to step (stage_at new u) states ≡ at step new u
    comes_right u here low =
        same_on_feeds law (stage_at new u) states (at step new)
        (λ feed c.
        let c' : Contains (feeds_at old u) feed = subst (λ feeds. Contains feeds feed) (exchange.feeds u) c in
        ap seen_of (settled_below (rank old u) low (rank old u) feed (rank_feed old exchange.old_ranked u feed c') (omega arith) (closed u feed here c')))
        ∙ sym (scratch_meets law new exchange.new_ranked u)

    -- where nothing is marked, a known place has its state of the new graph
    pub settled_whole : ((m : ℕ) → marked m ≡ false) → (s : ℕ) → known s ≡ true → states s ≡ at step new s
    settled_whole none s here = settled_below (suc (rank old s)) (λ m is. absurd (true≢false (sym is ∙ none m))) (suc (rank old s)) s (omega arith) (omega arith) here

    module _ {left : ℕ → Bool} {u : ℕ} (first : IsFirst (rank old) marked left u) where
      pub first_known : known u ≡ true
      first_known = settling.within u first.here

      pub least_rank : (m : ℕ) → marked m ≡ true → rank old u ≤ rank old m
      least_rank m is =
          ⊎_elim
          (λ (e : u ≡ m). let same : rank old u ≡ rank old m = ap (rank old) e in omega arith)
          (λ later. ⊎_elim (λ (lower : rank old u < rank old m). omega arith) (λ tie. let same : rank old u ≡ rank old m = tie.0 in omega arith) later)
          (first.least m is)

      -- a known place of a rank below that of the first marked one has its state of the new graph
      pub settled_before : (s : ℕ) → known s ≡ true → rank old s < rank old u → states s ≡ at step new s
      settled_before s here below = settled_below (rank old u) least_rank (rank old u) s below (omega arith) here

      pub first_comes : come_to step (stage_at new u) states ≡ at step new u
      first_comes = comes_right u first_known least_rank

      -- the computed places and the first marked one, in order
      pub ascending_more : AllPairs (IsBefore old) (computed ++ u ∷ [])
      ascending_more =
          all_pairs_push (IsBefore old) computed u settling.ascending
          (λ k d short. settling.before (get_or computed k d) u (contains_among (get_or computed k d) computed (Contains-get_or computed k d short)) first.here)

      left_marked : (s : ℕ) → left s ≡ true → (marked s ≡ true) × ((s == u) ≡ false)
      left_marked s is =
          let parts = and_parts (marked s) (not (s == u)) (sym (first.rest s) ∙ is) in
          (parts.0, not-true (s == u) parts.1)

      before_left : (m : ℕ) → left m ≡ true → IsBefore old u m
      before_left m is =
          let parts = left_marked m is in
          ⊎_elim (λ (e : u ≡ m). absurd (true≢false (sym (eq-eqb m u (sym e)) ∙ parts.1))) (λ later. later) (first.least m parts.0)

      feed_lower : (s feed : ℕ) → Contains (feeds_at new s) feed → rank old feed < rank old s
      feed_lower s feed c = rank_feed old exchange.old_ranked s feed (subst (λ feeds. Contains feeds feed) (exchange.feeds s) c)

      -- reader: the places that have read the first marked one, as far as they are known and have it as a feed
      module _ (told : Bool) (reader marked_then : ℕ → Bool) (states_then : ℕ → State)
          (unread : (s : ℕ) → known s ≡ true → is_among u (feeds_at old s) ≡ true → reader s ≡ false → is_among u (reads_of (stage_at new s) (states s).reads) ≡ false)
          (tells : told ≡ false → seen_at states u ≡ seen_of (come_to step (stage_at new u) states))
          (marks : (s : ℕ) → marked_then s ≡ (left s || (told && (is_among u (feeds_at old s) && (known s && reader s)))))
          (holds : (s : ℕ) → states_then s ≡ (if u == s then come_to step (stage_at new u) states else states s)) where
        abbrev hears : ℕ → Bool
        hears s = is_among u (feeds_at old s) && (known s && reader s)

        here_then : (s : ℕ) → (u == s) ≡ true → states_then s ≡ come_to step (stage_at new u) states
        here_then s same = holds s ∙ cond-true (u == s) (come_to step (stage_at new u) states) (states s) same

        there_then : (s : ℕ) → (u == s) ≡ false → states_then s ≡ states s
        there_then s other = holds s ∙ cond-false (u == s) (come_to step (stage_at new u) states) (states s) other

        told_lower : (s : ℕ) → (told && hears s) ≡ true → (rank old u < rank old s) × (known s ≡ true)
        told_lower s is =
            let inner = and_parts told (hears s) is in
            let parts = and_parts (is_among u (feeds_at old s)) (known s && reader s) inner.1 in
            (rank_feed old exchange.old_ranked s u (among_contains u (feeds_at old s) parts.0), (and_parts (known s) (reader s) parts.1).0)

        marked_cases : (s : ℕ) → marked_then s ≡ true → (left s ≡ true) ⊎ ((rank old u < rank old s) × (known s ≡ true))
        marked_cases s is =
            ⊎_elim (λ l. inl l) (λ t. inr (told_lower s t)) (or_cases (left s) (told && hears s) (sym (marks s) ∙ is))

        unmarked_parts : (s : ℕ) → marked_then s ≡ false → (left s ≡ false) × ((told && hears s) ≡ false)
        unmarked_parts s is = or_parts (left s) (told && hears s) (sym (marks s) ∙ is)

        -- what a known place that is not marked has read of the computed place stays
        sees_same : (s read : ℕ) → known s ≡ true → marked_then s ≡ false → Contains (reads_of (stage_at new s) (states s).reads) read → seen_at states read ≡ seen_at states_then read
        sees_same s read here unmarked c =
            ⊎_elim
            (λ same.
            let e : u ≡ read = eqb-true u read same in
            let mine : Contains (reads_of (stage_at new s) (states s).reads) u = subst (λ r. Contains (reads_of (stage_at new s) (states s).reads) r) (sym e) c in
            let among : is_among u (feeds_at old s) ≡ true =
            contains_among u (feeds_at old s) (subst (λ feeds. Contains feeds u) (exchange.feeds s) (reads_are_feeds (stage_at new s) (states s).reads u mine)) in
            let quiet : told ≡ false =
            false_unless told (λ loud.
            let silent : (told && hears s) ≡ false = (unmarked_parts s unmarked).1 in
            let deaf : reader s ≡ false =
            false_unless (reader s) (λ reads.
            true≢false (sym (and_from told (hears s) loud (and_from (is_among u (feeds_at old s)) (known s && reader s) among (and_from (known s) (reader s) here reads))) ∙ silent)) in
            true≢false (sym (contains_among u (reads_of (stage_at new s) (states s).reads) mine) ∙ unread s here among deaf)) in
            ap (seen_at states) (sym e) ∙ tells quiet ∙ ap seen_of (sym (here_then read same)))
            (λ other. ap seen_of (sym (there_then read other)))
            (cases_Bool (u == read))

        -- the computed place is none of its feeds
        own_apart : (s feed : ℕ) → u ≡ s → Contains (feeds_at new s) feed → (u == feed) ≡ false
        own_apart s feed own c =
            false_unless (u == feed) (λ is.
            let lower : rank old feed < rank old s = feed_lower s feed c in
            let same : rank old feed ≡ rank old s = ap (rank old) (sym (eqb-true u feed is) ∙ own) in
            omega arith)

        meets_then : (s : ℕ) → known s ≡ true → marked_then s ≡ false → states_then s ≡ come_to step (stage_at new s) states_then
        meets_then s here unmarked =
            ⊎_elim
            (λ same.
            let e : u ≡ s = eqb-true u s same in
            here_then s same
            ∙ ap (λ p. come_to step (stage_at new p) states) e
            ∙ same_on_feeds law (stage_at new s) states states_then (λ feed c. ap seen_of (sym (there_then feed (own_apart s feed e c)))))
            (λ other.
            let others : (s == u) ≡ false = false_unless (s == u) (λ is. true≢false (sym (eq-eqb u s (sym (eqb-true s u is))) ∙ other)) in
            let was : marked s ≡ false =
            false_unless (marked s) (λ is.
            true≢false (sym (first.rest s ∙ and_from (marked s) (not (s == u)) is (not_from_false (s == u) others)) ∙ (unmarked_parts s unmarked).0)) in
            let met : states s ≡ come_to step (stage_at new s) states = settling.meets s here was in
            there_then s other
            ∙ met
            ∙ same_on_reads law (stage_at new s) states states_then
            (λ read c. sees_same s read here unmarked (subst (λ (state : State). Contains (reads_of (stage_at new s) state.reads) read) (sym met) c)))
            (cases_Bool (u == s))

        either_then : (s : ℕ) → (states_then s ≡ at step old s) ⊎ (states_then s ≡ at step new s)
        either_then s =
            ⊎_elim
            (λ same. inr (here_then s same ∙ first_comes ∙ ap (at step new) (eqb-true u s same)))
            (λ other. ⊎_elim (λ was. inl (there_then s other ∙ was)) (λ is. inr (there_then s other ∙ is)) (settling.either s))
            (cases_Bool (u == s))

        before_lower : (c m : ℕ) → IsBefore old c u → rank old u < rank old m → IsBefore old c m
        before_lower c m earlier lower =
            ⊎_elim (λ (below : rank old c < rank old u). inl (omega arith)) (λ tie. let same : rank old c ≡ rank old u = tie.0 in inl (omega arith)) earlier

        -- The first marked place is computed, and those of its dependents that have read it are marked if they can tell the difference.
        pub settling_more : IsSettling step old new known (computed ++ u ∷ []) marked_then states_then
        settling_more = record {
          meets = meets_then;
          either = either_then;
          within = λ s is. ⊎_elim (λ l. settling.within s (left_marked s l).0) (λ t. t.1) (marked_cases s is);
          before = λ c m in_computed is.
              ⊎_elim
              (λ earlier.
              ⊎_elim
              (λ l. settling.before c m earlier (left_marked m l).0)
              (λ t. before_lower c m (settling.before c u earlier first.here) t.0)
              (marked_cases m is))
              (λ (e : u ≡ c).
              subst (λ x. IsBefore old x m) e (⊎_elim (λ l. before_left m l) (λ t. inl t.0) (marked_cases m is)))
              (among_push_cases c u computed in_computed);
          ascending = ascending_more;
          each_known = λ c in_computed.
              ⊎_elim (λ earlier. settling.each_known c earlier) (λ (e : u ≡ c). subst (λ x. known x ≡ true) e first_known) (among_push_cases c u computed in_computed);
        }

        -- so the rest stays calm
        module _ (calm : IsCalm step old differs known computed marked states) (hearing : (s : ℕ) → reader s ≡ is_among u (reads_at step old s)) where
          earlier : (s : ℕ) → is_among s (computed ++ u ∷ []) ≡ false → (is_among s computed ≡ false) × ((u == s) ≡ false)
          earlier s apart = (
            false_unless (is_among s computed) (λ here. true≢false (sym (among_push_left s u computed here) ∙ apart)),
            false_unless (u == s) (λ same. true≢false (sym (subst (λ x. is_among x (computed ++ u ∷ []) ≡ true) (eqb-true u s same) (among_push_self u computed)) ∙ apart)),
          )

          was_unmarked : (s : ℕ) → (u == s) ≡ false → marked_then s ≡ false → marked s ≡ false
          was_unmarked s other unmarked =
              let others : (s == u) ≡ false = false_unless (s == u) (λ is. true≢false (sym (eq-eqb u s (sym (eqb-true s u is))) ∙ other)) in
              false_unless (marked s) (λ is.
              true≢false (sym (first.rest s ∙ and_from (marked s) (not (s == u)) is (not_from_false (s == u) others)) ∙ (unmarked_parts s unmarked).0))

          -- what has read the computed place is not marked, so it sees no difference
          sees_calm : (s : ℕ) → known s ≡ true → marked_then s ≡ false → is_among u (reads_at step old s) ≡ true → seen_at states u ≡ seen_of (come_to step (stage_at new u) states)
          sees_calm s here unmarked read =
              let among : is_among u (feeds_at old s) ≡ true =
              contains_among u (feeds_at old s) (reads_are_feeds (stage_at old s) (at step old s).reads u (among_contains u (reads_at step old s) read)) in
              tells
              (false_unless told (λ loud.
              true≢false (sym (and_from told (hears s) loud (and_from (is_among u (feeds_at old s)) (known s && reader s) among (and_from (known s) (reader s) here (hearing s ∙ read)))) ∙ (unmarked_parts s unmarked).1)))

          calm_then : (s feed : ℕ) → known s ≡ true → marked_then s ≡ false → is_among s (computed ++ u ∷ []) ≡ false → is_among feed (reads_at step old s) ≡ true
              → seen_at states_then feed ≡ seen_at (at step old) feed
          calm_then s feed here unmarked apart read =
              let parts = earlier s apart in
              let before = calm.calm s feed here (was_unmarked s parts.1 unmarked) parts.0 read in
              ⊎_elim
              (λ same.
              let e : u ≡ feed = eqb-true u feed same in
              ap seen_of (here_then feed same)
              ∙ sym (sees_calm s here unmarked (subst (λ x. is_among x (reads_at step old s) ≡ true) (sym e) read))
              ∙ ap (seen_at states) e
              ∙ before)
              (λ other. ap seen_of (there_then feed other) ∙ before)
              (cases_Bool (u == feed))

          -- what was marked is so still, or is computed
          differing_then : (s : ℕ) → known s ≡ true → differs s ≡ true → (marked_then s ≡ true) ⊎ (is_among s (computed ++ u ∷ []) ≡ true)
          differing_then s here is =
              ⊎_elim
              (λ was.
              ⊎_elim
              (λ same. inr (subst (λ x. is_among x (computed ++ u ∷ []) ≡ true) (eqb-true u s same) (among_push_self u computed)))
              (λ other.
              let others : (s == u) ≡ false = false_unless (s == u) (λ is. true≢false (sym (eq-eqb u s (sym (eqb-true s u is))) ∙ other)) in
              inl (marks s ∙ or_left (left s) (told && hears s) (first.rest s ∙ and_from (marked s) (not (s == u)) was (not_from_false (s == u) others))))
              (cases_Bool (u == s)))
              (λ was. inr (among_push_left s u computed was))
              (calm.differing s here is)

          pub calm_more : IsCalm step old differs known (computed ++ u ∷ []) marked_then states_then
          calm_more = record {
            fresh = λ s apart. let parts = earlier s apart in there_then s parts.1 ∙ calm.fresh s parts.0;
            calm = calm_then;
            differing = differing_then;
          }
