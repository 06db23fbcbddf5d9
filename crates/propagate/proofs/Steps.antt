-- The steps of a propagation: which places are computed so far, which are marked, and what the places hold.
use Rattle.std.proofs.Common.{◌≡◌, ℕ, ◌<◌, ◌≤◌, ◌≢◌, Bool, true, false, cond, List, [], ◌∷◌, ◌++◌, Option, Some, None, get_or, refl, ap, sym, ◌∙◌, arith, subst, inl, inr, ⊎_elim}
use Rattle.std.specs.Prelude.{Contains, AllPairs, not, ◌==◌, ◌&&◌, ◌||◌, ◌⊎◌, zero, suc, is_some, if◌then◌else◌}
use Rattle.std.specs.List.{list_any}
use Rattle.std.proofs.lemmas.Bool.{not-false, not-true, eqb-true, eqb-false, or_parts, or_from, or_cases, or_left, or_right, and_parts, and_from, true≢false, cases_Bool, cond-true, cond-false, not_from_false, not_from_true}
use Rattle.std.proofs.lemmas.List.Elements.{Contains-get_or}
use Rattle.std.proofs.lemmas.List.Quantifiers.{all_pairs_push}
use Rattle.stage_graph.specs.declared.stage.Stage.{Stage}
use Rattle.stage_graph.specs.Plain.{stage_at, feeds_at, feeds_of_place}
use Rattle.stage_graph.specs.Walk.{rank, IsRanked}
use Rattle.stage_ops.specs.declared.state.State.{State}
use Rattle.stage_ops.specs.States.{seen_at, seen_of}
use Rattle.stage_ops.specs.Evaluation.{at, ReadsDecide}
use Rattle.propagate.specs.Completions.{differ}
use Rattle.rank_order.specs.Lists.{is_among}
use Rattle.propagate.specs.Reach.{Stages, Step, come_to, IsChange, reads_of, reads_at, is_reached, is_touched}
use Rattle.propagate.proofs.Members.{same_tests, false_unless, some_passes, passes, among_contains, contains_among, among_push_left, among_push_self, among_push_cases}
use Rattle.propagate.proofs.Comparing.{same_from_differ, differ_from_same}
use Rattle.propagate.proofs.Scratch.{scratch_meets, reads_are_feeds, same_on_reads, same_on_feeds}
use Rattle.propagate.proofs.Ranks.{HasLiveFeeds, rank_feed}
use Rattle.propagate.proofs.Ascending.{IsBefore}

-- From a ranked graph to a ranked graph, which differ only at the edited places.
pub record IsRankedChange (old new : Stages) (edited : ℕ → Bool) : Type 0 where
  pub old_ranked : IsRanked old
  pub new_ranked : IsRanked new
  pub live : HasLiveFeeds new
  pub change : IsChange old new edited

-- there is a stage at s that may read the other place
abbrev pub IsFeed : Stages → ℕ → ℕ → Type 0
IsFeed stages s feed = Contains (feeds_at stages s) feed

-- a stage that is not the edited one may read in the new graph what it read in the old one
read_is_feed : (step : Step) {old new : Stages} {edited : ℕ → Bool} → IsRankedChange old new edited → (s read : ℕ) → edited s ≡ false → Contains (reads_at step old s) read → IsFeed new s read
read_is_feed step {old} {new} edit s read other h =
    subst (λ p. Contains (feeds_of_place p) read) (sym (edit.change.elsewhere s other))
    (reads_are_feeds (stage_at old s) (at step old s).reads read h)

feed_live : {old new : Stages} {edited : ℕ → Bool} → IsRankedChange old new edited → (s feed : ℕ) → IsFeed new s feed → is_some (stage_at new feed) ≡ true
feed_live edit s feed h = edit.live s feed h

-- what has a feed is a stage
pub has_feed_live : (stages : Stages) (s feed : ℕ) → IsFeed stages s feed → is_some (stage_at stages s) ≡ true
has_feed_live stages s feed h = has (stage_at stages s) h where
  has : (stage : Option Stage) → Contains (feeds_of_place stage) feed → is_some stage ≡ true
  has None c = absurd (omega arith)
  has (Some stage) c = refl

-- whether s has another state in the new graph
abbrev pub is_changed : Step → Stages → Stages → ℕ → Bool
is_changed step old new s = differ (seen_at (at step old) s) (seen_at (at step new) s)

-- whether s has its state of the new graph: it was computed, or is empty
abbrev pub is_settled : Stages → List ℕ → ℕ → Bool
is_settled new computed s = is_among s computed || not (is_some (stage_at new s))

-- whether the place was computed, and has another state in the new graph
abbrev pub is_computed_change : Step → Stages → Stages → List ℕ → ℕ → Bool
is_computed_change step old new computed s = is_among s computed && is_changed step old new s

-- whether s is the edited place, or in the old graph read such a place
abbrev pub is_reached_so_far : Step → Stages → Stages → (ℕ → Bool) → List ℕ → ℕ → Bool
is_reached_so_far step old new edited computed s = edited s || list_any (is_computed_change step old new computed) (reads_at step old s)

-- Some touched places are computed, in order, and the marked ones are those that they reach.
pub record IsProgress (step : Step) (old new : Stages) (edited : ℕ → Bool) (computed : List ℕ) (marked : ℕ → Bool) (states : ℕ → State) : Type 0 where
  pub hold : (s : ℕ) → states s ≡ (if is_settled new computed s then at step new s else at step old s)
  pub marks : (s : ℕ) → marked s ≡ (not (is_among s computed) && (is_some (stage_at new s) && is_reached_so_far step old new edited computed s))
  pub before : (c m : ℕ) → is_among c computed ≡ true → marked m ≡ true → IsBefore new c m
  pub ascending : AllPairs (IsBefore new) computed
  pub each_touched : (s : ℕ) → is_among s computed ≡ true → is_touched step old new edited s ≡ true

-- A place that is not reached has the state that it had in the old graph.
kept : {step : Step} → ReadsDecide step → {old new : Stages} {edited : ℕ → Bool} → IsRankedChange old new edited → (s : ℕ) → is_reached step old edited (seen_at (at step new)) s ≡ false
    → at step old s ≡ come_to step (stage_at new s) (at step new)
kept {step} law {old} {new} {edited} edit s h =
    let parts = or_parts (edited s) (list_any (is_changed step old new) (reads_at step old s)) h in
    let meets = scratch_meets law old edit.old_ranked s in
    meets
    ∙ same_on_reads law (stage_at old s) (at step old) (at step new)
    (subst (λ (state : State). (read : ℕ) → Contains (reads_of (stage_at old s) state.reads) read → seen_at (at step old) read ≡ seen_at (at step new) read) meets
    (λ read c. same_from_differ (seen_at (at step old) read) (seen_at (at step new) read)
    (false_unless (is_changed step old new read) (λ d. true≢false (sym (passes (is_changed step old new) (reads_at step old s) read c d) ∙ parts.1)))))
    ∙ ap (λ p. come_to step p (at step new)) (sym (edit.change.elsewhere s parts.0))

-- A place that is not touched keeps its state.
pub untouched_same : {step : Step} → ReadsDecide step → {old new : Stages} {edited : ℕ → Bool} → IsRankedChange old new edited → (s : ℕ) → is_reached step old edited (seen_at (at step new)) s ≡ false → at step old s ≡ at step new s
untouched_same {step} law {old} {new} edit s h = kept law edit s h ∙ sym (scratch_meets law new edit.new_ranked s)

-- A place with another state in the new stages is touched.
changed_touched : {step : Step} → ReadsDecide step → {old new : Stages} {edited : ℕ → Bool} → IsRankedChange old new edited → (s : ℕ) → is_some (stage_at new s) ≡ true → is_changed step old new s ≡ true → is_touched step old new edited s ≡ true
changed_touched {step} law {old} {new} {edited} edit s live d =
    and_from (is_some (stage_at new s)) (is_reached step old edited (seen_at (at step new)) s) live
    (⊎_elim
    (λ t. t)
    (λ f.
    absurd (true≢false (sym d ∙ differ_from_same (seen_at (at step old) s) (seen_at (at step new) s) (ap seen_of (untouched_same law edit s f)))))
    (cases_Bool (is_reached step old edited (seen_at (at step new)) s)))

-- A touched place is reached so far, if the touched places of smaller ranks are computed.
touched_reached : {step : Step} → ReadsDecide step → {old new : Stages} {edited : ℕ → Bool} → IsRankedChange old new edited → (computed : List ℕ) (s : ℕ)
    → ((read : ℕ) → rank new read < rank new s → is_touched step old new edited read ≡ true → is_among read computed ≡ true)
    → is_reached step old edited (seen_at (at step new)) s ≡ true → is_reached_so_far step old new edited computed s ≡ true
touched_reached {step} law {old} {new} {edited} edit computed s below reached =
    ⊎_elim
    (λ same. or_left (edited s) (list_any (is_computed_change step old new computed) (reads_at step old s)) same)
    (λ other.
    let through : list_any (is_changed step old new) (reads_at step old s) ≡ true =
    ⊎_elim (λ e. absurd (true≢false (sym e ∙ other))) (λ r. r) (or_cases (edited s) (list_any (is_changed step old new) (reads_at step old s)) reached) in
    let (read, c, d) = some_passes (is_changed step old new) (reads_at step old s) through in
    let feed : IsFeed new s read = read_is_feed step edit s read other c in
    let computed_before : is_among read computed ≡ true =
    below read (rank_feed new edit.new_ranked s read feed) (changed_touched law edit read (feed_live edit s read feed) d) in
    or_right (edited s) (list_any (is_computed_change step old new computed) (reads_at step old s))
    (passes (is_computed_change step old new computed) (reads_at step old s) read c
    (and_from (is_among read computed) (is_changed step old new read) computed_before d)))
    (cases_Bool (edited s))

-- A touched place of a rank below all marks is computed.
pub touched_below : {step : Step} → ReadsDecide step → {old new : Stages} {edited : ℕ → Bool} → IsRankedChange old new edited → {computed : List ℕ} {marked : ℕ → Bool} {states : ℕ → State} → IsProgress step old new edited computed marked states
    → (bound : ℕ) → ((m : ℕ) → marked m ≡ true → bound ≤ rank new m) → (k s : ℕ) → rank new s < k → k ≤ bound → is_touched step old new edited s ≡ true → is_among s computed ≡ true
touched_below law edit progress bound low zero s below within t = absurd (omega arith)
touched_below {step} law {old} {new} {edited} edit {computed} {marked} progress bound low (suc k) s below within t =
    let parts = and_parts (is_some (stage_at new s)) (is_reached step old edited (seen_at (at step new)) s) t in
    let so_far : is_reached_so_far step old new edited computed s ≡ true =
    touched_reached law edit computed s (λ read lower. touched_below law edit progress bound low k read (omega arith) (omega arith)) parts.1 in
    ⊎_elim
    (λ yes. yes)
    (λ no.
    let here : marked s ≡ true = progress.marks s
    ∙ and_from (not (is_among s computed)) (is_some (stage_at new s) && is_reached_so_far step old new edited computed s) (not_from_false (is_among s computed) no)
    (and_from (is_some (stage_at new s)) (is_reached_so_far step old new edited computed s) parts.0 so_far) in
    let above : bound ≤ rank new s = low s here in
    absurd (omega arith))
    (cases_Bool (is_among s computed))

-- where s has its state of the new graph
hold_new : {step : Step} {old new : Stages} {edited : ℕ → Bool} {computed : List ℕ} {marked : ℕ → Bool} {states : ℕ → State} → IsProgress step old new edited computed marked states → (s : ℕ) → is_settled new computed s ≡ true → states s ≡ at step new s
hold_new {step} {old} {new} {edited} {computed} progress s h = progress.hold s ∙ cond-true (is_settled new computed s) (at step new s) (at step old s) h

hold_old : {step : Step} {old new : Stages} {edited : ℕ → Bool} {computed : List ℕ} {marked : ℕ → Bool} {states : ℕ → State} → IsProgress step old new edited computed marked states → (s : ℕ) → is_settled new computed s ≡ false → states s ≡ at step old s
hold_old {step} {old} {new} {edited} {computed} progress s h = progress.hold s ∙ cond-false (is_settled new computed s) (at step new s) (at step old s) h

-- A place of a rank below all marks has its state of the new graph.
pub holds_below : {step : Step} → ReadsDecide step → {old new : Stages} {edited : ℕ → Bool} → IsRankedChange old new edited → {computed : List ℕ} {marked : ℕ → Bool} {states : ℕ → State} → IsProgress step old new edited computed marked states
    → (bound : ℕ) → ((m : ℕ) → marked m ≡ true → bound ≤ rank new m) → (s : ℕ) → rank new s < bound → states s ≡ at step new s
holds_below {step} law {old} {new} {edited} edit {computed} progress bound low s below =
    ⊎_elim
    (λ yes. hold_new progress s yes)
    (λ no.
    let parts = or_parts (is_among s computed) (not (is_some (stage_at new s))) no in
    hold_old progress s no
    ∙ ⊎_elim
    (λ reached.
    let computed_before : is_among s computed ≡ true =
    touched_below law edit progress bound low bound s below (omega arith)
    (and_from (is_some (stage_at new s)) (is_reached step old edited (seen_at (at step new)) s) (not-false (is_some (stage_at new s)) parts.1) reached) in
    absurd (true≢false (sym computed_before ∙ parts.0)))
    (λ unreached. untouched_same law edit s unreached)
    (cases_Bool (is_reached step old edited (seen_at (at step new)) s)))
    (cases_Bool (is_settled new computed s))

-- The state that is now computed for a place of the least marked rank is that of the new graph.
pub comes_right : {step : Step} → ReadsDecide step → {old new : Stages} {edited : ℕ → Bool} → IsRankedChange old new edited → {computed : List ℕ} {marked : ℕ → Bool} {states : ℕ → State} → IsProgress step old new edited computed marked states
    → (u : ℕ) → ((m : ℕ) → marked m ≡ true → rank new u ≤ rank new m) → come_to step (stage_at new u) states ≡ at step new u
comes_right {step} law {old} {new} edit {computed} {marked} {states} progress u low =
    same_on_feeds law (stage_at new u) states (at step new)
    (λ feed f. ap seen_of (holds_below law edit progress (rank new u) low feed (rank_feed new edit.new_ranked u feed f)))
    ∙ sym (scratch_meets law new edit.new_ranked u)

-- what is reached so far stays reached
reached_more : (step : Step) (old new : Stages) (edited : ℕ → Bool) (computed : List ℕ) (u s : ℕ) → is_reached_so_far step old new edited computed s ≡ true → is_reached_so_far step old new edited (computed ++ u ∷ []) s ≡ true
reached_more step old new edited computed u s h =
    ⊎_elim
    (λ same. or_left (edited s) (list_any (is_computed_change step old new (computed ++ u ∷ [])) (reads_at step old s)) same)
    (λ through.
    let (read, c, d) = some_passes (is_computed_change step old new computed) (reads_at step old s) through in
    let parts = and_parts (is_among read computed) (is_changed step old new read) d in
    or_right (edited s) (list_any (is_computed_change step old new (computed ++ u ∷ [])) (reads_at step old s))
    (passes (is_computed_change step old new (computed ++ u ∷ [])) (reads_at step old s) read c
    (and_from (is_among read (computed ++ u ∷ [])) (is_changed step old new read) (among_push_left read u computed parts.0) parts.1)))
    (or_cases (edited s) (list_any (is_computed_change step old new computed) (reads_at step old s)) h)

-- what is reached so far is reached
reached_so_far_reached : (step : Step) (old new : Stages) (edited : ℕ → Bool) (computed : List ℕ) (s : ℕ) → is_reached_so_far step old new edited computed s ≡ true → is_reached step old edited (seen_at (at step new)) s ≡ true
reached_so_far_reached step old new edited computed s h =
    ⊎_elim
    (λ same. or_left (edited s) (list_any (is_changed step old new) (reads_at step old s)) same)
    (λ through.
    let (read, c, d) = some_passes (is_computed_change step old new computed) (reads_at step old s) through in
    let parts = and_parts (is_among read computed) (is_changed step old new read) d in
    or_right (edited s) (list_any (is_changed step old new) (reads_at step old s))
    (passes (is_changed step old new) (reads_at step old s) read c parts.1))
    (or_cases (edited s) (list_any (is_computed_change step old new computed) (reads_at step old s)) h)

-- a marked place is not computed, is a stage and is reached
pub mark_parts : {step : Step} {old new : Stages} {edited : ℕ → Bool} {computed : List ℕ} {marked : ℕ → Bool} {states : ℕ → State} → IsProgress step old new edited computed marked states → (s : ℕ) → marked s ≡ true
    → (is_among s computed ≡ false) × (is_some (stage_at new s) ≡ true) × (is_reached_so_far step old new edited computed s ≡ true)
mark_parts {step} {old} {new} {edited} {computed} progress s h =
    let outer = and_parts (not (is_among s computed)) (is_some (stage_at new s) && is_reached_so_far step old new edited computed s) (sym (progress.marks s) ∙ h) in
    let inner = and_parts (is_some (stage_at new s)) (is_reached_so_far step old new edited computed s) outer.1 in
    (not-true (is_among s computed) outer.0, inner.0, inner.1)

-- and so it is touched
pub marked_touched : {step : Step} {old new : Stages} {edited : ℕ → Bool} {computed : List ℕ} {marked : ℕ → Bool} {states : ℕ → State} → IsProgress step old new edited computed marked states → (s : ℕ) → marked s ≡ true → is_touched step old new edited s ≡ true
marked_touched {step} {old} {new} {edited} {computed} progress s h =
    let parts = mark_parts progress s h in
    and_from (is_some (stage_at new s)) (is_reached step old edited (seen_at (at step new)) s) parts.1 (reached_so_far_reached step old new edited computed s parts.2)

mark_from : {step : Step} {old new : Stages} {edited : ℕ → Bool} {computed : List ℕ} {marked : ℕ → Bool} {states : ℕ → State} → IsProgress step old new edited computed marked states → (s : ℕ)
    → is_among s computed ≡ false → is_some (stage_at new s) ≡ true → is_reached_so_far step old new edited computed s ≡ true → marked s ≡ true
mark_from {step} {old} {new} {edited} {computed} progress s a b c =
    progress.marks s
    ∙ and_from (not (is_among s computed)) (is_some (stage_at new s) && is_reached_so_far step old new edited computed s) (not_from_false (is_among s computed) a)
    (and_from (is_some (stage_at new s)) (is_reached_so_far step old new edited computed s) b c)

not_before_lower : (stages : Stages) (a b : ℕ) → rank stages b < rank stages a → IsBefore stages a b → ⊥
not_before_lower stages a b lower (inl h) = omega arith
not_before_lower stages a b lower (inr (h, l)) = omega arith

before_lower : (stages : Stages) (a b c : ℕ) → IsBefore stages a b → rank stages b < rank stages c → IsBefore stages a c
before_lower stages a b c (inl h) lower = inl (omega arith)
before_lower stages a b c (inr (h, l)) lower = inl (omega arith)

-- a dependent of a marked place is not computed before it
pub dependent_waits : {step : Step} {old new : Stages} {edited : ℕ → Bool} → IsRankedChange old new edited → {computed : List ℕ} {marked : ℕ → Bool} {states : ℕ → State} → IsProgress step old new edited computed marked states
    → (u : ℕ) → marked u ≡ true → (s : ℕ) → IsFeed new s u → is_among s (computed ++ u ∷ []) ≡ false
dependent_waits {step} {old} {new} edit {computed} progress u here s f =
    let lower : rank new u < rank new s = rank_feed new edit.new_ranked s u f in
    false_unless (is_among s (computed ++ u ∷ [])) (λ h.
    ⊎_elim
    (λ l. not_before_lower new s u lower (progress.before s u l here))
    (λ (same : u ≡ s). let equal : rank new u ≡ rank new s = ap (rank new) same in omega arith)
    (among_push_cases s u computed h))

-- a place that is not computed, and is a stage, is as it was
pub waiting_old : {step : Step} {old new : Stages} {edited : ℕ → Bool} {computed : List ℕ} {marked : ℕ → Bool} {states : ℕ → State} → IsProgress step old new edited computed marked states
    → (s : ℕ) → is_among s computed ≡ false → is_some (stage_at new s) ≡ true → states s ≡ at step old s
waiting_old {step} {old} {new} {edited} {computed} progress s a live =
    hold_old progress s (or_from (is_among s computed) (not (is_some (stage_at new s))) a (not_from_true (is_some (stage_at new s)) live))

-- a dependent of a marked place is as it was
pub dependent_old : {step : Step} {old new : Stages} {edited : ℕ → Bool} → IsRankedChange old new edited → {computed : List ℕ} {marked : ℕ → Bool} {states : ℕ → State} → IsProgress step old new edited computed marked states
    → (u : ℕ) → marked u ≡ true → (s : ℕ) → IsFeed new s u → states s ≡ at step old s
dependent_old {step} {old} {new} edit {computed} progress u here s f =
    waiting_old progress s
    (false_unless (is_among s computed) (λ e. true≢false (sym (among_push_left s u computed e) ∙ dependent_waits edit progress u here s f)))
    (has_feed_live new s u f)

-- The marks once u is computed: the others, and the dependents of u that read it, if its state has changed.
abbrev pub marks_after : Step → Stages → Stages → ℕ → (ℕ → Bool) → (ℕ → Bool) → ℕ → Bool
marks_after step old new u marked reads_it s = (marked s && not (u == s)) || (is_changed step old new u && (is_among u (feeds_at new s) && reads_it s))

-- One place is computed: the least marked one.
pub record IsStep (step : Step) (old new : Stages) (edited : ℕ → Bool) (u : ℕ) (marked : ℕ → Bool) (states : ℕ → State) (marked_after : ℕ → Bool) (states_after : ℕ → State) : Type 0 where
  pub is_marked : marked u ≡ true
  pub least : (m : ℕ) → marked m ≡ true → (u ≡ m) ⊎ IsBefore new u m
  pub reads_it : ℕ → Bool
  pub read_in_old : (s : ℕ) → edited s ≡ false → IsFeed new s u → reads_it s ≡ is_among u (reads_at step old s)
  pub marks : (s : ℕ) → marked_after s ≡ marks_after step old new u marked reads_it s
  pub hold : (s : ℕ) → states_after s ≡ (if u == s then at step new u else states s)

module _ {step : Step} (law : ReadsDecide step) {old new : Stages} {edited : ℕ → Bool} (edit : IsRankedChange old new edited) {computed : List ℕ} {marked : ℕ → Bool} {states : ℕ → State}
    (progress : IsProgress step old new edited computed marked states) {u : ℕ} {marked_after : ℕ → Bool} {states_after : ℕ → State}
    (one : IsStep step old new edited u marked states marked_after states_after) where
  -- a mark after the step was one before, or is a dependent of u that read it
  mark_cases : (s : ℕ) → marked_after s ≡ true → ((marked s ≡ true) × (u ≢ s)) ⊎ ((is_changed step old new u ≡ true) × IsFeed new s u × (one.reads_it s ≡ true))
  mark_cases s h =
      ⊎_elim
      (λ l. let parts = and_parts (marked s) (not (u == s)) l in inl (parts.0, eqb-false u s (not-true (u == s) parts.1)))
      (λ r.
      let parts = and_parts (is_changed step old new u) (is_among u (feeds_at new s) && one.reads_it s) r in
      let inner = and_parts (is_among u (feeds_at new s)) (one.reads_it s) parts.1 in
      inr (parts.0, among_contains u (feeds_at new s) inner.0, inner.1))
      (or_cases (marked s && not (u == s)) (is_changed step old new u && (is_among u (feeds_at new s) && one.reads_it s)) (sym (one.marks s) ∙ h))

  stays_marked : (s : ℕ) → marked s ≡ true → u ≢ s → marked_after s ≡ true
  stays_marked s h other =
      one.marks s
      ∙ or_left (marked s && not (u == s)) (is_changed step old new u && (is_among u (feeds_at new s) && one.reads_it s))
      (and_from (marked s) (not (u == s)) h (not_from_false (u == s) (false_unless (u == s) (λ e. other (eqb-true u s e)))))

  newly_marked : (s : ℕ) → is_changed step old new u ≡ true → IsFeed new s u → one.reads_it s ≡ true → marked_after s ≡ true
  newly_marked s c f r =
      one.marks s
      ∙ or_right (marked s && not (u == s)) (is_changed step old new u && (is_among u (feeds_at new s) && one.reads_it s))
      (and_from (is_changed step old new u) (is_among u (feeds_at new s) && one.reads_it s) c
      (and_from (is_among u (feeds_at new s)) (one.reads_it s) (contains_among u (feeds_at new s) f) r))

  -- the conditions on a place that is marked after the step
  waits : ℕ → Bool
  waits s = not (is_among s (computed ++ u ∷ [])) && (is_some (stage_at new s) && is_reached_so_far step old new edited (computed ++ u ∷ []) s)

  waits_from : (s : ℕ) → is_among s (computed ++ u ∷ []) ≡ false → is_some (stage_at new s) ≡ true → is_reached_so_far step old new edited (computed ++ u ∷ []) s ≡ true → waits s ≡ true
  unfolding waits
  waits_from s a b c =
      and_from (not (is_among s (computed ++ u ∷ []))) (is_some (stage_at new s) && is_reached_so_far step old new edited (computed ++ u ∷ []) s) (not_from_false (is_among s (computed ++ u ∷ [])) a)
      (and_from (is_some (stage_at new s)) (is_reached_so_far step old new edited (computed ++ u ∷ []) s) b c)

  marked_waits : (s : ℕ) → marked_after s ≡ true → waits s ≡ true
  marked_waits s h =
      ⊎_elim
      (λ (was, other).
      let parts = mark_parts progress s was in
      waits_from s
      (false_unless (is_among s (computed ++ u ∷ [])) (λ e. ⊎_elim (λ l. true≢false (sym l ∙ parts.0)) (λ same. other same) (among_push_cases s u computed e)))
      parts.1
      (reached_more step old new edited computed u s parts.2))
      (λ (changed, feed, reads).
      waits_from s (dependent_waits edit progress u one.is_marked s feed) (has_feed_live new s u feed)
      (⊎_elim
      (λ same. or_left (edited s) (list_any (is_computed_change step old new (computed ++ u ∷ [])) (reads_at step old s)) same)
      (λ other.
      or_right (edited s) (list_any (is_computed_change step old new (computed ++ u ∷ [])) (reads_at step old s))
      (passes (is_computed_change step old new (computed ++ u ∷ [])) (reads_at step old s) u
      (among_contains u (reads_at step old s) (sym (one.read_in_old s other feed) ∙ reads))
      (and_from (is_among u (computed ++ u ∷ [])) (is_changed step old new u) (among_push_self u computed) changed)))
      (cases_Bool (edited s))))
      (mark_cases s h)

  waits_marked : (s : ℕ) → waits s ≡ true → marked_after s ≡ true
  unfolding waits
  waits_marked s h =
      let outer = and_parts (not (is_among s (computed ++ u ∷ []))) (is_some (stage_at new s) && is_reached_so_far step old new edited (computed ++ u ∷ []) s) h in
      let inner = and_parts (is_some (stage_at new s)) (is_reached_so_far step old new edited (computed ++ u ∷ []) s) outer.1 in
      let later : is_among s (computed ++ u ∷ []) ≡ false = not-true (is_among s (computed ++ u ∷ [])) outer.0 in
      let before : is_among s computed ≡ false = false_unless (is_among s computed) (λ e. true≢false (sym (among_push_left s u computed e) ∙ later)) in
      let other : u ≢ s = λ same. true≢false (sym (subst (λ x. is_among x (computed ++ u ∷ []) ≡ true) same (among_push_self u computed)) ∙ later) in
      ⊎_elim
      (λ same. stays_marked s (mark_from progress s before inner.0 (or_left (edited s) (list_any (is_computed_change step old new computed) (reads_at step old s)) same)) other)
      (λ elsewhere.
      let through : list_any (is_computed_change step old new (computed ++ u ∷ [])) (reads_at step old s) ≡ true =
      ⊎_elim (λ e. absurd (true≢false (sym e ∙ elsewhere))) (λ r. r) (or_cases (edited s) (list_any (is_computed_change step old new (computed ++ u ∷ [])) (reads_at step old s)) inner.1) in
      let (read, c, d) = some_passes (is_computed_change step old new (computed ++ u ∷ [])) (reads_at step old s) through in
      let parts = and_parts (is_among read (computed ++ u ∷ [])) (is_changed step old new read) d in
      ⊎_elim
      (λ l.
      stays_marked s
      (mark_from progress s before inner.0
      (or_right (edited s) (list_any (is_computed_change step old new computed) (reads_at step old s))
      (passes (is_computed_change step old new computed) (reads_at step old s) read c (and_from (is_among read computed) (is_changed step old new read) l parts.1))))
      other)
      (λ same.
      let it : Contains (reads_at step old s) u = subst (λ x. Contains (reads_at step old s) x) (sym same) c in
      newly_marked s (subst (λ x. is_changed step old new x ≡ true) (sym same) parts.1)
      (read_is_feed step edit s u elsewhere it)
      (one.read_in_old s elsewhere (read_is_feed step edit s u elsewhere it) ∙ contains_among u (reads_at step old s) it))
      (among_push_cases read u computed parts.0))
      (cases_Bool (edited s))

  marks_step : (s : ℕ) → marked_after s ≡ (not (is_among s (computed ++ u ∷ [])) && (is_some (stage_at new s) && is_reached_so_far step old new edited (computed ++ u ∷ []) s))
  unfolding waits
  marks_step s = same_tests (marked_after s) (waits s) (marked_waits s) (waits_marked s)

  before_step : (c m : ℕ) → is_among c (computed ++ u ∷ []) ≡ true → marked_after m ≡ true → IsBefore new c m
  before_step c m h k =
      ⊎_elim
      (λ (was, other).
      ⊎_elim
      (λ l. progress.before c m l was)
      (λ same. ⊎_elim (λ e. absurd (other e)) (λ b. subst (λ x. IsBefore new x m) same b) (one.least m was))
      (among_push_cases c u computed h))
      (λ (changed, feed, reads).
      let lower : rank new u < rank new m = rank_feed new edit.new_ranked m u feed in
      ⊎_elim
      (λ l. before_lower new c u m (progress.before c u l one.is_marked) lower)
      (λ same. subst (λ x. IsBefore new x m) same (inl lower))
      (among_push_cases c u computed h))
      (mark_cases m k)

  touched_step : (s : ℕ) → is_among s (computed ++ u ∷ []) ≡ true → is_touched step old new edited s ≡ true
  touched_step s h =
      ⊎_elim
      (λ l. progress.each_touched s l)
      (λ same. subst (λ x. is_touched step old new edited x ≡ true) same (marked_touched progress u one.is_marked))
      (among_push_cases s u computed h)

  hold_step : (s : ℕ) → states_after s ≡ (if is_settled new (computed ++ u ∷ []) s then at step new s else at step old s)
  hold_step s =
      ⊎_elim
      (λ same.
      let e : u ≡ s = eqb-true u s same in
      one.hold s ∙ cond-true (u == s) (at step new u) (states s) same ∙ ap (at step new) e
      ∙ sym (cond-true (is_settled new (computed ++ u ∷ []) s) (at step new s) (at step old s)
      (or_left (is_among s (computed ++ u ∷ [])) (not (is_some (stage_at new s))) (subst (λ x. is_among x (computed ++ u ∷ []) ≡ true) e (among_push_self u computed)))))
      (λ other.
      let among : is_among s computed ≡ is_among s (computed ++ u ∷ []) =
      same_tests (is_among s computed) (is_among s (computed ++ u ∷ [])) (among_push_left s u computed)
      (λ h. ⊎_elim (λ l. l) (λ e. absurd (eqb-false u s other e)) (among_push_cases s u computed h)) in
      one.hold s ∙ cond-false (u == s) (at step new u) (states s) other ∙ progress.hold s
      ∙ ap (λ b. cond (b || not (is_some (stage_at new s))) (at step new s) (at step old s)) among)
      (cases_Bool (u == s))

  pub stepped : IsProgress step old new edited (computed ++ u ∷ []) marked_after states_after
  stepped = record {
    hold = hold_step;
    marks = marks_step;
    before = before_step;
    ascending = all_pairs_push (IsBefore new) computed u progress.ascending (λ k d l. progress.before (get_or computed k d) u (contains_among (get_or computed k d) computed (Contains-get_or computed k d l)) one.is_marked);
    each_touched = touched_step;
  }
