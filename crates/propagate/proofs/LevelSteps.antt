-- A whole level at a time: the least marks, all of one rank, are computed on the states as they are, and then set one by one.
use Rattle.std.proofs.Common.{arith, append_assoc, ◌≡◌, ℕ, ◌<◌, Bool, true, false, List, [], ◌∷◌, ◌++◌, refl, ap, sym, ◌∙◌, subst, inl, inr, ⊎_elim}
use Rattle.std.specs.List.{list_any}
use Rattle.std.specs.Prelude.{not, ◌==◌, ◌&&◌, ◌||◌, if◌then◌else◌}
use Rattle.std.proofs.lemmas.List.{append-nil}
use Rattle.std.proofs.lemmas.Bool.{cases_Bool, eqb-true, eq-eqb, or_cases, or_left, and_parts, true≢false}
use Rattle.stage_graph.specs.Plain.{stage_at, feeds_at}
use Rattle.stage_graph.specs.Walk.{rank}
use Rattle.stage_ops.specs.declared.state.State.{State}
use Rattle.stage_ops.specs.Evaluation.{at, ReadsDecide}
use Rattle.rank_order.specs.Lists.{is_among}
use Rattle.propagate.specs.Reach.{Stages, Step, come_to, reads_at}
use Rattle.propagate.proofs.Members.{false_unless, among_contains, among_here, among_later, among_cases, flip_eq, or_assoc, or_nothing}
use Rattle.propagate.proofs.Ranks.{rank_feed}
use Rattle.propagate.proofs.Ascending.{Ascends, IsBefore, before_strict}
use Rattle.propagate.proofs.Steps.{IsRankedChange, IsFeed, IsProgress, is_changed, stepped, comes_right}

-- the rest of the level, which is still to be set, and the marks above it
abbrev pub waits_in : List ℕ → (ℕ → Bool) → ℕ → Bool
waits_in rest above s = is_among s rest || above s

-- The level has one rank, and each mark that is not of it has a higher one.
pub record IsLevel (new : Stages) (level : List ℕ) (above : ℕ → Bool) : Type 0 where
  pub least : ℕ
  pub level_rank : (s : ℕ) → is_among s level ≡ true → rank new s ≡ least
  pub above_rank : (s : ℕ) → above s ≡ true → least < rank new s

-- Each place of the level gets the state that it has in the new graph, from the states before the level.
pub level_right : {step : Step} → ReadsDecide step → {old new : Stages} {edited : ℕ → Bool} → IsRankedChange old new edited → {computed level : List ℕ} {above : ℕ → Bool} {states : ℕ → State}
    → IsProgress step old new edited computed (waits_in level above) states → IsLevel new level above → (u : ℕ) → is_among u level ≡ true → come_to step (stage_at new u) states ≡ at step new u
level_right law {new = new} edit {level = level} {above = above} progress one u here =
    comes_right law edit progress u (λ m h.
    let mine : rank new u ≡ one.least = one.level_rank u here in
    ⊎_elim
    (λ l. let theirs : rank new m ≡ one.least = one.level_rank m l in omega arith)
    (λ r. let theirs : one.least < rank new m = one.above_rank m r in omega arith)
    (or_cases (is_among m level) (above m) h))

-- The next place of the level is set: it is the least of the remaining ones.
pub record IsLevelStep (step : Step) (old new : Stages) (edited : ℕ → Bool) (u : ℕ) (rest : List ℕ) (above : ℕ → Bool) (states : ℕ → State) (above_then : ℕ → Bool) (states_then : ℕ → State) : Type 0 where
  pub before_rest : (m : ℕ) → is_among m rest ≡ true → IsBefore new u m
  pub before_above : (m : ℕ) → above m ≡ true → IsBefore new u m
  pub reads_it : ℕ → Bool
  pub read_in_old : (s : ℕ) → edited s ≡ false → IsFeed new s u → reads_it s ≡ is_among u (reads_at step old s)
  pub marks : (s : ℕ) → above_then s ≡ (above s || (is_changed step old new u && (is_among u (feeds_at new s) && reads_it s)))
  pub hold : (s : ℕ) → states_then s ≡ (if u == s then at step new u else states s)

pub level_step : {step : Step} → ReadsDecide step → {old new : Stages} {edited : ℕ → Bool} → IsRankedChange old new edited → {computed : List ℕ} (rest : List ℕ) (above : ℕ → Bool) (states : ℕ → State) (u : ℕ) (above_then : ℕ → Bool) (states_then : ℕ → State)
    → IsProgress step old new edited computed (waits_in (u ∷ rest) above) states → IsLevelStep step old new edited u rest above states above_then states_then
    → IsProgress step old new edited (computed ++ u ∷ []) (waits_in rest above_then) states_then
level_step {step} law {old} {new} {edited} edit {computed} rest above states u above_then states_then progress one =
    stepped law edit progress (record {
      is_marked = or_left (is_among u (u ∷ rest)) (above u) (or_left (u == u) (is_among u rest) (eq-eqb u u refl));
      least = λ m h.
          ⊎_elim
          (λ l. ⊎_elim (λ e. inl (sym e)) (λ r. inr (one.before_rest m r)) (among_cases m u rest l))
          (λ r. inr (one.before_above m r))
          (or_cases (is_among m (u ∷ rest)) (above m) h);
      reads_it = one.reads_it;
      read_in_old = one.read_in_old;
      marks = λ s. ap (λ b. is_among s rest || b) (one.marks s)
          ∙ waiting (is_among s rest) (above s) (is_changed step old new u && (is_among u (feeds_at new s) && one.reads_it s)) (s == u) (u == s) (flip_eq s u)
          (λ h. apart s (one.before_rest s h)) (λ h. apart s (one.before_above s h));
      hold = one.hold;
    }) where
      apart : (s : ℕ) → IsBefore new u s → (u == s) ≡ false
      apart s b = false_unless (u == s) (λ e. let same : u ≡ s = eqb-true u s e in let back : IsBefore new s u = subst (λ x. IsBefore new x u) same (subst (λ x. IsBefore new u x) (sym same) b) in before_strict new u s b back)

      waiting : (r a c e f : Bool) → e ≡ f → (r ≡ true → f ≡ false) → (a ≡ true → f ≡ false) → (r || (a || c)) ≡ ((((e || r) || a) && not f) || c)
      waiting true a c e true same h k = absurd (true≢false (h refl))
      waiting true a c true false same h k = absurd (true≢false same)
      waiting true a c false false same h k = refl
      waiting false true c e true same h k = absurd (true≢false (k refl))
      waiting false true c true false same h k = absurd (true≢false same)
      waiting false true c false false same h k = refl
      waiting false false c true true same h k = refl
      waiting false false c false true same h k = refl
      waiting false false c true false same h k = absurd (true≢false same)
      waiting false false c false false same h k = refl

-- The same in another form.
pub progress_told : {step : Step} {old new : Stages} {edited : ℕ → Bool} (computed listed : List ℕ) (marked told : ℕ → Bool) (states shown : ℕ → State) → listed ≡ computed → ((s : ℕ) → told s ≡ marked s) → ((s : ℕ) → shown s ≡ states s)
    → IsProgress step old new edited computed marked states → IsProgress step old new edited listed told shown
progress_told {step} {old} {new} {edited} computed listed marked told states shown e h k progress =
    subst (λ (xs : List ℕ). IsProgress step old new edited xs told shown) (sym e) (record {
      hold = λ s. k s ∙ progress.hold s;
      marks = λ s. h s ∙ progress.marks s;
      before = λ c m i t. progress.before c m i (sym (h m) ∙ t);
      ascending = progress.ascending;
      each_touched = progress.each_touched;
    })

-- whether u holds something else, and s, which may read it, has read it
abbrev pub tells : Step → Stages → Stages → (ℕ → ℕ → Bool) → ℕ → ℕ → Bool
tells step old new reads_it s u = is_changed step old new u && (is_among u (feeds_at new s) && reads_it u s)

-- the states once these places are computed
abbrev pub computed_in : Step → Stages → List ℕ → (ℕ → State) → ℕ → State
computed_in step new level states s = if is_among s level then at step new s else states s

module _ {step : Step} (law : ReadsDecide step) {old new : Stages} {edited : ℕ → Bool} (edit : IsRankedChange old new edited) (reads_it : ℕ → ℕ → Bool) (least : ℕ) where
  told_above : (u s : ℕ) → rank new u ≡ least → tells step old new reads_it s u ≡ true → least < rank new s
  told_above u s own h =
      let changed = and_parts (is_changed step old new u) (is_among u (feeds_at new s) && reads_it u s) h in
      let feed = and_parts (is_among u (feeds_at new s)) (reads_it u s) changed.1 in
      let less : rank new u < rank new s = rank_feed new edit.new_ranked s u (among_contains u (feeds_at new s) feed.0) in
      omega arith

  -- All places of a level are computed, and the readers of those that changed are marked.
  pub level_set : (computed level : List ℕ) (above : ℕ → Bool) (states : ℕ → State)
      → IsProgress step old new edited computed (waits_in level above) states
      → ((u : ℕ) → is_among u level ≡ true → rank new u ≡ least) → ((s : ℕ) → above s ≡ true → least < rank new s) → Ascends (λ one other. one < other) level
      → ((u s : ℕ) → is_among u level ≡ true → edited s ≡ false → IsFeed new s u → reads_it u s ≡ is_among u (reads_at step old s))
      → IsProgress step old new edited (computed ++ level) (λ s. above s || list_any (tells step old new reads_it s) level) (computed_in step new level states)
  level_set computed [] above states progress own higher ascends read_in_old =
      progress_told computed (computed ++ []) (waits_in [] above) (λ s. above s || list_any (tells step old new reads_it s) []) states (computed_in step new [] states)
      (append-nil computed) (λ s. or_nothing (above s)) (λ s. refl) progress
  level_set computed (u ∷ rest) above states progress own higher ascends read_in_old =
      let first : rank new u ≡ least = own u (among_here u rest) in
      let above_then : ℕ → Bool = λ s. above s || tells step old new reads_it s u in
      let states_then : ℕ → State = λ s. if u == s then at step new u else states s in
      let one : IsProgress step old new edited (computed ++ u ∷ []) (waits_in rest above_then) states_then =
      level_step law edit rest above states u above_then states_then progress (record {
        before_rest = λ m h. inr (first ∙ sym (own m (among_later m u rest h)), ascends.0 m h);
        before_above = λ m h. let less : least < rank new m = higher m h in inl (omega arith);
        reads_it = reads_it u;
        read_in_old = λ s other feed. read_in_old u s (among_here u rest) other feed;
        marks = λ s. refl;
        hold = λ s. refl;
      }) in
      progress_told ((computed ++ u ∷ []) ++ rest) (computed ++ u ∷ rest)
      (λ s. above_then s || list_any (tells step old new reads_it s) rest) (λ s. above s || list_any (tells step old new reads_it s) (u ∷ rest))
      (computed_in step new rest states_then) (computed_in step new (u ∷ rest) states)
      (sym (append_assoc computed (u ∷ []) rest))
      (λ s. sym (or_assoc (above s) (tells step old new reads_it s u) (list_any (tells step old new reads_it s) rest)))
      (λ s. turn s u (is_among s rest) (states s))
      (level_set (computed ++ u ∷ []) rest above_then states_then one
      (λ v h. own v (among_later v u rest h))
      (λ s h. ⊎_elim (λ l. higher s l) (λ r. told_above u s first r) (or_cases (above s) (tells step old new reads_it s u) h))
      ascends.1
      (λ v s h. read_in_old v s (among_later v u rest h))) where
        turn : (s u : ℕ) (later : Bool) (was : State) → (if (s == u) || later then at step new s else was) ≡ (if later then at step new s else (if u == s then at step new u else was))
        turn s u true was = ap (λ b. if b then at step new s else was) (or_true (s == u)) where
          or_true : (b : Bool) → (b || true) ≡ true
          or_true true = refl
          or_true false = refl
        turn s u false was =
            ⊎_elim
            (λ same. let e : u ≡ s = eqb-true u s same in
            ap (λ b. if b || false then at step new s else was) (flip_eq s u ∙ same) ∙ sym (ap (λ b. if b then at step new u else was) same ∙ ap (at step new) e))
            (λ other. ap (λ b. if b || false then at step new s else was) (flip_eq s u ∙ other) ∙ sym (ap (λ b. if b then at step new u else was) other))
            (cases_Bool (u == s))
