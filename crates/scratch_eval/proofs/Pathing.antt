-- Following causes from stage to stage.
use Rattle.std.proofs.Common.{ℕ, zero, suc, ◌+◌, ◌-◌, ◌<◌, ◌≤◌, ◌≡◌, true, false, List, [], ◌∷◌, ◌++◌, length, Option, Some, None, refl, sym, ap, ◌∙◌, subst, arith, append_assoc, append-nil}
use Rattle.std.specs.Prelude.{Contains, All, IfSome, is_some, slice_get}
use Rattle.std.specs.Option.{option_map}
use Rattle.std.proofs.lemmas.List.{get_or_past}
use Rattle.std.proofs.lemmas.Option.{slice_get_within}
use Rattle.std.proofs.lemmas.List.Sums.{sum_by-cons}
use Rattle.std.proofs.lemmas.List.Elements.{All-contains, All-cons, All-nil, All-weaker}
use Rattle.act_expr.specs.declared.outcome.Mode.{Mode}
use Rattle.stage_graph.specs.declared.stage.Stage.{Stage}
use Rattle.stage_graph.specs.Plain.{PlainGraph, stage_at, feeds_of, feeds_at, feeds_of_place, IsLive}
use Rattle.stage_graph.specs.Sound.{IsSound}
use Rattle.stage_graph.specs.Walk.{Walk, IsRanked, step_at, from_feeds}
use Rattle.stage_graph.proofs.Placing.{place_from_live}
use Rattle.stage_ops.specs.declared.reason.Cause.{Cause}
use Rattle.stage_ops.specs.declared.reason.Cause.TheVariants.{Created, After, Inner, Pinned, Ended, Waiting, Open}
use Rattle.stage_ops.specs.declared.reason.Reason.{Reason}
use Rattle.stage_ops.specs.declared.state.Done.{Done}
use Rattle.stage_ops.specs.declared.state.State.{State}
use Rattle.stage_ops.specs.Accounts.{IsAccount, IsLatest}
use Rattle.stage_ops.specs.Ended.{done_moment}
use Rattle.stage_ops.specs.Evaluation.{at}
use Rattle.stage_ops.specs.Java.{java_step}
use Rattle.stage_ops.specs.JavaLaws.{java_reads_decide}
use Rattle.stage_ops.specs.Reasons.{feed_in, later_by, reason, tick_of}
use Rattle.stage_ops.specs.Sources.{moment_of, source_of}
use Rattle.stage_ops.specs.States.{IsReadBy, seen, seen_at}
use Rattle.stage_ops.proofs.Accounting.{each_accounts, each_is_latest}
use Rattle.scratch_eval.proofs.Evaluating.{at_stage, read_is_feed}
use Rattle.scratch_eval.specs.Path.{path_after, next_feed, path_step, path, state_in, reason_in, reason_of_place, reason_at, tick_of_place, tick_at, own_ticks, moment_at, began_at, path_ticks, HasRead, IsLatestAt, IsPath, PathsAddUp, PathsMove}

-- ---- a path that was followed so far, and what is left of it

module _ (mode : Mode) (states : ℕ → State) (places : List (Option Stage)) (so_far whole : List ℕ) (left place : ℕ)
    (is : so_far ++ from_feeds [] (path_step mode states) places left place ≡ whole) where
  pub path_out : left ≡ 0 → so_far ≡ whole
  path_out none = sym (append-nil so_far) ∙ ap (λ left. so_far ++ from_feeds [] (path_step mode states) places left place) (sym none) ∙ is

  pub path_to_nothing : stage_at places place ≡ None → so_far ≡ whole
  path_to_nothing none = sym (append-nil so_far) ∙ ap (λ rest. so_far ++ rest) (sym (nothing left)) ∙ is where
    nothing : (left : ℕ) → from_feeds [] (path_step mode states) places left place ≡ []
    nothing zero = refl
    nothing (suc left) = ap (step_at [] (path_step mode states) (from_feeds [] (path_step mode states) places left)) none

  path_more : (stage : Stage) (rest : ℕ) → left ≡ suc rest → stage_at places place ≡ Some stage
      → (so_far ++ stage.place ∷ []) ++ path_after (from_feeds [] (path_step mode states) places rest) (next_feed mode states stage) ≡ whole
  path_more stage rest more here =
      append_assoc so_far (stage.place ∷ []) (path_after (from_feeds [] (path_step mode states) places rest) (next_feed mode states stage))
      ∙ ap (λ here. so_far ++ step_at [] (path_step mode states) (from_feeds [] (path_step mode states) places rest) here) (sym here)
      ∙ ap (λ left. so_far ++ from_feeds [] (path_step mode states) places left place) (sym more)
      ∙ is

  pub path_to_origin : (stage : Stage) → 0 < left → stage_at places place ≡ Some stage → next_feed mode states stage ≡ None → so_far ++ stage.place ∷ [] ≡ whole
  path_to_origin stage within here origin =
      sym (append-nil (so_far ++ stage.place ∷ []))
      ∙ ap (λ next. (so_far ++ stage.place ∷ []) ++ path_after (from_feeds [] (path_step mode states) places (left - 1)) next) (sym origin)
      ∙ path_more stage (left - 1) (omega (arith, within)) here

  pub path_on : (stage : Stage) (feed : ℕ) → 0 < left → stage_at places place ≡ Some stage → next_feed mode states stage ≡ Some feed
      → (so_far ++ stage.place ∷ []) ++ from_feeds [] (path_step mode states) places (left - 1) feed ≡ whole
  path_on stage feed within here next =
      ap (λ next. (so_far ++ stage.place ∷ []) ++ path_after (from_feeds [] (path_step mode states) places (left - 1)) next) (sym next)
      ∙ path_more stage (left - 1) (omega (arith, within)) here

-- ---- the path of a stage in a sound graph without a cycle

module _ (graph : PlainGraph) (sound : IsSound graph) (ranked : IsRanked graph.places) where
  abbrev states : ℕ → State
  states = state_in graph

  stands : (place : ℕ) (stage : Stage) → stage_at graph.places place ≡ Some stage → states place ≡ java_step graph.mode stage (seen_at states)
  stands place stage here = at_stage (java_step graph.mode) (java_reads_decide graph.mode) graph.places ranked place stage here

  account : (place : ℕ) (stage : Stage) → stage_at graph.places place ≡ Some stage
      → IsAccount stage (seen_at states) (states place).reads (states place).done (reason_in graph stage)
  account place stage here =
      subst (λ (state : State). IsAccount stage (seen_at states) state.reads state.done (reason_in graph stage)) (sym (stands place stage here)) (each_accounts graph.mode stage (seen_at states))

  -- the feed that a cause names is read, so it is a feed
  named_read : (place : ℕ) (stage : Stage) → stage_at graph.places place ≡ Some stage → (feed : ℕ) → next_feed graph.mode states stage ≡ Some feed → IsReadBy stage (states place).reads feed
  named_read place stage here feed next = subst (λ (next : Option ℕ). IfSome next (IsReadBy stage (states place).reads)) next (account place stage here).read

  named_feed : (place : ℕ) (stage : Stage) → stage_at graph.places place ≡ Some stage → (feed : ℕ) → next_feed graph.mode states stage ≡ Some feed → Contains (feeds_of stage) feed
  named_feed place stage here feed next = read_is_feed stage (states place).reads feed (named_read place stage here feed next)

  named_alike : (place : ℕ) (stage : Stage) → stage_at graph.places place ≡ Some stage → (feed : ℕ) → next_feed graph.mode states stage ≡ Some feed
      → is_some (states feed).done ≡ is_some (states place).done
  named_alike place stage here feed next =
      of_seen (states feed).done ∙ subst (λ (next : Option ℕ). IfSome next (λ feed. is_some (seen_at states feed) ≡ is_some (states place).done)) next (account place stage here).alike where
        of_seen : (done : Option Done) → is_some done ≡ is_some (option_map seen done)
        of_seen None = refl
        of_seen (Some done) = refl

  -- paths that agree at the feed that is named
  same_next : (next : Option ℕ) (paths others : ℕ → List ℕ) → ((feed : ℕ) → next ≡ Some feed → paths feed ≡ others feed) → path_after paths next ≡ path_after others next
  same_next None paths others same = refl
  same_next (Some feed) paths others same = same feed refl

  paths_settled : (levels place : ℕ) → (Walk graph.places levels place → ⊥)
      → from_feeds [] (path_step graph.mode states) graph.places levels place ≡ from_feeds [] (path_step graph.mode states) graph.places (suc levels) place
  paths_settled zero place short =
      let far : length graph.places ≤ place = omega arith in
      ap (step_at [] (path_step graph.mode states) (from_feeds [] (path_step graph.mode states) graph.places zero)) (sym (get_or_past graph.places place None far))
  paths_settled (suc levels) place short =
      settled_at (λ feed here. paths_settled levels feed (λ walk. short (feed, here, walk))) (stage_at graph.places place) refl where
        settled_at : ((feed : ℕ) → Contains (feeds_at graph.places place) feed
            → from_feeds [] (path_step graph.mode states) graph.places levels feed ≡ from_feeds [] (path_step graph.mode states) graph.places (suc levels) feed)
            → (here : Option Stage) → stage_at graph.places place ≡ here
            → step_at [] (path_step graph.mode states) (from_feeds [] (path_step graph.mode states) graph.places levels) here
            ≡ step_at [] (path_step graph.mode states) (from_feeds [] (path_step graph.mode states) graph.places (suc levels)) here
        settled_at same None nothing = refl
        settled_at same (Some stage) here =
            ap (λ rest. stage.place ∷ rest)
            (same_next (next_feed graph.mode states stage) _ _
            (λ feed next. same feed (subst (λ (feeds : List ℕ). Contains feeds feed) (sym (ap feeds_of_place here)) (named_feed place stage here feed next))))

  -- a path is the stage, and then the path of the feed that its cause names
  pub path_unfolds : (place : ℕ) (stage : Stage) → stage_at graph.places place ≡ Some stage
      → path graph place ≡ place ∷ path_after (path graph) (next_feed graph.mode states stage)
  path_unfolds place stage here =
      paths_settled (length graph.places) place (ranked place)
      ∙ ap (step_at [] (path_step graph.mode states) (path graph)) here
      ∙ ap (λ place. place ∷ path_after (path graph) (next_feed graph.mode states stage)) (sound.stages place stage here).own_place

  -- ---- what holds of it

  latest_of : (here : Option Stage) → IfSome here (λ stage. IsLatest stage (seen_at states) (reason_in graph stage).cause)
  latest_of None = tt
  latest_of (Some stage) = each_is_latest graph.mode stage (seen_at states)

  all_latest : (path : List ℕ) → All (IsLatestAt graph) path
  all_latest path = λ k d within. latest_of (stage_at graph.places _)

  reason_told : (place : ℕ) (stage : Stage) → stage_at graph.places place ≡ Some stage → reason_at graph place ≡ reason_in graph stage
  reason_told place stage here = ap (reason_of_place graph) here

  next_told : (place : ℕ) (stage : Stage) → stage_at graph.places place ≡ Some stage → feed_in (reason_at graph place).cause ≡ next_feed graph.mode states stage
  next_told place stage here = ap (λ (reason : Reason). feed_in reason.cause) (reason_told place stage here)

  -- the reason's ticks after a tick that is itself some ticks after another
  shifted : (reason : Reason) (rest : ℕ) (tick : Option ℕ) → option_map (later_by reason) (option_map (λ tick. tick + rest) tick) ≡ option_map (λ tick. tick + (reason.queued + reason.ran + rest)) tick
  shifted reason rest None = refl
  shifted reason rest (Some tick) = let same : tick + rest + reason.queued + reason.ran ≡ tick + (reason.queued + reason.ran + rest) = omega arith in ap (λ tick. Some tick) same

  unshifted : (tick : Option ℕ) → tick ≡ option_map (λ tick. tick + 0) tick
  unshifted None = refl
  unshifted (Some tick) = let same : tick ≡ tick + 0 = omega arith in ap (λ tick. Some tick) same

  module _ (place : ℕ) (stage : Stage) (here : stage_at graph.places place ≡ Some stage) where
    abbrev own : Reason
    own = reason_in graph stage

    ticks_told : (rest : List ℕ) → path_ticks graph (place ∷ rest) ≡ own.queued + own.ran + path_ticks graph rest
    ticks_told rest = sum_by-cons (own_ticks graph) place rest ∙ ap (λ (reason : Reason). reason.queued + reason.ran + path_ticks graph rest) (reason_told place stage here)

    -- a moment that the reason accounts for, from a tick some ticks after another
    added : (rest : List ℕ) (tick : Option ℕ) → tick_of stage (seen_at states) own.cause ≡ option_map (λ tick. tick + path_ticks graph rest) tick
        → moment_at graph place ≡ option_map (λ tick. tick + path_ticks graph (place ∷ rest)) tick
    added rest tick told =
        (account place stage here).adds_up ∙ ap (option_map (later_by own)) told ∙ shifted own (path_ticks graph rest) tick
        ∙ ap (λ ticks. option_map (λ tick. tick + ticks) tick) (sym (ticks_told rest))

    alone : next_feed graph.mode states stage ≡ None → IsPath graph place (place ∷ [])
    alone origin = record {
      begins = refl;
      linked = λ k one next at after. let within : k + 1 < 1 = slice_get_within (place ∷ []) (k + 1) next after in absurd (omega (arith, within));
      ends = next_told place stage here ∙ origin;
      alike = All-cons (λ one. is_some (states one).done ≡ is_some (states place).done) place [] refl (All-nil (λ one. is_some (states one).done ≡ is_some (states place).done));
      latest = all_latest (place ∷ []);
      adds_up = added [] (tick_at graph place) (sym (ap (tick_of_place graph) here) ∙ unshifted (tick_at graph place));
    }

    -- the tick of a cause that names a feed is the feed's moment
    seen_moment : (feed : ℕ) (done : Option Done) → option_map moment_of (option_map (source_of feed) (option_map seen done)) ≡ option_map done_moment done
    seen_moment feed None = refl
    seen_moment feed (Some done) = refl

    none_moment : (done : Option Done) → is_some done ≡ false → None ≡ option_map done_moment done
    none_moment None none = refl
    none_moment (Some done) none = cc

    not_done : (done : Option Done) → option_map done_moment done ≡ None → is_some done ≡ false
    not_done None none = refl
    not_done (Some done) none = cc

    feed_tick : (feed : ℕ) (cause : Cause) → feed_in cause ≡ Some feed → (own.cause ≡ cause → is_some (states feed).done ≡ is_some (states place).done) → own.cause ≡ cause
        → tick_of stage (seen_at states) cause ≡ moment_at graph feed
    feed_tick feed Created is alike same = cc
    feed_tick feed (After place) is alike same = let named : place ≡ feed = cc in seen_moment place (states place).done ∙ ap (moment_at graph) named
    feed_tick feed (Inner place) is alike same = let named : place ≡ feed = cc in seen_moment place (states place).done ∙ ap (moment_at graph) named
    feed_tick feed Pinned is alike same = cc
    feed_tick feed (Ended index) is alike same = cc
    feed_tick feed (Waiting other) is alike same =
        none_moment (states feed).done
        (alike same ∙ not_done (states place).done ((account place stage here).adds_up ∙ ap (λ cause. option_map (later_by own) (tick_of stage (seen_at states) cause)) same))
    feed_tick feed Open is alike same = cc

    further : (feed : ℕ) (rest : List ℕ) → next_feed graph.mode states stage ≡ Some feed → IsPath graph feed (feed ∷ rest) → IsPath graph place (place ∷ feed ∷ rest)
    further feed rest next follows = record {
      begins = refl;
      linked = λ k one other at after. link k one other at after;
      ends = follows.ends;
      alike = All-cons (λ one. is_some (states one).done ≡ is_some (states place).done) place (feed ∷ rest) refl
          (All-weaker (λ one. is_some (states one).done ≡ is_some (states feed).done) (λ one. is_some (states one).done ≡ is_some (states place).done)
          (λ one same. same ∙ named_alike place stage here feed next) (feed ∷ rest) follows.alike);
      latest = all_latest (place ∷ feed ∷ rest);
      adds_up = added (feed ∷ rest) (began_at graph (feed ∷ rest)) (feed_tick feed own.cause next (λ _. named_alike place stage here feed next) refl ∙ follows.adds_up);
    } where
      first : (feed_in (reason_at graph place).cause ≡ Some feed) × HasRead graph place feed
      first = (
        next_told place stage here ∙ next,
        subst (λ (here : Option Stage). IfSome here (λ stage. IsReadBy stage (states place).reads feed)) (sym here) (named_read place stage here feed next),
      )

      link : (k one other : ℕ) → slice_get (place ∷ feed ∷ rest) k ≡ Some one → slice_get (place ∷ feed ∷ rest) (k + 1) ≡ Some other
          → (feed_in (reason_at graph one).cause ≡ Some other) × HasRead graph one other
      link zero one other at after =
          let one_is : place ≡ one = cc in
          let other_is : feed ≡ other = cc in
          subst (λ (one : ℕ). (feed_in (reason_at graph one).cause ≡ Some other) × HasRead graph one other) one_is
          (subst (λ (other : ℕ). (feed_in (reason_at graph place).cause ≡ Some other) × HasRead graph place other) other_is first)
      link (suc k) one other at after =
          let more : suc (k + 1) ≡ suc k + 1 = omega arith in
          follows.linked k one other at (ap (slice_get (place ∷ feed ∷ rest)) more ∙ after)

  each_path : (levels place : ℕ) (stage : Stage) → (Walk graph.places levels place → ⊥) → stage_at graph.places place ≡ Some stage → IsPath graph place (path graph place)
  each_path zero place stage short here = absurd (short (place_from_live graph.places place (ap is_some here)))
  each_path (suc levels) place stage short here =
      of_next (next_feed graph.mode states stage) refl (λ feed other next there. each_path levels feed other (λ walk. short (feed, subst (λ (feeds : List ℕ). Contains feeds feed) (sym (ap feeds_of_place here)) (named_feed place stage here feed next), walk)) there)
    where
      of_feed : (feed : ℕ) → next_feed graph.mode states stage ≡ Some feed
          → ((feed : ℕ) (other : Stage) → next_feed graph.mode states stage ≡ Some feed → stage_at graph.places feed ≡ Some other → IsPath graph feed (path graph feed))
          → (there : Option Stage) → stage_at graph.places feed ≡ there → is_some there ≡ true → IsPath graph place (path graph place)
      of_feed feed next follow None nothing live = cc
      of_feed feed next follow (Some other) there live =
          let rest = path_after (path graph) (next_feed graph.mode states other) in
          subst (IsPath graph place)
          (sym (path_unfolds place stage here ∙ ap (λ next. place ∷ path_after (path graph) next) next ∙ ap (λ path. place ∷ path) (path_unfolds feed other there)))
          (further place stage here feed rest next (subst (IsPath graph feed) (path_unfolds feed other there) (follow feed other next there)))

      of_next : (next : Option ℕ) → next_feed graph.mode states stage ≡ next
          → ((feed : ℕ) (other : Stage) → next_feed graph.mode states stage ≡ Some feed → stage_at graph.places feed ≡ Some other → IsPath graph feed (path graph feed))
          → IsPath graph place (path graph place)
      of_next None origin follow =
          subst (IsPath graph place) (sym (path_unfolds place stage here ∙ ap (λ next. place ∷ path_after (path graph) next) origin)) (alone place stage here origin)
      of_next (Some feed) next follow =
          let live : is_some (stage_at graph.places feed) ≡ true = All-contains (IsLive graph.places) (feeds_of stage) feed (sound.stages place stage here).live_feeds (named_feed place stage here feed next) in
          of_feed feed next follow (stage_at graph.places feed) refl live

pub paths_add_up : PathsAddUp
paths_add_up graph sound ranked place live = of_stage (stage_at graph.places place) refl live where
  of_stage : (here : Option Stage) → stage_at graph.places place ≡ here → is_some here ≡ true → IsPath graph place (path graph place)
  of_stage None nothing live = cc
  of_stage (Some stage) here live = each_path graph sound ranked (length graph.places) place stage (ranked place) here

pub paths_move : PathsMove
paths_move old new old_sound old_ranked new_sound new_ranked place old_live new_live same began more longer =
    (paths_add_up new new_sound new_ranked place new_live).adds_up
    ∙ ap (option_map (λ tick. tick + path_ticks new (path new place))) began
    ∙ ap (λ ticks. option_map (λ tick. tick + ticks) (began_at old (path old place))) longer
    ∙ twice (began_at old (path old place))
    ∙ ap (option_map (λ moment. moment + more)) (sym (paths_add_up old old_sound old_ranked place old_live).adds_up)
  where
    twice : (tick : Option ℕ) → option_map (λ tick. tick + (path_ticks old (path old place) + more)) tick
        ≡ option_map (λ moment. moment + more) (option_map (λ tick. tick + path_ticks old (path old place)) tick)
    twice None = refl
    twice (Some tick) = let same : tick + (path_ticks old (path old place) + more) ≡ tick + path_ticks old (path old place) + more = omega arith in ap (λ tick. Some tick) same
