-- Why a stage completed when it did, or why it is pending: the stage, and then the path of the feed that its cause names.
use Rattle.std.specs.Prelude.{ℕ, ◌≡◌, ◌+◌, List, [], ◌∷◌, length, Option, Some, None, All, IfSome, is_some, slice_get, sum_by}
use Rattle.std.specs.Option.{option_map, option_and_then}
use Rattle.std.specs.List.{last_or}
use Rattle.act_expr.specs.declared.outcome.Mode.{Mode}
use Rattle.stage_graph.specs.declared.stage.Stage.{Stage}
use Rattle.stage_graph.specs.Plain.{PlainGraph, stage_at, IsLive}
use Rattle.stage_graph.specs.Sound.{IsSound}
use Rattle.stage_graph.specs.Walk.{from_feeds, IsRanked}
use Rattle.stage_ops.specs.declared.reason.Cause.TheVariants.{Open}
use Rattle.stage_ops.specs.declared.reason.Reason.{Reason}
use Rattle.stage_ops.specs.declared.state.State.{State}
use Rattle.stage_ops.specs.Accounts.{IsLatest}
use Rattle.stage_ops.specs.Ended.{done_moment}
use Rattle.stage_ops.specs.Evaluation.{at}
use Rattle.stage_ops.specs.Java.{java_step}
use Rattle.stage_ops.specs.Reasons.{at_once, feed_in, reason, tick_of}
use Rattle.stage_ops.specs.States.{seen_at, IsReadBy}

-- the path of the feed that is named
abbrev pub path_after : (ℕ → List ℕ) → Option ℕ → List ℕ
path_after paths None = []
path_after paths (Some feed) = paths feed

-- the feed that the cause of a stage names, by the states of its feeds
abbrev pub next_feed : Mode → (ℕ → State) → Stage → Option ℕ
next_feed mode states stage = feed_in (reason mode stage (seen_at states)).cause

abbrev pub path_step : Mode → (ℕ → State) → Stage → (ℕ → List ℕ) → List ℕ
path_step mode states stage paths = stage.place ∷ path_after paths (next_feed mode states stage)

-- the path of a stage, by the states of its graph's places
abbrev pub path_by : Mode → (ℕ → State) → List (Option Stage) → ℕ → List ℕ
path_by mode states places place = from_feeds [] (path_step mode states) places (length places) place

-- the path of a stage
abbrev pub path : PlainGraph → ℕ → List ℕ
path graph place = path_by graph.mode (at (java_step graph.mode) graph.places) graph.places place

-- ---- what a graph says of each place on a path

abbrev pub state_in : PlainGraph → ℕ → State
state_in graph place = at (java_step graph.mode) graph.places place

abbrev pub reason_in : PlainGraph → Stage → Reason
reason_in graph stage = reason graph.mode stage (seen_at (state_in graph))

-- the cause of the state of the stage at a place
abbrev pub reason_of_place : PlainGraph → Option Stage → Reason
reason_of_place graph None = at_once Open
reason_of_place graph (Some stage) = reason_in graph stage

abbrev pub reason_at : PlainGraph → ℕ → Reason
reason_at graph place = reason_of_place graph (stage_at graph.places place)

-- the tick of its cause
abbrev pub tick_of_place : PlainGraph → Option Stage → Option ℕ
tick_of_place graph None = None
tick_of_place graph (Some stage) = tick_of stage (seen_at (state_in graph)) (reason_in graph stage).cause

abbrev pub tick_at : PlainGraph → ℕ → Option ℕ
tick_at graph place = tick_of_place graph (stage_at graph.places place)

-- the ticks that its own action was queued and ran since
abbrev pub own_ticks : PlainGraph → ℕ → ℕ
own_ticks graph place = (reason_at graph place).queued + (reason_at graph place).ran

abbrev pub moment_at : PlainGraph → ℕ → Option ℕ
moment_at graph place = option_map done_moment (state_in graph place).done

-- the tick at which a path began: that of the cause of its last stage
abbrev pub began_at : PlainGraph → List ℕ → Option ℕ
began_at graph path = option_and_then (tick_at graph) (last_or None path)

-- the ticks that the actions on a path were queued and ran
abbrev pub path_ticks : PlainGraph → List ℕ → ℕ
path_ticks graph path = sum_by (own_ticks graph) path

-- the stage at a place has read the feed
abbrev pub HasRead : PlainGraph → ℕ → ℕ → Type 0
HasRead graph place feed = IfSome (stage_at graph.places place) (λ stage. IsReadBy stage (state_in graph place).reads feed)

-- nothing that the stage at a place waited for came later than its trigger
abbrev pub IsLatestAt : PlainGraph → ℕ → Type 0
IsLatestAt graph place = IfSome (stage_at graph.places place) (λ stage. IsLatest stage (seen_at (state_in graph)) (reason_in graph stage).cause)

-- ---- what holds of a path

pub record IsPath (graph : PlainGraph) (place : ℕ) (path : List ℕ) : Type 0 where
  -- it begins with the stage
  pub begins : slice_get path 0 ≡ Some place
  -- each of its stages is followed by the feed that its cause names, which it has read ..
  pub linked : (k one next : ℕ) → slice_get path k ≡ Some one → slice_get path (k + 1) ≡ Some next
      → (feed_in (reason_at graph one).cause ≡ Some next) × HasRead graph one next
  -- .. and the cause of the last one names none
  pub ends : IfSome (last_or None path) (λ one. feed_in (reason_at graph one).cause ≡ None)
  -- each of its stages has completed if and only if the stage has
  pub alike : All (λ one. is_some (state_in graph one).done ≡ is_some (state_in graph place).done) path
  -- nothing that a stage of the path waited for came later than its trigger
  pub latest : All (IsLatestAt graph) path
  -- the stage completed the ticks of the path after the tick at which the path began; it is pending where the path has not begun
  pub adds_up : moment_at graph place ≡ option_map (λ tick. tick + path_ticks graph path) (began_at graph path)

-- on a sound graph without a cycle a stage's path is one
abbrev pub PathsAddUp : Type 0
PathsAddUp = (graph : PlainGraph) → IsSound graph → IsRanked graph.places → (place : ℕ) → IsLive graph.places place → IsPath graph place (path graph place)

-- where a stage has one path in two graphs, which begins at one tick and takes some ticks more in the second, it completes that many ticks later there
abbrev pub PathsMove : Type 0
PathsMove =
    (old new : PlainGraph) → IsSound old → IsRanked old.places → IsSound new → IsRanked new.places
    → (place : ℕ) → IsLive old.places place → IsLive new.places place → path new place ≡ path old place → began_at new (path new place) ≡ began_at old (path old place)
    → (more : ℕ) → path_ticks new (path new place) ≡ path_ticks old (path old place) + more → moment_at new place ≡ option_map (λ moment. moment + more) (moment_at old place)
