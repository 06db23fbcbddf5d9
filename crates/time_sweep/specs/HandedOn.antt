-- How much sooner a target completes where a stage that it waits for completes sooner.
use Rattle.std.specs.Prelude.{ℕ, zero, suc, ◌≡◌, true, List, Option, Some, None, min, slice_index_or}
use Rattle.std.specs.Option.{option_map}
use Rattle.stage_graph.specs.declared.stage.Stage.{Stage}
use Rattle.stage_graph.specs.Plain.{stage_at}
use Rattle.stage_ops.specs.declared.state.Done.{Done}
use Rattle.stage_ops.specs.declared.state.State.{State}
use Rattle.stage_ops.specs.States.{seen_at, seen_of, state_at}
use Rattle.stage_ops.specs.Evaluation.{at}
use Rattle.propagate.specs.Reach.{Stages, Step, has_read}
use Rattle.time_sweep.specs.Known.{IsKnown}
use Rattle.time_sweep.specs.Sooner.{sooner_completion, sooner_done, HandsOn}

-- Of the stages that the target can wait for, one alone has read the place; and of the ticks that the place completes sooner, it hands on no
-- more than these.
pub record IsHandedOn (step : Step) (stages : Stages) (ranks : List (Option ℕ)) (place next most : ℕ) : Type 0 where
  pub stage : Stage
  pub stands : stage_at stages next ≡ Some stage
  pub known : IsKnown ranks next
  pub reads : has_read stages (at step stages) place next ≡ true
  pub only : (other : ℕ) → IsKnown ranks other → has_read stages (at step stages) place other ≡ true → other ≡ next
  pub hands_on : HandsOn step stage (seen_at (at step stages)) place most

-- the same of a stage of whose own ticks no more than `later` go further
pub record IsHandedFurther (step : Step) (stages : Stages) (ranks : List (Option ℕ)) (place most : ℕ) : Type 0 where
  pub next : ℕ
  pub own : ℕ
  pub later : ℕ
  pub here : IsHandedOn step stages ranks place next own
  pub least : most ≡ min own later

-- of the ticks that the place completes sooner, no more than these reach the target, over this many stages between
abbrev pub ReachesBy : Step → Stages → List (Option ℕ) → ℕ → ℕ → ℕ → ℕ → Type 0
ReachesBy step stages ranks target zero place most = IsHandedOn step stages ranks place target most
ReachesBy step stages ranks target (suc between) place most =
    (further : IsHandedFurther step stages ranks place most) × ReachesBy step stages ranks target between further.next further.later

-- over any number of stages
abbrev pub Reaches : Step → Stages → List (Option ℕ) → ℕ → ℕ → ℕ → Type 0
Reaches step stages ranks target place most = (between : ℕ) × ReachesBy step stages ranks target between place most

-- the same of the ticks that a stage hands on, of whose own so many do; the target itself hands on all
abbrev pub through : Option ℕ → ℕ → ℕ
through None own = own
through (Some later) own = min own later

abbrev pub IsReached : Step → Stages → List (Option ℕ) → ℕ → ℕ → Option ℕ → Type 0
IsReached step stages ranks target place None = place ≡ target
IsReached step stages ranks target place (Some later) = Reaches step stages ranks target place later

abbrev pub handed_at : List (Option ℕ) → ℕ → Option ℕ
handed_at handed place = slice_index_or handed place None

-- how many ticks reach the target, of each place of which it is known
abbrev pub AreHandedOn : Step → Stages → List (Option ℕ) → ℕ → List (Option ℕ) → Type 0
AreHandedOn step stages ranks target handed = (place most : ℕ) → handed_at handed place ≡ Some most → Reaches step stages ranks target place most

-- The place has come to a state that comes sooner than before and is else the same to dependents; and so the target completes, as far as it is
-- known how much of that reaches it.
pub record IsDoneByOne (before : List State) (handed : List (Option ℕ)) (target place : ℕ) (now : State) (done : Done) : Type 0 where
  pub gain : ℕ
  pub most : ℕ
  pub known : handed_at handed place ≡ Some most
  pub sees : seen_of now ≡ option_map (sooner_completion gain) (seen_of (state_at before place))
  pub completes : Some done ≡ option_map (sooner_done (min gain most)) (state_at before target).done
