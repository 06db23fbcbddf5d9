-- The order of stages: a span's first stage, its children, its last stages; a join, and own work, before the first stage that needs it.
use Rattle.std.specs.Prelude.{◌≡◌, ℕ, suc, zero, ◌&&◌, List, [], ◌∷◌, ◌++◌, Bool, false, is_some, map, nat_eq, not, option_map, reverse, if◌then◌else◌, Option, Some, None, unwrap_or, slice_get, fold}
use Rattle.std.specs.HashSet.{contains_by}
use Rattle.std.specs.List.{list_any}
use Rattle.trace_stages.specs.declared.order.Put.{Put}
use Rattle.trace_stages.specs.declared.stage.Action.TheVariants.{Null}
use Rattle.trace_stages.specs.Known.{gave_up, had_at}
use Rattle.trace_stages.specs.Scene.{PlainScene, entry_at, list_at}
use Rattle.trace_stages.specs.Works.{begin_work, whole_work}
use Rattle.trace_stages.specs.declared.tour.visit.Visit.{Visit}
use Rattle.trace_stages.specs.declared.tour.visit.Visit.TheVariants.{Enters, Leaves}
use Rattle.trace_stages.specs.declared.walk.stage_id.StageId.{StageId}
use Rattle.trace_stages.specs.declared.walk.stage_id.StageId.TheVariants.{Start, Whole, Entry, Join, Work, Tried, Limit, Answer}
use Rattle.trace_stages.specs.declared.walk.holding.OwnWork.{OwnWork}

abbrev pub is_join : ℕ → ℕ → StageId → Bool
is_join span number (Join other count) = nat_eq span other && nat_eq number count
is_join span number other = false

abbrev pub is_entry : ℕ → ℕ → StageId → Bool
is_entry span number (Entry other count) = nat_eq span other && nat_eq number count
is_entry span number other = false

abbrev pub is_work : ℕ → ℕ → StageId → Bool
is_work span number (Work other count) = nat_eq span other && nat_eq number count
is_work span number other = false

-- whether a stage is a join or own work that is not put yet
abbrev pub needs : List StageId → StageId → Bool
needs order (Entry span number) = not (list_any (is_entry span number) order)
needs order (Join span number) = not (list_any (is_join span number) order)
needs order (Work span number) = not (list_any (is_work span number) order)
needs order other = false

-- the sources of a join of what a span has
abbrev pub join_sources : PlainScene → ℕ → ℕ → List StageId
join_sources scene span number = unwrap_or (slice_get (had_at scene.known.hads span).joins number) (list_at scene.handed span)

-- the sources of a join at the start of a span
abbrev pub entry_sources : PlainScene → ℕ → ℕ → List StageId
entry_sources scene span number = list_at (entry_at scene.entries span).joins number

abbrev pub after_of : Option OwnWork → Option StageId
after_of work = option_map (λ those. those.after) work

-- what own work of a span comes after
abbrev pub work_source : PlainScene → ℕ → ℕ → Option StageId
work_source scene span number = after_of (slice_get (had_at scene.known.hads span).works number)

-- of the sources of a join only the first may be a join or own work
abbrev pub first_source : PlainScene → StageId → Option StageId
first_source scene (Entry span number) = slice_get (entry_sources scene span number) 0
first_source scene (Join span number) = slice_get (join_sources scene span number) 0
first_source scene (Work span number) = work_source scene span number
first_source scene other = None

-- the joins and the own work that are needed first where a stage is, and are not put yet, from the last to the first; at most so many
unfoldable pub needed : PlainScene → List StageId → ℕ → Option StageId → List StageId
needed scene order zero source = []
needed scene order (suc n) None = []
needed scene order (suc n) (Some id) = if needs order id then id ∷ needed scene (order ++ id ∷ []) n (first_source scene id) else []

-- no recording has so many
abbrev pub most_needed : ℕ
most_needed = 65_536

-- what a span would have had, if it gave calls up
abbrev pub answer_source : PlainScene → ℕ → Option StageId
answer_source scene place = option_map (λ answer. answer.stage) (had_at scene.known.hads place).answer

abbrev pub source_of : PlainScene → StageId → Option StageId
source_of scene (Start place) = (begin_work scene place 0 Null).source
source_of scene (Whole place) = (whole_work scene place).source
source_of scene (Answer place) = answer_source scene place
source_of scene other = None

-- what a stage needs and no earlier one needed, from the first to the last, and then the stage
abbrev pub put_stage : PlainScene → List StageId → StageId → List StageId
put_stage scene order id = order ++ (reverse (needed scene order most_needed (source_of scene id)) ++ id ∷ [])

-- the attempts before one, of at most so many, from the last to the first
unfoldable pub attempts_before : PlainScene → ℕ → Option ℕ → List ℕ
attempts_before scene zero previous = []
attempts_before scene (suc n) None = []
attempts_before scene (suc n) (Some place) = place ∷ attempts_before scene n (scene.known.relations.attempts.previous place)

-- what calls came to that were tried again, of which a span was the last attempt
abbrev pub tried_before : PlainScene → ℕ → List StageId
tried_before scene place =
    if is_some (scene.known.relations.attempts.next place) then [] else map Tried (attempts_before scene most_needed (scene.known.relations.attempts.previous place))

-- the end of a span; of one that gave calls up that with their answers, and its limit
abbrev pub put_end : PlainScene → List StageId → ℕ → List StageId
put_end scene order place =
    if gave_up scene.known place then put_stage scene order (Answer place) ++ (Limit place ∷ Whole place ∷ []) else put_stage scene order (Whole place)

abbrev pub put_last : PlainScene → List StageId → ℕ → List StageId
put_last scene order place = put_end scene order place ++ tried_before scene place

-- the first stage of a span that has several as it is entered, the others as it is left
abbrev pub visited : PlainScene → List StageId → Visit → List StageId
visited scene order (Enters place) = if scene.known.has_two place then put_stage scene order (Start place) else order
visited scene order (Leaves place) = put_last scene order place

-- all stages, in the order of visits
abbrev pub ordered : PlainScene → List Visit → List StageId
ordered scene visits = fold (visited scene) [] visits

abbrev pub is_pair : ℕ → ℕ → ℕ × ℕ → Bool
is_pair span number pair = nat_eq span pair.0 && nat_eq number pair.1

-- the joins and the own work that are put are those in the order
abbrev pub Puts : Put → List StageId → Type 0
Puts put order =
    (span number : ℕ) → (contains_by (is_pair span number) put.joins ≡ list_any (is_join span number) order)
    × (contains_by (is_pair span number) put.entries ≡ list_any (is_entry span number) order)
    × (contains_by (is_pair span number) put.works ≡ list_any (is_work span number) order)

-- a stage that is neither a join nor own work
abbrev pub IsOfSpan : StageId → Type 0
IsOfSpan id = (span number : ℕ) → (is_join span number id ≡ false) × (is_entry span number id ≡ false) × (is_work span number id ≡ false)
