-- H. Failures that are handed on past something else: what a span has at its end did not fail, but a call did that it waited for.
use Rattle.std.specs.Prelude.{ℕ, ◌&&◌, ◌||◌, List, [], ◌∷◌, Bool, true, false, length, map, nat_eq, not, is_none, if◌then◌else◌, Option, Some, None, filter, fold}
use Rattle.std.specs.List.{range_with_len}
use Rattle.std.specs.Option.{option_eq}
use Rattle.trace_relations.specs.Ancestry.{comes_first, parent_at}
use Rattle.trace_relations.specs.Moments.{end_moment, interval_at, is_before}
use Rattle.trace_relations.specs.declared.moment.Interval.{Interval}
use Rattle.trace_relations.specs.declared.moment.Moment.{Moment}
use Rattle.trace_stages.specs.declared.fates.Fate.{Fate}
use Rattle.trace_stages.specs.declared.fates.Fate.TheVariants.{Succeeded, Failed, Threw}
use Rattle.trace_stages.specs.declared.stage.Exception.{Exception}
use Rattle.trace_stages.specs.declared.stage.Exception.TheVariants as exception
use Rattle.trace_stages.specs.Called.{call_end}
use Rattle.trace_stages.specs.EndOutcomes.{end_outcome}
use Rattle.trace_stages.specs.Fates.{fate_at}
use Rattle.trace_stages.specs.Known.{PlainKnown, gave_up, had_at, has_ended}
use Rattle.trace_stages.specs.Outcomes.{has_failed}
use Rattle.trace_stages.specs.declared.walk.stage_id.StageId.{StageId}
use Rattle.trace_stages.specs.declared.walk.stage_id.StageId.TheVariants as stage

-- ---- the last of spans to end

abbrev pub later_with : Option Moment → Option Moment → Bool → Bool
later_with None other comes_later = false
later_with (Some end) None comes_later = false
later_with (Some end) (Some other) comes_later = is_before other end || (not (is_before end other) && comes_later)

-- whether a span ends later than another; of those that end at one moment, the one that starts later
abbrev pub ends_later : List Interval → ℕ → ℕ → Bool
ends_later intervals place other = later_with (end_moment (interval_at intervals place)) (end_moment (interval_at intervals other)) (comes_first intervals other place)

abbrev pub later_of : List Interval → Option ℕ → ℕ → ℕ
later_of intervals None place = place
later_of intervals (Some other) place = if ends_later intervals place other then place else other

abbrev pub last_of : List Interval → Option ℕ → ℕ → Option ℕ
last_of intervals last place = Some (later_of intervals last place)

abbrev pub last_to_end : List Interval → List ℕ → Option ℕ
last_to_end intervals places = fold (last_of intervals) None places

-- ---- whose failure is handed on

abbrev pub same_exception : Exception → Exception → Bool
same_exception exception.SpanFailed exception.SpanFailed = true
same_exception exception.SpanFailed (exception.Of place) = false
same_exception (exception.Of place) exception.SpanFailed = false
same_exception (exception.Of place) (exception.Of other) = nat_eq place other

-- a failure with a name is one of its own name, a failure without any
abbrev pub takes_over : Bool → Fate → Option Exception → Bool
takes_over hands_on fate None = false
takes_over hands_on Succeeded (Some failure) = false
takes_over hands_on Failed (Some failure) = hands_on
takes_over hands_on (Threw own) (Some failure) = same_exception own failure

-- the span waits for the child, the last attempt of a call
abbrev pub is_handed : PlainKnown → (ℕ → Option Exception) → ℕ → ℕ → Bool
is_handed known failures place child =
    option_eq nat_eq (parent_at known.relations.waiting child) (Some place)
    && (is_none (known.relations.attempts.next child) && takes_over known.hands_on (fate_at known.fates place) (failures child))

-- of these the last to end
abbrev pub thrower : PlainKnown → (ℕ → Option Exception) → ℕ → Option ℕ
thrower known failures place = last_to_end known.relations.intervals (filter (is_handed known failures place) (known.children place))

-- ---- how it is handed on

abbrev pub is_end_of : ℕ → StageId → Bool
is_end_of place (stage.Whole other) = nat_eq other place
is_end_of place other = false

-- where what a span has at its end did not fail, the call is joined to it
abbrev pub handed_by : PlainKnown → (ℕ → Option Exception) → ℕ → ℕ → List StageId
handed_by known failures place child =
    if has_failed (end_outcome known failures place) then []
    else (had_at known.hads place).has ∷ call_end known.relations.attempts (known.relations.attempts.first child) ∷ []

abbrev pub handed_from : PlainKnown → (ℕ → Option Exception) → ℕ → Option ℕ → List StageId
handed_from known failures place None = []
handed_from known failures place (Some child) = handed_by known failures place child

-- the sources of the join by which a span hands a failure on; none where it does not, or where it gave calls up
abbrev pub handed_sources : PlainKnown → (ℕ → Option Exception) → ℕ → List StageId
handed_sources known failures place =
    if gave_up known place || not (has_ended known.relations.intervals place) then [] else handed_from known failures place (thrower known failures place)

abbrev pub all_handed : PlainKnown → (ℕ → Option Exception) → List (List StageId)
all_handed known failures = map (handed_sources known failures) (range_with_len 0 (length known.relations.intervals))
