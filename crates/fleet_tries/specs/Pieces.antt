-- The ticks that are asked for of all work of a span, shared out to the stages that are that work.
use Rattle.std.specs.Prelude.{ℕ, ◌+◌, ◌-◌, ◌*◌, ◌/◌, ◌==◌, Bool, false, ◌&&◌, nat_lt, if◌then◌else◌, List, length, Option, Some, None, is_some, not, sum_by}
use Rattle.std.specs.List.{list_any, range_with_len}
use Rattle.std.specs.Option.{option_and_then, option_map_or}
use Rattle.stage_graph.specs.declared.stage.Stage.{Stage}
use Rattle.stage_graph.specs.Plain.{PlainGraph, all_places, stage_at}
use Rattle.change_words.specs.declared.amount.Amount.{Amount}
use Rattle.change_words.specs.declared.amount.Amount.TheVariants.{Ticks, Share}
use Rattle.fleet_summary.specs.Histogram.{capped}
use Rattle.span_groups.specs.Grouping.{counted_at}
use Rattle.span_groups.specs.declared.grouping.Counted.{Counted}
use Rattle.fleet_tries.specs.declared.pieces.Time.{Time}
use Rattle.fleet_tries.specs.declared.pieces.Time.TheVariants.{Queued, Runs}

-- how long the action of a stage is queued, or runs
abbrev pub time_of : Time → Stage → ℕ
time_of Queued stage = stage.queued
time_of Runs stage = stage.runs

abbrev pub own_ticks : PlainGraph → Time → ℕ → ℕ
own_ticks graph time place = option_map_or (time_of time) (stage_at graph.places place) 0

-- what counts to a span, and is work of it
abbrev pub is_work_in : ℕ → Option Counted → Bool
is_work_in span None = false
is_work_in span (Some counted) = counted.stage.span == span && counted.stage.is_work

-- the ticks of the stage at a place, if it is work of the span
abbrev pub work_ticks : PlainGraph → List (Option Counted) → Time → ℕ → ℕ → ℕ
work_ticks graph stages time span place = if is_work_in span (counted_at stages place) then own_ticks graph time place else 0

-- those of all work of the span before a place
abbrev pub ticks_before : PlainGraph → List (Option Counted) → Time → ℕ → ℕ → ℕ
ticks_before graph stages time span place = capped (sum_by (work_ticks graph stages time span) (range_with_len 0 place))

-- the share of some ticks that a part of a whole has, rounded down; none where the whole is nothing
abbrev pub portion : ℕ → ℕ → ℕ → ℕ
portion ticks part whole = if whole == 0 then 0 else capped (ticks * part / whole)

-- A piece of work has of so many ticks its share, so that the shares of all pieces make these ticks; and of a share of the ticks
-- that it takes the same share.
abbrev pub amount_of : Amount → ℕ → ℕ → ℕ → Amount
amount_of (Ticks ticks) before upto whole = Ticks (portion ticks upto whole - portion ticks before whole)
amount_of (Share percent) before upto whole = Share percent

-- the stage at a place is work of the span, and could take time
abbrev pub could_take : PlainGraph → List (Option Counted) → ℕ → ℕ → Bool
could_take graph stages span place = option_map_or (λ (stage : Stage). is_some stage.action) (stage_at graph.places place) false && is_work_in span (counted_at stages place)

-- such a stage stands at the other place, and that is behind the first
abbrev pub takes_behind : PlainGraph → List (Option Counted) → ℕ → ℕ → ℕ → Bool
takes_behind graph stages span place other = nat_lt place other && could_take graph stages span other

-- such a stage stands behind a place
abbrev pub comes_later : PlainGraph → List (Option Counted) → ℕ → ℕ → Bool
comes_later graph stages span place = list_any (takes_behind graph stages span place) (all_places graph.places)

-- ticks as they are, and no share of nothing
abbrev pub of_nothing : Amount → Option Amount
of_nothing (Ticks ticks) = Some (Ticks ticks)
of_nothing (Share percent) = None

-- A piece of work that takes time has its share. Where no piece of the span does, the last one that could has all ticks.
abbrev pub piece_of : Amount → ℕ → ℕ → ℕ → ℕ → Bool → Option Amount
piece_of amount before own upto whole is_last =
    if nat_lt 0 own
    then Some (amount_of amount before upto whole)
    else (if whole == 0 && is_last then of_nothing amount else None)

-- what is assigned to the stage at a place where an amount is assigned to all work of its span
abbrev pub piece_amount : PlainGraph → List (Option Counted) → Time → ℕ → ℕ → Option Amount → Option Amount
piece_amount graph stages time span place amount =
    option_and_then
    (λ (amount : Amount).
    piece_of amount (ticks_before graph stages time span place) (work_ticks graph stages time span place) (ticks_before graph stages time span (place + 1))
    (ticks_before graph stages time span (length graph.places))
    (could_take graph stages span place && not (comes_later graph stages span place)))
    amount
