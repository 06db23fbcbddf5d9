-- Which stages have a row, and in which order.
use Rattle.std.specs.Prelude.{ℕ, ◌+◌, ◌-◌, ◌*◌, ◌^◌, Bool, true, ◌&&◌, ◌||◌, nat_le, List, filter, take, Option, None, Some, unwrap_or, if◌then◌else◌, IsPermutation}
use Rattle.std.specs.List.{filter_map}
use Rattle.std.specs.List.Sorted.{IsNonDecreasingBy, IsStableByKey}
use Rattle.std.specs.Ordering.{nat_cmp}
use Rattle.rank_order.specs.Lists.{is_among}
use Rattle.stage_graph.specs.declared.stage.Stage.{Stage}
use Rattle.stage_graph.specs.Plain.{PlainGraph, all_places, stage_at}
use Rattle.timeline_svg.specs.declared.row.Course.{Course}
use Rattle.timeline_svg.specs.declared.row.Course.TheVariants.{Service, Pending, Completed}
use Rattle.timeline_svg.specs.declared.window.Window.{Window}
use Rattle.version_rows.specs.declared.candidate.Candidate.{Candidate}
use Rattle.version_rows.specs.declared.candidate.Scope.{Scope}
use Rattle.version_rows.specs.declared.selection.Selection.{Selection}
use Rattle.version_rows.specs.declared.candidate.Scope.TheVariants.{All, Path}
use Rattle.version_rows.specs.declared.room.Room.{Room}
use Rattle.version_rows.specs.Courses.{course_at, own_ticks, start_of}
use Rattle.version_rows.specs.Rooms.{most_rows}

abbrev pub is_wanted : Scope → Bool → Bool
is_wanted All is_on_path = true
is_wanted Path is_on_path = is_on_path

-- it completes in the window or after its first tick, and is created no later than in its last one
abbrev pub is_before_end : Window → Course → Bool
is_before_end window Service = true
is_before_end window Pending = true
is_before_end window (Completed run) = nat_le (unwrap_or window.first 0) run.completed

abbrev pub is_in : Window → ℕ → Course → Bool
is_in window created course = nat_le created (unwrap_or window.last (2 ^ 64 - 1)) && is_before_end window course

-- from its trigger to its completion it takes so many ticks, or is pending
abbrev pub is_long : ℕ → Course → Bool
is_long least Service = true
is_long least Pending = true
is_long least (Completed run) = nat_le least (run.completed - run.triggered)

-- in the window, and on the path or long enough
abbrev pub is_asked : Selection → Bool → ℕ → Course → Bool
is_asked selection is_on_path created course = is_in selection.window created course && (is_on_path || is_long selection.least course)

-- the less, the longer its own action took; least on the path
abbrev pub rest_of : Bool → Course → ℕ
rest_of is_on_path course = if is_on_path then 0 else 2 ^ 64 - 1 - own_ticks course

-- rows stand by start, and then by place
abbrev pub order_of : ℕ → ℕ → ℕ
order_of start place = start * 2 ^ 32 + place

abbrev pub candidate_of : PlainGraph → Selection → Bool → ℕ → Stage → Candidate
candidate_of graph selection is_on_path place stage = record {
  place = place;
  is_on_path = is_on_path;
  is_asked = is_asked selection is_on_path stage.created (course_at graph place stage);
  order = order_of (start_of (course_at graph place stage)) place;
  rest = rest_of is_on_path (course_at graph place stage);
  service = 0;
}

abbrev pub candidate_in : PlainGraph → Selection → Bool → ℕ → Option Stage → Option Candidate
candidate_in graph selection is_on_path place None = None
candidate_in graph selection is_on_path place (Some stage) = if is_wanted selection.scope is_on_path then Some (candidate_of graph selection is_on_path place stage) else None

abbrev pub candidate_at : PlainGraph → Selection → List ℕ → ℕ → Option Candidate
candidate_at graph selection path place = candidate_in graph selection (is_among place path) place (stage_at graph.places place)

-- the live stages, or those on the path alone, by place
abbrev pub candidates : PlainGraph → Selection → List ℕ → List Candidate
candidates graph selection path = filter_map (candidate_at graph selection path) (all_places graph.places)

abbrev pub is_asked_in : Candidate → Bool
is_asked_in candidate = candidate.is_asked

-- those that are asked for by their ticks
abbrev pub asked : List Candidate → List Candidate
asked candidates = filter is_asked_in candidates

abbrev pub order_in : Candidate → ℕ
order_in candidate = candidate.order

abbrev pub rest_in : Candidate → ℕ
rest_in candidate = candidate.rest

-- of the candidates those on the path, then those whose own actions took longest, then by place, so far as there is room; these by start and place
pub record IsChosen (room : Room) (candidates chosen : List Candidate) : Type 0 where
  pub ranked : List Candidate
  pub same : IsPermutation candidates ranked
  pub by_rest : IsNonDecreasingBy rest_in ranked
  pub by_place : IsStableByKey rest_in nat_cmp candidates ranked
  pub first : IsPermutation (take (most_rows room) ranked) chosen
  pub by_start : IsNonDecreasingBy order_in chosen
