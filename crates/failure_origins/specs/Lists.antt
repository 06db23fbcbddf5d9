-- The lists of each origin, by the origins that are known: the other places that hold its exception, and those that have read it and do not hold it.
use Rattle.std.specs.Prelude.{ℕ, ◌≡◌, ◌<◌, Bool, not, ◌&&◌, ◌==◌, if◌then◌else◌, List, [], ◌∷◌, ◌++◌, length, filter, Option, slice_index_or}
use Rattle.std.specs.List.{list_any, range_with_len}
use Rattle.stage_graph.specs.Plain.{PlainGraph}
use Rattle.stage_ops.specs.Java.{java_step}
use Rattle.propagate.specs.Reach.{reads_at}
use Rattle.failure_origins.specs.declared.failure.Failure.{Failure}
use Rattle.failure_origins.specs.Origins.{comes_from}

abbrev pub is_reached_by : List (Option ℕ) → ℕ → ℕ → Bool
is_reached_by origins origin place = not (place == origin) && comes_from origins origin place

-- the place has read these places, one of them holds the exception of the origin, and the place does not
abbrev pub handles_after : List (Option ℕ) → List ℕ → ℕ → ℕ → Bool
handles_after origins read place origin = list_any (comes_from origins origin) read && not (comes_from origins origin place)

abbrev pub handles_by : PlainGraph → List (Option ℕ) → ℕ → ℕ → Bool
handles_by graph origins origin place = handles_after origins (reads_at (java_step graph.mode) graph.places place) place origin

abbrev pub list_at : List (List ℕ) → ℕ → List ℕ
list_at lists origin = slice_index_or lists origin []

-- each of this many origins has a list of the places before `end` that pass its test
pub record AreLists (passes : ℕ → ℕ → Bool) (end count : ℕ) (lists : List (List ℕ)) : Type 0 where
  pub long : length lists ≡ count
  pub each : (origin : ℕ) → origin < count → list_at lists origin ≡ filter (passes origin) (range_with_len 0 end)

-- the same with a place more in those lists whose origins pass a test
pub record AreListsWith (passes : ℕ → ℕ → Bool) (place : ℕ) (has : ℕ → Bool) (count : ℕ) (lists : List (List ℕ)) : Type 0 where
  pub long : length lists ≡ count
  pub each : (origin : ℕ) → origin < count → list_at lists origin ≡ filter (passes origin) (range_with_len 0 place) ++ (if has origin then place ∷ [] else [])

-- an origin with its lists
abbrev pub failure_by : List (List ℕ) → List (List ℕ) → ℕ → Failure
failure_by reached handled origin = record { origin = origin; reaches = list_at reached origin; handled = list_at handled origin }
