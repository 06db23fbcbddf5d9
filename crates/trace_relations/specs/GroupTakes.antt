-- How a call is taken from a group.
use Rattle.std.specs.Prelude.{◌≡◌, ℕ, ◌<◌, ◌&&◌, List, Bool, true, false, length, Option, Some, MatchOption, slice_get, unwrap_or}
use Rattle.std.specs.List.Sorted.{IsPartitionPoint}
use Rattle.trace_relations.specs.declared.free_places.FreePlaces.{FreePlaces}
use Rattle.trace_relations.specs.declared.moment.Interval.{Interval}
use Rattle.trace_relations.specs.declared.moment.Moment.{Moment}
use Rattle.trace_relations.specs.FreePlaces.{AreFree, with_free}
use Rattle.trace_relations.specs.Moments.{interval_at, is_before, start_moment}

abbrev pub starts_after : List Interval → Moment → ℕ → Bool
starts_after intervals end call = is_before end (start_moment (interval_at intervals call))

-- the calls from a number on start after a moment, those before it do not
abbrev pub IsFirstAfter : List Interval → Moment → List ℕ → ℕ → Type 0
IsFirstAfter intervals end calls number = IsPartitionPoint (λ call. starts_after intervals end call ≡ false) (λ call. starts_after intervals end call ≡ true) calls number

-- the call of a number starts after a moment and is free
abbrev pub may_be_taken : List Interval → Moment → (ℕ → Bool) → List ℕ → ℕ → Bool
may_be_taken intervals end free calls number = starts_after intervals end (unwrap_or (slice_get calls number) 0) && free number

-- the first that may be taken
pub record IsTaken (intervals : List Interval) (end : Moment) (free : ℕ → Bool) (calls : List ℕ) (call : ℕ) (places : FreePlaces) : Type 0 where
  pub number : ℕ
  pub there : slice_get calls number ≡ Some call
  pub may_be : may_be_taken intervals end free calls number ≡ true
  pub before : (other : ℕ) → other < number → may_be_taken intervals end free calls other ≡ false
  pub places_are : AreFree places (length calls) (with_free free number false)

-- none may be taken
pub record NoneIsTaken (intervals : List Interval) (end : Moment) (free : ℕ → Bool) (calls : List ℕ) (places : FreePlaces) : Type 0 where
  pub none : (number : ℕ) → number < length calls → may_be_taken intervals end free calls number ≡ false
  pub places_are : AreFree places (length calls) free

abbrev pub HasTaken : List Interval → Moment → (ℕ → Bool) → List ℕ → Option ℕ → FreePlaces → Type 0
HasTaken intervals end free calls taken places = MatchOption taken (NoneIsTaken intervals end free calls places) (λ call. IsTaken intervals end free calls call places)
