-- Lists of the dependents of each place, by a test of which place depends on which.
use Rattle.std.specs.Prelude.{ℕ, ◌<◌, ◌≡◌, ◌&&◌, ◌||◌, ◌==◌, Bool, nat_lt, List, [], ◌∷◌, ◌++◌, length, map, filter, slice_index_or, Vec, Option, if◌then◌else◌}
use Rattle.std.specs.Global.{Global}
use Rattle.stage_graph.specs.declared.stage.Stage.{Stage}
use Rattle.stage_graph.specs.Plain.{feeds_at}
use Rattle.rank_order.specs.Lists.{is_among, IsAscending}

-- the places that pass the test, in order
pub record AreDependents (uses : ℕ → Bool) (its_dependents : List ℕ) : Type 0 where
  pub ascending : IsAscending its_dependents
  pub each : (dependent : ℕ) → is_among dependent its_dependents ≡ uses dependent

-- each of this many places has the list of its dependents
pub record AreDependentLists (uses : ℕ → ℕ → Bool) (count : ℕ) (lists : List (List ℕ)) : Type 0 where
  pub long : length lists ≡ count
  pub its_dependents : (place : ℕ) → place < count → AreDependents (uses place) (slice_index_or lists place [])

-- the stage at the dependent has the place as a feed
abbrev pub uses_by_feeds : List (Option Stage) → ℕ → ℕ → Bool
uses_by_feeds places place dependent = is_among place (feeds_at places dependent)

-- the same, only for the stages before a place
abbrev pub uses_before : List (Option Stage) → ℕ → ℕ → ℕ → Bool
uses_before places end place dependent = nat_lt dependent end && uses_by_feeds places place dependent

-- one more stage depends on these places
abbrev pub with_feeds : (ℕ → ℕ → Bool) → ℕ → List ℕ → ℕ → ℕ → Bool
with_feeds uses added feeds place dependent = uses place dependent || (dependent == added && is_among place feeds)

-- the lists as vectors
abbrev pub listed : List (Vec ℕ Global) → List (List ℕ)
listed vectors = map (λ vector. vector.items) vectors

-- ---- under a change

-- the dependents with a place among them, in order, or without it
abbrev pub with_dependent : ℕ → Bool → List ℕ → List ℕ
with_dependent place is_dependent its_dependents = filter (λ dependent. nat_lt dependent place) its_dependents ++ (if is_dependent then place ∷ [] else []) ++ filter (λ dependent. nat_lt place dependent) its_dependents

-- of these feeds, the moved place depends on those that it has now
abbrev pub moving : (ℕ → ℕ → Bool) → ℕ → List ℕ → List ℕ → ℕ → ℕ → Bool
moving uses moved feeds done place dependent = if dependent == moved && is_among place done then is_among place feeds else uses place dependent

-- the moved place depends on the feeds that it has now
abbrev pub with_moved : (ℕ → ℕ → Bool) → ℕ → List ℕ → ℕ → ℕ → Bool
with_moved uses moved feeds place dependent = if dependent == moved then is_among place feeds else uses place dependent

-- these places have moved from one graph to the other
abbrev pub uses_between : List (Option Stage) → List (Option Stage) → List ℕ → ℕ → ℕ → Bool
uses_between old new done place dependent = is_among place (if is_among dependent done then feeds_at new dependent else feeds_at old dependent)
