-- Which of places in a row are free.
use Rattle.std.specs.Prelude.{◌≡◌, ℕ, ◌<◌, ◌≤◌, Bool, true, false, length, nat_eq, if◌then◌else◌, Some, slice_get}
use Rattle.trace_relations.specs.declared.free_places.FreePlaces.{FreePlaces}

-- of so many places those are free
pub record AreFree (places : FreePlaces) (count : ℕ) (free : ℕ → Bool) : Type 0 where
  pub count_is : length places.next.items ≡ count
  pub not_before : (place next : ℕ) → slice_get places.next.items place ≡ Some next → (place ≤ next) × (next ≤ count)
  pub free_here : (place : ℕ) → slice_get places.next.items place ≡ Some place → free place ≡ true
  pub taken_until : (place next other : ℕ) → slice_get places.next.items place ≡ Some next → place ≤ other → other < next → free other ≡ false

-- the first free place from one on, or one behind all
pub record IsFirstFrom (count : ℕ) (free : ℕ → Bool) (from place : ℕ) : Type 0 where
  pub not_before : from ≤ place
  pub not_after : from < place → place ≤ count
  pub taken_until : (other : ℕ) → from ≤ other → other < place → free other ≡ false
  pub free_there : place < count → free place ≡ true

-- the first free place from one on
abbrev pub IsFirstFree : ℕ → (ℕ → Bool) → ℕ → ℕ → Type 0
IsFirstFree count free from place = (from ≤ place) × (place < count) × (free place ≡ true) × ((other : ℕ) → from ≤ other → other < place → free other ≡ false)

abbrev pub NoneIsFree : ℕ → (ℕ → Bool) → ℕ → Type 0
NoneIsFree count free from = (other : ℕ) → from ≤ other → other < count → free other ≡ false

abbrev pub with_free : (ℕ → Bool) → ℕ → Bool → ℕ → Bool
with_free free place is_free = λ other. if nat_eq other place then is_free else free other
