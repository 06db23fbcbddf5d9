-- The visits of spans: each is entered, then its children are visited, and then it is left.
use Rattle.std.specs.Prelude.{◌≡◌, ℕ, zero, suc, List, [], ◌∷◌, ◌++◌, Bool, length, nat_eq, nat_lt, is_none, option_and_then, reverse, if◌then◌else◌, Option, Some, None, Vec, slice_get, filter, flat_map}
use Rattle.std.specs.Option.{option_eq}
use Rattle.std.specs.declared.alloc.Global.{Global}
use Rattle.trace_stages.specs.declared.tour.touring.Coming.{Coming}
use Rattle.trace_stages.specs.declared.tour.touring.Coming.TheVariants.{Enter, Leave}
use Rattle.trace_stages.specs.declared.tour.visit.Visit.{Visit}
use Rattle.trace_stages.specs.declared.tour.visit.Visit.TheVariants.{Enters, Leaves}

abbrev pub known : Option (Option ℕ) → Option ℕ
known None = None
known (Some parent) = parent

abbrev pub if_below : ℕ → ℕ → Option ℕ
if_below count place = if nat_lt place count then Some place else None

-- the parent of the span at a place, where it is a span
abbrev pub parent_at : List (Option ℕ) → ℕ → Option ℕ
parent_at parents place = option_and_then (if_below (length parents)) (known (slice_get parents place))

abbrev pub is_root : List (Option ℕ) → ℕ → Bool
is_root parents place = is_none (parent_at parents place)

abbrev pub roots : List (Option ℕ) → List ℕ → List ℕ
roots parents order = filter (is_root parents) order

abbrev pub is_child_of : List (Option ℕ) → ℕ → ℕ → Bool
is_child_of parents parent place = option_eq nat_eq (parent_at parents place) (Some parent)

abbrev pub children : List (Option ℕ) → List ℕ → ℕ → List ℕ
children parents order parent = filter (is_child_of parents parent) order

-- the visits of a span and of so many generations below it
unfoldable pub entered : List (Option ℕ) → List ℕ → ℕ → ℕ → List Visit
entered parents order zero place = Enters place ∷ Leaves place ∷ []
entered parents order (suc n) place = Enters place ∷ (flat_map (entered parents order n) (children parents order place) ++ Leaves place ∷ [])

-- no span has so many ancestors
abbrev pub most_generations : ℕ
most_generations = 65_536

-- all visits, of spans in an order
abbrev pub visits : List (Option ℕ) → List ℕ → List Visit
visits parents order = flat_map (entered parents order most_generations) (roots parents order)

abbrev pub items_or_none : Option (Vec ℕ Global) → List ℕ
items_or_none None = []
items_or_none (Some places) = places.items

abbrev pub children_at : List (Vec ℕ Global) → ℕ → List ℕ
children_at all place = items_or_none (slice_get all place)

-- the lists have the children of each span
abbrev pub HasChildren : List (Option ℕ) → List ℕ → List (Vec ℕ Global) → Type 0
HasChildren parents order all = (place : ℕ) → children_at all place ≡ children parents order place

abbrev pub visits_coming : List (Option ℕ) → List ℕ → Coming → List Visit
visits_coming parents order (Enter place generations) = entered parents order generations place
visits_coming parents order (Leave place) = Leaves place ∷ []

-- what is to come, of which the last is the first
abbrev pub pending : List (Option ℕ) → List ℕ → List Coming → List Visit
pending parents order coming = flat_map (visits_coming parents order) (reverse coming)

abbrev pub entering : ℕ → ℕ → Coming
entering generations place = Enter place generations
