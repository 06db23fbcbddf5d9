-- The groups of spans of some names.
use Rattle.std.specs.Prelude.{◌≡◌, ℕ, ◌<◌, List, All, bytes_eq, count_by, map, Option, Some, None, slice_get, slice_index_or}
use Rattle.std.specs.BTreeMap.{is_at}
use Rattle.std.specs.List.Sorted.{IsStrictlySortedBy}
use Rattle.std.specs.Map.{keys_of, lookup}
use Rattle.std.specs.Option.{option_and_then, option_map}
use Rattle.fleet_summary.specs.Names.{name_cmp}
use Rattle.span_groups.specs.declared.grouping.Counted.{Counted}
use Rattle.span_groups.specs.declared.grouping.Group.{Group}
use Rattle.span_groups.specs.declared.grouping.Grouping.{Grouping}
use Rattle.span_groups.specs.declared.groups.NamedGroups.{NamedGroups}
use Rattle.span_groups.specs.declared.making.StageOf.{StageOf}
use Rattle.span_groups.specs.Grouping.{counted_at, name_of}

-- no two groups have one name
abbrev pub AreApart : List Group → Type 0
AreApart groups = (one other : ℕ) (name : List ℕ) → name_of groups one ≡ Some name → name_of groups other ≡ Some name → one ≡ other

-- each has as many spans as have its name
abbrev pub AreCounted : List (List ℕ) → List Group → Type 0
AreCounted names groups = All (λ (group : Group). group.spans ≡ count_by (bytes_eq group.name) names) groups

-- none is without a span
abbrev pub AreInhabited : List Group → Type 0
AreInhabited groups = All (λ (group : Group). 0 < group.spans) groups

-- these are the numbers of the groups of the names
abbrev pub AreNumbers : List (List ℕ) → List Group → List ℕ → Type 0
AreNumbers names groups numbers = map (name_of groups) numbers ≡ map (λ (name : List ℕ). Some name) names

-- ---- a grouping

-- the name of the group to which a stage of these spans counts, and what it is to its span
abbrev pub counted_by : List (List ℕ) → StageOf → Option (List ℕ × StageOf)
counted_by names stage = option_map (λ (name : List ℕ). (name, stage)) (slice_get names stage.span)

-- the same by the number of the group
abbrev pub counted_as : List Group → Counted → Option (List ℕ × StageOf)
counted_as groups counted = option_map (λ (name : List ℕ). (name, counted.stage)) (name_of groups counted.group)

-- The groups of spans, whose groups have these names, and of the stages of these spans.
pub record IsGroupingOf (names : List (List ℕ)) (stages : List (Option StageOf)) (grouping : Grouping) : Type 0 where
  pub apart : AreApart grouping.groups.items
  pub counted : AreCounted names grouping.groups.items
  pub inhabited : AreInhabited grouping.groups.items
  -- each name has a group
  pub each : All (λ name. (number : ℕ) × (name_of grouping.groups.items number ≡ Some name)) names
  -- each stage counts to that of its span's name
  pub stages_are : (place : ℕ) → option_and_then (counted_as grouping.groups.items) (counted_at grouping.stages.items place)
      ≡ option_and_then (counted_by names) (slice_index_or stages place None)

-- ---- as it is made

abbrev pub number_known : List (List ℕ × ℕ) → List ℕ → Option ℕ
number_known known name = lookup (is_at (name_cmp name)) known

-- the groups' numbers are known by their names
pub record AreKnown (known : List (List ℕ × ℕ)) (groups : List Group) : Type 0 where
  pub ordered : IsStrictlySortedBy name_cmp (keys_of known)
  pub there : (name : List ℕ) (number : ℕ) → number_known known name ≡ Some number → name_of groups number ≡ Some name
  pub all : (name : List ℕ) (number : ℕ) → name_of groups number ≡ Some name → number_known known name ≡ Some number

-- groups so far, of these names
pub record IsOfNames (names : List (List ℕ)) (made : NamedGroups) : Type 0 where
  pub known : AreKnown made.known.entries made.groups.items
  pub counted : AreCounted names made.groups.items
  pub inhabited : AreInhabited made.groups.items
  pub numbers : AreNumbers names made.groups.items made.numbers.items

-- a group with no span
abbrev pub empty_group : List ℕ → Group
empty_group name = record { name = name; spans = 0 }
