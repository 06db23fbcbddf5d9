-- Which spans have two stages.
use Rattle.std.specs.Prelude.{ℕ, ◌||◌, List, Bool, false, nat_eq, Option, Some, None}
use Rattle.std.specs.List.{list_any}
use Rattle.trace_relations.specs.declared.hosts.Host.{Host}
use Rattle.trace_relations.specs.declared.hosts.Host.TheVariants.{Nowhere, Inside, After}

-- whether it is the span that another starts inside
abbrev pub hosts : ℕ → Host → Bool
hosts place Nowhere = false
hosts place (Inside host) = nat_eq place host
hosts place (After host) = false

-- whether it is the parent that waits
abbrev pub waits : ℕ → Option ℕ → Bool
waits place None = false
waits place (Some parent) = nat_eq place parent

-- a span has two stages in which others start, or that waits for others
abbrev pub has_two : List Host → List (Option ℕ) → ℕ → Bool
has_two all_hosts waiting place = list_any (hosts place) all_hosts || list_any (waits place) waiting
