-- Parts of how spans stand to each other, as they are found.
use Rattle.std.specs.Prelude.{◌≡◌, ℕ, ◌<◌, List, Bool, true, length, map, nat_eq, Option, Some}
use Rattle.std.specs.List.{list_any}
use Rattle.trace_spans.specs.declared.span.Span.{Span}
use Rattle.trace_relations.specs.declared.as_told.AsTold.{AsTold}
use Rattle.trace_relations.specs.declared.moment.Interval.{Interval}
use Rattle.trace_relations.specs.declared.relations.Family.{Family}
use Rattle.trace_relations.specs.declared.relations.Tries.{Tries}
use Rattle.trace_relations.specs.Ancestry.{parent_at, without_circles}
use Rattle.trace_relations.specs.Hosts.{hosts_of}
use Rattle.trace_relations.specs.KeptAttempts.{plain_attempts}
use Rattle.trace_relations.specs.Relations.{given_up_of, parent_meant, tried_of}
use Rattle.trace_relations.specs.Waits.{waiting_parents}

-- the order has each span
abbrev pub HasAll : List Span → List ℕ → Type 0
HasAll spans order = (place : ℕ) → place < length spans → list_any (nat_eq place) order ≡ true

-- each parent is a span
abbrev pub AreWithin : List Span → List (Option ℕ) → Type 0
AreWithin spans parents = (place caller : ℕ) → parent_at parents place ≡ Some caller → caller < length spans

-- the parents of spans, where these start, and which parents wait for them
pub record IsFamily (spans : List Span) (intervals : List Interval) (references : List (List ℕ × Bool)) (family : Family) : Type 0 where
  pub parents : family.parents.items ≡ without_circles intervals (map parent_meant references)
  pub hosts : family.hosts.items ≡ hosts_of intervals family.parents.items
  pub waiting : family.waiting.items ≡ waiting_parents spans intervals references family.parents.items

-- which calls of a family were tried again, and which were given up
pub record AreTries (as_told : AsTold) (spans : List Span) (intervals : List Interval) (references : List (List ℕ × Bool)) (order : List ℕ) (family : Family) (tries : Tries) : Type 0 where
  pub attempts : plain_attempts tries.attempts ≡ tried_of as_told spans intervals order family.hosts.items family.waiting.items
  pub given_up : tries.given_up.items
      ≡ given_up_of as_told spans order (record { spans = spans; intervals = intervals; references = references; parents = family.parents.items; waiting = family.waiting.items; next = parent_at tries.attempts.next.items })
