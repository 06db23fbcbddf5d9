-- What happens inside each span.
use Rattle.std.specs.Prelude.{◌≡◌, ℕ, ◌==◌, ◌++◌, List, [], ◌∷◌, is_some, nat_lt, if◌then◌else◌, Option, Some, None, option_map, Vec, slice_get, fold}
use Rattle.std.specs.declared.alloc.Global.{Global}
use Rattle.trace_relations.specs.declared.hosts.Host.{Host}
use Rattle.trace_relations.specs.declared.hosts.Host.TheVariants.{Nowhere, Inside, After}
use Rattle.trace_relations.specs.Ancestry.{parent_at}
use Rattle.trace_relations.specs.Relations.{PlainRelations}
use Rattle.trace_stages.specs.declared.walk.event.Event.{Event}
use Rattle.trace_stages.specs.declared.walk.event.Event.TheVariants.{Starts, Ends}
use Rattle.trace_stages.specs.declared.walk.events.Happening.{Happening}
use Rattle.trace_stages.specs.Called.{call_end}
use Rattle.trace_stages.specs.Moments.{At}

abbrev pub starts_in : ℕ → ℕ → Option Host → Option Happening
starts_in place tick None = None
starts_in place tick (Some Nowhere) = None
starts_in place tick (Some (Inside host)) = Some (record { inside = host; event = Starts place tick })
starts_in place tick (Some (After host)) = None

-- a call starts inside its host with its first attempt
abbrev pub starting_in : PlainRelations → ℕ → ℕ → Option Happening
starting_in relations place tick = if is_some (relations.attempts.previous place) then None else starts_in place tick (slice_get relations.hosts place)

abbrev pub ends_for : PlainRelations → ℕ → ℕ → ℕ → Happening
ends_for relations first tick parent = record { inside = parent; event = Ends first (call_end relations.attempts first) tick }

-- a call ends with its last attempt, for the parent that waits for it
abbrev pub ending_in : PlainRelations → ℕ → ℕ → Option Happening
ending_in relations place tick =
    if is_some (relations.attempts.next place) then None else option_map (ends_for relations (relations.attempts.first place) tick) (parent_at relations.waiting place)

-- what happens at a moment
abbrev pub happening : PlainRelations → At → Option Happening
happening relations at = if at.0.1 == 1 then starting_in relations at.1.1 at.0.0 else ending_in relations at.1.1 at.0.0

abbrev pub with_happening : ℕ → ℕ → List Event → Option Happening → List Event
with_happening count span events None = events
with_happening count span events (Some found) =
    if nat_lt found.inside count then (if span == found.inside then events ++ found.event ∷ [] else events) else events

-- what happens inside a span, in the order of moments
abbrev pub events_of : ℕ → PlainRelations → List At → ℕ → List Event
events_of count relations moments span = fold (λ events at. with_happening count span events (happening relations at)) [] moments

abbrev pub items_or_none : Option (Vec Event Global) → List Event
items_or_none None = []
items_or_none (Some events) = events.items

abbrev pub events_at : List (Vec Event Global) → ℕ → List Event
events_at all span = items_or_none (slice_get all span)

abbrev pub HasEvents : ℕ → PlainRelations → List At → List (Vec Event Global) → Type 0
HasEvents count relations moments all = (span : ℕ) → events_at all span ≡ events_of count relations moments span
