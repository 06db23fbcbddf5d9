-- From what each span begins.
use Rattle.std.specs.Prelude.{ℕ, ◌&&◌, ◌||◌, List, [], ◌∷◌, ◌++◌, Bool, false, length, map, nat_eq, not, if◌then◌else◌, Option, Some, None, option_map, unwrap_or, slice_get, filter, find, flat_map}
use Rattle.std.specs.List.{range_with_len}
use Rattle.trace_relations.specs.Moments.{ended_before, interval_at, start_moment}
use Rattle.trace_relations.specs.declared.hosts.Host.{Host}
use Rattle.trace_relations.specs.declared.hosts.Host.TheVariants.{Nowhere, Inside, After}
use Rattle.trace_relations.specs.declared.moment.Interval.{Interval}
use Rattle.trace_relations.specs.declared.moment.Moment.{Moment}
use Rattle.trace_stages.specs.Bounds.{is_bounded}
use Rattle.trace_stages.specs.Known.{PlainHad, PlainKnown, has_ended}
use Rattle.trace_stages.specs.HandedOn.{is_end_of}
use Rattle.trace_stages.specs.Joins.{PlainJoined, joined_of}
use Rattle.trace_stages.specs.declared.walk.holding.Begin.{Begin}
use Rattle.trace_stages.specs.declared.walk.joins.JoinsOf.TheVariants as joins_of
use Rattle.trace_stages.specs.declared.walk.stage_id.StageId.{StageId}
use Rattle.trace_stages.specs.declared.walk.stage_id.StageId.TheVariants.{Whole}

abbrev pub all_begins : List PlainHad → List Begin
all_begins hads = flat_map (λ had. had.begins) hads

abbrev pub begun_from : List Begin → ℕ → Option StageId
begun_from begins place = option_map (λ begin. begin.from) (find (λ begin. nat_eq begin.span place) begins)

-- from what a span begins that started in another: what that has then
abbrev pub begun : PlainKnown → ℕ → Option StageId
begun known place = begun_from (all_begins known.hads) place

abbrev pub host_at : List Host → ℕ → Host
host_at hosts place = unwrap_or (slice_get hosts place) Nowhere

abbrev pub by_host : (ℕ → Option StageId) → ℕ → Host → Option StageId
by_host begun place Nowhere = None
by_host begun place (Inside host) = begun place
by_host begun place (After host) = Some (Whole host)

abbrev pub by_attempt : Option ℕ → Option StageId → Option StageId
by_attempt None from = from
by_attempt (Some previous) from = Some (Whole previous)

-- inside its host from what that has then, after it from its end; but a later attempt from the end of the one before
abbrev pub from_host : PlainKnown → (ℕ → Option StageId) → ℕ → Option StageId
from_host known begun place = by_attempt (known.relations.attempts.previous place) (by_host begun place (host_at known.relations.hosts place))

abbrev pub links_of : List ℕ → List ℕ
links_of [] = []
links_of (parent ∷ links) = links

abbrev pub links_in : Option (List ℕ × Bool) → List ℕ
links_in None = []
links_in (Some references) = links_of references.0

-- of what the references of a span mean the first is its parent, the others are links
abbrev pub links_at : List (List ℕ × Bool) → ℕ → List ℕ
links_at references place = links_in (slice_get references place)

abbrev pub is_from : ℕ → Option StageId → Bool
is_from link None = false
is_from link (Some id) = is_end_of link id

-- the link ended before the span started, and before a bound, and the span begins from its end no other way
abbrev pub is_linked : List Interval → Option Moment → ℕ → Option StageId → ℕ → Bool
is_linked intervals until place from link =
    ended_before (interval_at intervals link) (start_moment (interval_at intervals place)) && (is_bounded (interval_at intervals link) until && not (is_from link from))

abbrev pub bound_at : List (Option Moment) → ℕ → Option Moment
bound_at bounds place = unwrap_or (slice_get bounds place) None

abbrev pub option_list : Option StageId → List StageId
option_list None = []
option_list (Some id) = id ∷ []

-- what its host has, and the ends of its links that ended before it
abbrev pub sources_of : PlainKnown → (ℕ → Option StageId) → ℕ → List StageId
sources_of known begun place =
    option_list (from_host known begun place)
    ++ map Whole (filter (is_linked known.relations.intervals (bound_at known.bounds place) place (from_host known begun place)) (links_at known.relations.references place))

-- one stage for what a span begins from and for links
abbrev pub joined_with_links : List Interval → Option Moment → ℕ → Option StageId → List ℕ → PlainJoined
joined_with_links intervals until place from links = joined_of (joins_of.Entry place) [] (option_list from ++ map Whole (filter (is_linked intervals until place from) links))

-- but for an open span of one stage, which nothing completes, each span has a stage that begins
abbrev pub is_begun : PlainKnown → ℕ → Bool
is_begun known place = known.has_two place || has_ended known.relations.intervals place

abbrev pub nothing_joined : PlainJoined
nothing_joined = record { joins = []; stage = None }

-- one stage for all that a span begins from, and the joins at its start
abbrev pub entry : PlainKnown → (ℕ → Option StageId) → ℕ → PlainJoined
entry known begun place = if is_begun known place then joined_of (joins_of.Entry place) [] (sources_of known begun place) else nothing_joined

abbrev pub all_entries : PlainKnown → List PlainJoined
all_entries known = map (entry known (begun known)) (range_with_len 0 (length known.relations.intervals))
