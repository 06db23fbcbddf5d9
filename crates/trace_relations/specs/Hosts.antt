-- Hosts: the span in which or after which a span starts.
use Rattle.std.specs.Prelude.{ℕ, List, length, map, if◌then◌else◌, Option, Some, None}
use Rattle.std.specs.List.{range_with_len}
use Rattle.trace_relations.specs.declared.hosts.Host.{Host}
use Rattle.trace_relations.specs.declared.hosts.Host.TheVariants.{Nowhere, Inside, After}
use Rattle.trace_relations.specs.declared.moment.Interval.{Interval}
use Rattle.trace_relations.specs.Ancestry.{host_of}
use Rattle.trace_relations.specs.Moments.{ended_before, interval_at, start_moment}

-- after a host that ended before, else inside it
abbrev pub host_at : List Interval → ℕ → Option ℕ → Host
host_at intervals place None = Nowhere
host_at intervals place (Some host) = if ended_before (interval_at intervals host) (start_moment (interval_at intervals place)) then After host else Inside host

-- where each span starts
abbrev pub hosts_of : List Interval → List (Option ℕ) → List Host
hosts_of intervals parents = map (λ place. host_at intervals place (host_of intervals parents place)) (range_with_len 0 (length parents))
