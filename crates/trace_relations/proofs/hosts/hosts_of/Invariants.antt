use Rattle.std.proofs.Common.{◌≡◌, map}
use Rattle.std.specs.List.{range_with_len}
use Rattle.trace_relations.specs.Ancestry.{host_of}
use Rattle.trace_relations.specs.Hosts.{host_at}
use Rattle.trace_relations.proofs.hosts.hosts_of.Given as goal

-- those so far
abbrev pub invariant-loop-place : goal.invariant-loop-place
invariant-loop-place l = l.hosts.items ≡ map (λ place. host_at l.intervals place (host_of l.intervals l.parents place)) (range_with_len 0 l.place)
