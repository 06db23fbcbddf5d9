use Rattle.std.proofs.Common.{arith, zero-add}
use Rattle.std.proofs.lemmas.Grind.{common_steps}
use Rattle.std.proofs.lemmas.List.FromFn.{map-range_with_len_more}
use Rattle.trace_relations.specs.Ancestry.{host_of}
use Rattle.trace_relations.specs.Hosts.{host_at}
use Rattle.trace_relations.proofs.hosts.hosts_of.Goals as goal

pub loop-place-preserved : goal.loop-place-preserved
loop-place-preserved c = grind (arith, common_steps, map-range_with_len_more (λ place. host_at c.args.intervals.now place (host_of c.args.intervals.now c.args.parents.now place)) 0 c.loop-place.place c.loop-place.place (zero-add c.loop-place.place))

pub host_above-host-requires-clause-lines : goal.host_above-host-requires-clause-lines
host_above-host-requires-clause-lines c = rw c.deref.ensures.value c.in_ok-levels.ensures.1
