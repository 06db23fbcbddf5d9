use Rattle.std.proofs.Common.{◌∙◌, ap}
use Rattle.trace_relations.specs.Hosts.{hosts_of}
use Rattle.trace_relations.specs.Waits.{waiting_parents}
use Rattle.trace_relations.proofs.relations.family_of.Goals as goal

pub returns : goal.returns
returns c = record {
  parents = c.in_ok-parents.ensures;
  hosts = c.in_ok-hosts.ensures ∙ ap (hosts_of c.args.intervals.now) c.deref.ensures.value;
  waiting = c.in_ok-waiting.ensures ∙ ap (waiting_parents c.args.spans.now c.args.intervals.now c.args.references.now) c.deref-2.ensures.value;
}
