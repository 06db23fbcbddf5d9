use Rattle.std.proofs.Common.{sym, ◌∙◌}
use Rattle.trace_spans.proofs.MapMembers.{get_member-from}
use Rattle.trace_spans.proofs.jaeger.processes.Processes.get.Goals as goal

pub returns : goal.returns
returns c =
    rw (← c.self.view_is) (c.get.ensures.value ∙ sym (get_member-from c.args.name.now c.self.inside.by_name.entries))
