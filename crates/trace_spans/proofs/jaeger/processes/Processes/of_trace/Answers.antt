use Rattle.std.proofs.Common.{◌∷◌, sym, ap, ◌∙◌}
use Rattle.json_trees.specs.Named.{put_all}
use Rattle.serde_json.specs.Data.{no_members}
use Rattle.trace_spans.proofs.MapMembers.{one_more_member, where_ok}
use Rattle.trace_spans.proofs.jaeger.processes.Processes.of_trace.Goals as goal

pub loop-name-preserved : goal.loop-name-preserved
loop-name-preserved c =
    one_more_member (put_all c.in-Some-members.members no_members) c.loop-name.members c.next.new.self c.loop-name.by_name.entries c.insert.new.self.entries c.in-Some-next.name c.in_ok-process.process
    c.loop-name.invariant (c.in-Some-next.ensures.value ∙ ap (λ d. (c.in-Some-next.name.now, d) ∷ c.next.new.self) (sym c.in_ok-process.ensures)) (where_ok c.insert.result _ (sym c.if-is_err.ensures.value) c.insert.ensures.entries)
