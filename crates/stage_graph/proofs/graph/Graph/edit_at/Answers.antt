use Rattle.stage_graph.proofs.Kept.{kept_by_edit}
use Rattle.stage_graph.proofs.graph.Graph.edit_at.Goals as goal

pub returns-in-Ok-clause-kept : goal.returns-in-Ok-clause-kept
returns-in-Ok-clause-kept g c = kept_by_edit c.args.self.now c.len.ensures.sound c.in-Ok.graph c.args.edit.now c.in-Ok.ensures
