use Rattle.std.proofs.Common.{subst}
use Rattle.stage_graph.specs.Plain.{PlainGraph}
use Rattle.version_store.specs.Drafts.{IsCountAfter}
use Rattle.version_store.proofs.evaluated.Evaluated.edited.Goals as goal

pub returns-in-Err-clause-refused : goal.returns-in-Err-clause-refused
returns-in-Err-clause-refused g c =
    subst (λ (graph : PlainGraph). IsCountAfter c.args.edits.now graph c.args.meter.now c.propagate.new.meter) c.self.view_is c.in-Err.ensures.refused
