use Rattle.std.proofs.Common.{rules, ◌≡◌, List, subst, ◌∙◌}
use Rattle.stage_graph.specs.declared.edit.Edit.{Edit}
use Rattle.stage_graph.specs.Plain.{PlainGraph}
use Rattle.version_store.specs.Drafts.{IsCountAfter}
use Rattle.version_store.proofs.Keeping.{keeps_edited}
use Rattle.version_store.proofs.version.Version.draft.Goals as goal

pub returns-in-Err-clause-refused : goal.returns-in-Err-clause-refused
returns-in-Err-clause-refused g c =
    subst (λ (graph : PlainGraph). IsCountAfter c.args.edits.now graph c.args.meter.now c.edited.new.meter) (c.deref.ensures ∙ c.evaluated.ensures)
    (subst (λ (edits : List Edit). IsCountAfter edits c.deref.result.now c.args.meter.now c.edited.new.meter) c.deref-2.ensures c.in-Err.ensures.refused)

pub new-requires-3-clause-others : goal.new-requires-3-clause-others
new-requires-3-clause-others g c κs within =
    let same_graph : c.new-origin.result.graph ≡ c.deref.result.now = search rules in
    let same_edits : c.new-origin.result.edits ≡ c.deref-2.result.now = search rules in
    let made : c.in_ok-graph.graph ≡ c.in-Ok.edited.graph = search rules in
    keeps_edited c.new-origin.result c.deref.result.now c.in-Ok.edited.graph c.in_ok-graph.graph c.deref-2.result.now c.in-Ok.edited.touched same_graph same_edits made
    c.in-Ok.ensures.touched c.in-Ok.ensures.untouched
