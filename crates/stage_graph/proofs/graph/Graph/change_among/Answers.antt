use Rattle.std.proofs.Common.{◌≡◌, ◌∙◌, ◌+◌, ◌++◌, [], ◌∷◌, ℕ, List, Result, Ok, Err, drop, take, get_or, sym, ap, subst}
use Rattle.std.proofs.lemmas.List.{take_more, drop_more}
use Rattle.stage_graph.specs.declared.edit.Edit.{Edit}
use Rattle.stage_graph.specs.declared.fault.Refusal.{Refusal}
use Rattle.stage_graph.specs.Plain.{PlainGraph}
use Rattle.stage_graph.specs.Edits.{edited}
use Rattle.stage_graph.specs.Changes.{then_on, changed_from}
use Rattle.stage_graph.specs.Kept.{IsChangeBy}
use Rattle.stage_graph.proofs.Kept.{kept_on}
use Rattle.stage_graph.proofs.graph.Graph.change_among.Goals as goal

then_ok : (index : ℕ) (answer : Result PlainGraph Refusal) (graph : PlainGraph) → then_on index answer Ok ≡ Ok graph → answer ≡ Ok graph
then_ok index (Ok made) graph is = let same : made ≡ graph = cc in ap Ok same
then_ok index (Err refusal) graph is = cc

pub loop-at-preserved : goal.loop-at-preserved
loop-at-preserved g c =
    let edits = c.as_slice-edits.result.now in
    let at = c.loop-at.at in
    let graph = c.loop-at.graph in
    let edit = c.index-edits-at.result in
    let here : get_or edits at edit ≡ edit = sym c.index-edits-at.is in
    let split : drop at edits ≡ edit ∷ drop (at + 1) edits = drop_more edits at edit c.loop-at-test.true ∙ ap (λ (edit : Edit). edit ∷ drop (at + 1) edits) here in
    let longer : take (at + 1) edits ≡ take at edits ++ edit ∷ [] = take_more edits at edit c.loop-at-test.true ∙ ap (λ (edit : Edit). take at edits ++ edit ∷ []) here in
    let made : edited edit graph ≡ Ok c.in-Ok-edit_at.graph = then_ok at (edited edit graph) c.in-Ok-edit_at.graph c.in-Ok-edit_at.ensures.changed in
    record {
      left = c.loop-at.invariant.left ∙ ap (λ (edits : List Edit). changed_from at edits graph) split
          ∙ ap (λ (answer : Result PlainGraph Refusal). then_on at answer (changed_from (at + 1) (drop (at + 1) edits))) made;
      kept = subst (λ (edits : List Edit). IsChangeBy edits c.args.self.now c.in-Ok-edit_at.graph) (sym longer)
          (kept_on (take at edits) (edit ∷ []) c.args.self.now graph c.in-Ok-edit_at.graph c.loop-at.invariant.kept c.in-Ok-edit_at.ensures.kept);
    }
