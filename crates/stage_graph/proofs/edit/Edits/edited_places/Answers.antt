use Rattle.std.proofs.Common.{◌≡◌, ◌∙◌, ◌+◌, ◌++◌, [], ◌∷◌, List, take, get_or, sym, ap}
use Rattle.std.proofs.lemmas.List.{take_more}
use Rattle.stage_graph.specs.declared.edit.Edit.{Edit}
use Rattle.stage_graph.specs.Kept.{edited_places}
use Rattle.stage_graph.proofs.Kept.{edited_more}
use Rattle.stage_graph.proofs.edit.Edits.edited_places.Goals as goal

pub loop-edit-preserved : goal.loop-edit-preserved
loop-edit-preserved g c =
    let old = c.args.old.now.places in
    let new = c.args.new.now.places in
    let edits = c.args.self.now in
    let all = c.as_slice-edit-items.ensures.edits in
    let i = c.loop-edit.edit-index in
    let edit = c.edit-item.result in
    let here : get_or edits i edit ≡ edit = ap (λ (edits : List Edit). get_or edits i edit) (sym all) ∙ sym c.edit-item.is in
    let longer : take (i + 1) edits ≡ take i edits ++ edit ∷ [] =
    take_more edits i edit (rw all at c.loop-edit-test.true) ∙ ap (λ (edit : Edit). take i edits ++ edit ∷ []) here in
    let so_far = ap (λ (edits : List Edit). edited_places edits old new) longer ∙ edited_more old new (take i edits) edit in
    cc (so_far, c.loop-edit.invariant, c.in_ok-push_named.ensures, c.name.ensures)
