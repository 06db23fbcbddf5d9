use Rattle.std.proofs.Common.{◌∙◌, ◌++◌, ◌∷◌, [], ℕ, List, take, take_all, ap, sym}
use Rattle.std.specs.Prelude.{map}
use Rattle.std.proofs.lemmas.List.{map_more}
use Rattle.trace_groups.specs.GroupNames.{group_name}
use Rattle.trace_groups.proofs.group_names.group_names.Goals as goal

pub loop-span-preserved : goal.loop-span-preserved
loop-span-preserved c =
    let by = c.args.by in
    let spans = c.args.spans.now in
    let k = c.loop-span.span-index in
    let span = c.span-item.result in
    c.in_ok-push.ensures.items
    ∙ ap (λ (names : List (List ℕ)). names ++ c.in_ok-group_name.field-0 ∷ []) c.loop-span.invariant
    ∙ ap (λ (name : List ℕ). map (group_name by) (take k spans) ++ name ∷ []) (c.in_ok-group_name.ensures ∙ ap (group_name by) c.span-item.is)
    ∙ sym (map_more (group_name by) spans k span c.loop-span-test.true)

pub returns : goal.returns
returns c = c.loop-span.invariant ∙ ap (map (group_name c.args.by)) (take_all c.loop-span.span-index c.args.spans.now c.loop-span-test.false)
