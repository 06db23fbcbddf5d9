use Rattle.std.proofs.Common.{rules, ◌≡◌, ◌∙◌, true, false, cond, ap, None}
use Rattle.stage_graph.specs.declared.name_tree.Entry.{Entry}
use Rattle.stage_graph.specs.NameTrees.{decides, told_by}
use Rattle.stage_graph.proofs.Telling.{if_ok, part_on_one, part_on_zero, new_on_one, new_on_zero}
use Rattle.stage_graph.proofs.name_tree.+parted.Goals as goal

pub returns-then-new_side : goal.returns-then-new_side
returns-then-new_side t c =
    let new = c.args.new in
    let old = c.args.old.now in
    let left = c.args.left in
    let new_is : decides new.name left ≡ true = search rules in
    let old_is : decides old.name left ≡ true = search rules in
    if_ok c.forked.result (λ part made name.
    made left name
    ∙ ap (λ told. cond (decides name left) told None) (c.in_ok-part.ensures name)
    ∙ part_on_one new old left name new_is old_is) c.forked.ensures

pub returns-else-new_side : goal.returns-else-new_side
returns-else-new_side t c =
    let new = c.args.new in
    let old = c.args.old.now in
    let left = c.args.left in
    let new_is : decides new.name left ≡ false = search rules in
    let old_is : decides old.name left ≡ false = search rules in
    if_ok c.forked-else-new_side.result (λ part made name.
    made left name
    ∙ ap (λ told. cond (decides name left) None told) (c.in_ok-part.ensures name)
    ∙ part_on_zero new old left name new_is old_is) c.forked-else-new_side.ensures

pub returns-then-new_side-2 : goal.returns-then-new_side-2
returns-then-new_side-2 t c =
    let new = c.args.new in
    let old = c.args.old.now in
    let left = c.args.left in
    let new_is : decides new.name left ≡ true = search rules in
    let old_is : decides old.name left ≡ false = search rules in
    if_ok c.forked-then-new_side-2.result (λ part made name.
    made left name
    ∙ ap (λ (entry : Entry). cond (decides name left) (told_by new name None) (told_by entry name None)) c.in_ok-again-2.ensures
    ∙ new_on_one new old left name new_is old_is) c.forked-then-new_side-2.ensures

pub returns-else-new_side-2 : goal.returns-else-new_side-2
returns-else-new_side-2 t c =
    let new = c.args.new in
    let old = c.args.old.now in
    let left = c.args.left in
    let new_is : decides new.name left ≡ false = search rules in
    let old_is : decides old.name left ≡ true = search rules in
    if_ok c.forked-else-new_side-2.result (λ part made name.
    made left name
    ∙ ap (λ (entry : Entry). cond (decides name left) (told_by entry name None) (told_by new name None)) c.in_ok-again-2.ensures
    ∙ new_on_zero new old left name new_is old_is) c.forked-else-new_side-2.ensures
