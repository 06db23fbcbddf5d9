use Rattle.std.proofs.Common.{rules, ◌≡◌, ◌∙◌, ◌-◌, ℕ, List, true, false, cond, ap}
use Rattle.stage_graph.specs.NameTrees.{decides, told_by, told_below}
use Rattle.stage_graph.proofs.Telling.{if_ok, told_on_one, told_on_zero}
use Rattle.stage_graph.proofs.name_tree.Part.+with.Goals as goal

pub returns-in_ok-again-in-Fork : goal.returns-in_ok-again-in-Fork
returns-in_ok-again-in-Fork t c =
    let entry = c.args.entry in
    let left = c.args.left in
    let zero = c.in-Fork.sides.value.zero in
    let one = c.in-Fork.sides.value.one in
    let leads : decides entry.name left ≡ true = search rules in
    let on_one : (name : List ℕ) → told_below (left - 1) c.in_ok-one-in-Fork.one name ≡ told_by entry name (told_below (left - 1) one name) = search rules in
    let on_zero : (name : List ℕ) → told_below (left - 1) c.in_ok-again-in-Fork.field-0 name ≡ told_below (left - 1) zero name = search rules in
    if_ok c.forked.result (λ part made name.
    made left name
    ∙ ap (λ told. cond (decides name left) told (told_below (left - 1) c.in_ok-again-in-Fork.field-0 name)) (on_one name)
    ∙ ap (λ told. cond (decides name left) (told_by entry name (told_below (left - 1) one name)) told) (on_zero name)
    ∙ told_on_one entry left name (told_below (left - 1) one name) (told_below (left - 1) zero name) leads
    ∙ search rules) c.forked.ensures

pub returns-in_ok-again-in-Fork-2 : goal.returns-in_ok-again-in-Fork-2
returns-in_ok-again-in-Fork-2 t c =
    let entry = c.args.entry in
    let left = c.args.left in
    let zero = c.in-Fork.sides.value.zero in
    let one = c.in-Fork.sides.value.one in
    let leads : decides entry.name left ≡ false = search rules in
    let on_zero : (name : List ℕ) → told_below (left - 1) c.in_ok-zero-in-Fork.zero name ≡ told_by entry name (told_below (left - 1) zero name) = search rules in
    let on_one : (name : List ℕ) → told_below (left - 1) c.in_ok-again-in-Fork-2.field-0 name ≡ told_below (left - 1) one name = search rules in
    if_ok c.forked-else-decides.result (λ part made name.
    made left name
    ∙ ap (λ told. cond (decides name left) (told_below (left - 1) c.in_ok-again-in-Fork-2.field-0 name) told) (on_zero name)
    ∙ ap (λ told. cond (decides name left) told (told_by entry name (told_below (left - 1) zero name))) (on_one name)
    ∙ told_on_zero entry left name (told_below (left - 1) zero name) (told_below (left - 1) one name) leads
    ∙ search rules) c.forked-else-decides.ensures
