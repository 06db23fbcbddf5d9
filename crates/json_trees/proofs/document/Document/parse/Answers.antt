use Rattle.std.proofs.Common.{◌≡◌, [], Some, sym, ap, ◌∙◌, arith}
use Rattle.json.specs.Json as json
use Rattle.json.specs.Lex.{tokens}
use Rattle.serde_json.specs.Data.{Data}
use Rattle.json_trees.proofs.Holding.{data_at_is, data_is}
use Rattle.json_trees.proofs.Building.{read_cells}
use Rattle.json_trees.proofs.Reading.{whole}
use Rattle.json_trees.proofs.document.Document.parse.Goals as goal

pub invariant_of-result : goal.invariant_of-result
invariant_of-result c =
    let made = c.in-Ok-add_value.ensures.ok in
    let kept = c.into_lists-nodes.ensures in
    (made.0, read_cells c.for_text-nodes.result c.add_value.new.nodes c.into_lists-nodes.result.1.items c.into_lists-nodes.result.0.items made.0 c.for_text-nodes.ensures made.3 kept.nodes kept.texts made.2)

pub returns-clause-ok : goal.returns-clause-ok
returns-clause-ok c =
    let made = c.in-Ok-add_value.ensures.ok in
    let kept = c.into_lists-nodes.ensures in
    let texts = c.into_lists-nodes.result.1.items in
    let list = c.into_lists-nodes.result.0.items in
    let j = made.0 in
    let over : c.add_value.new.reader ≡ [] = grind arith in
    let is : json.value 127 (tokens c.args.text.now) ≡ Some (j, []) = ap (json.value 127) (sym c.in-Ok.ensures.ok) ∙ made.1 ∙ ap (λ ts. Some (j, ts)) over in
    let held = read_cells c.for_text-nodes.result c.add_value.new.nodes texts list j c.for_text-nodes.ensures made.3 kept.nodes kept.texts made.2 in
    ap whole is ∙ data_is j made.2 ∙ ap (λ (d : Data). Some d) (sym (data_at_is texts list j held))
