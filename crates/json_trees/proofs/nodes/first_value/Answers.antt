use Rattle.std.proofs.Common.{◌≤◌, ap, ◌∙◌, map, length, drop, take, get_or, sym, arith}
use Rattle.std.proofs.lemmas.List.{length-take-le}
use Rattle.json_trees.specs.Cells.{cell}
use Rattle.json_trees.specs.declared.node.Node.TheVariants as node
use Rattle.json_trees.proofs.Holding.{node_read, reach, first_value}
use Rattle.json_trees.proofs.nodes.first_value.Goals as goal

pub slice_bounds-result-end : goal.slice_bounds-result-end
slice_bounds-result-end c =
    let begins = c.requires.begins in
    let nodes = c.args.nodes.now in
    let r = reach begins.0 nodes (get_or nodes 0 node.Null) begins.1 begins.2 (node_read nodes 0 node.Null) begins.3 in
    let enough : c.span.result ≤ length nodes = omega (arith, r.0, r.1, c.span.ensures begins.0) in
    sym (length-take-le c.span.result nodes enough)

pub returns-clause-value : goal.returns-clause-value
returns-clause-value c = λ ts j more e.
    let nodes = c.args.nodes.now in
    let n = get_or nodes 0 node.Null in
    let r = reach ts nodes n j more (node_read nodes 0 node.Null) e in
    let enough : c.span.result ≤ length nodes = omega (arith, r.0, r.1, c.span.ensures ts) in
    let v = first_value ts nodes n j more (node_read nodes 0 node.Null) e in (
      ap (λ n. map (cell ts) (take n nodes)) (c.span.ensures ts) ∙ v.0,
      ap (λ n. map (cell ts) (drop n nodes)) (length-take-le c.span.result nodes enough ∙ c.span.ensures ts) ∙ v.1,
    )
