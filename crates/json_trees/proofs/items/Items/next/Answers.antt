use Rattle.std.proofs.Common.{◌≡◌, suc, ◌+◌, length, drop, sym, ap, ◌∙◌, arith}
use Rattle.serde_json.specs.Data.{item}
use Rattle.serde_json.specs.Events.{items_len}
use Rattle.json_trees.specs.Cells.{items_at}
use Rattle.json_trees.proofs.Holding.{item_begins, item_taken}
use Rattle.json_trees.proofs.items.Items.next.Goals as goal

pub first_value-value-requires : goal.first_value-value-requires
first_value-value-requires c =
    let texts = c.self.inside.texts.now in
    let b = item_begins texts c.self.inside.nodes.now c.self.inside.at c.self.invariant c.if-at-nodes.false in
    record { begins = (texts, b.0, b.1, b.2) }

pub of_nodes-requires : goal.of_nodes-requires
of_nodes-requires c =
    (item_taken c.self.inside.texts.now c.self.inside.nodes.now c.first_value-value.result.now c.self.inside.at c.self.invariant c.if-at-nodes.false (c.first_value-value.ensures.value c.self.inside.texts.now)).holds_value

pub invariant_of-self : goal.invariant_of-self
invariant_of-self c =
    (item_taken c.self.inside.texts.now c.self.inside.nodes.now c.first_value-value.result.now c.self.inside.at c.self.invariant c.if-at-nodes.false (c.first_value-value.ensures.value c.self.inside.texts.now)).holds_others

pub returns-clause-value : goal.returns-clause-value
returns-clause-value c =
    let texts = c.self.inside.texts.now in
    let nodes = c.self.inside.nodes.now in
    let value = c.first_value-value.result.now in
    sym c.self.view_is ∙ (item_taken texts nodes value c.self.inside.at c.self.invariant c.if-at-nodes.false (c.first_value-value.ensures.value c.self.inside.texts.now)).is
    ∙ ap (λ d. item d (items_at texts (drop (c.self.inside.at + length value) nodes))) (sym c.of_nodes.ensures)

pub returns-clause-shorter : goal.returns-clause-shorter
returns-clause-shorter c =
    let rest = items_at c.self.inside.texts.now (drop (c.self.inside.at + length c.first_value-value.result.now) c.self.inside.nodes.now) in
    let one_more : items_len c.args.self.now ≡ suc (items_len rest) = ap items_len (returns-clause-value c) in
    omega (arith, one_more)
