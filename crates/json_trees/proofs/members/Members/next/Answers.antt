use Rattle.std.proofs.Common.{◌≡◌, suc, ◌+◌, ◌∷◌, length, drop, sym, ap, ◌∙◌, option_map, get_or, arith}
use Rattle.json_trees.specs.Cells.{members_at}
use Rattle.json_trees.specs.declared.node.Node.TheVariants as node
use Rattle.json_trees.proofs.Holding.{node_read, member_there, member_begins, member_at, no_key}
use Rattle.json_trees.proofs.members.Members.next.Goals as goal

pub unreachable-requires : goal.unreachable-requires
unreachable-requires c =
    no_key c.self.inside.texts.now c.self.inside.nodes.now c.self.inside.at (get_or c.self.inside.nodes.now c.self.inside.at node.Null) c.self.invariant c.if-at-nodes.false (node_read c.self.inside.nodes.now c.self.inside.at node.Null)
    (sym c.as_key.ensures ∙ ap (option_map (λ t. t.now)) c.in_default.is)

pub first_value-value-requires : goal.first_value-value-requires
first_value-value-requires c =
    let nodes = c.self.inside.nodes.now in
    let at = c.self.inside.at in
    let texts = c.self.inside.texts.now in
    let n = get_or nodes at node.Null in
    let b = member_begins texts nodes at n (member_there texts nodes at n c.self.invariant c.if-at-nodes.false (node_read nodes at node.Null)) in
    record { begins = (texts, b.0, b.1, b.2) }

pub of_nodes-requires : goal.of_nodes-requires
of_nodes-requires c =
    (member_at c.self.inside.texts.now c.self.inside.nodes.now c.first_value-value.result.now c.self.inside.at (get_or c.self.inside.nodes.now c.self.inside.at node.Null) c.in-Some.name.now c.self.invariant c.if-at-nodes.false (node_read c.self.inside.nodes.now c.self.inside.at node.Null)
    (sym (ap (option_map (λ t. t.now)) c.in-Some.is) ∙ c.as_key.ensures) (c.first_value-value.ensures.value c.self.inside.texts.now)).holds_value

pub invariant_of-self : goal.invariant_of-self
invariant_of-self c =
    (member_at c.self.inside.texts.now c.self.inside.nodes.now c.first_value-value.result.now c.self.inside.at (get_or c.self.inside.nodes.now c.self.inside.at node.Null) c.in-Some.name.now c.self.invariant c.if-at-nodes.false (node_read c.self.inside.nodes.now c.self.inside.at node.Null)
    (sym (ap (option_map (λ t. t.now)) c.in-Some.is) ∙ c.as_key.ensures) (c.first_value-value.ensures.value c.self.inside.texts.now)).holds_others

pub returns-clause-value : goal.returns-clause-value
returns-clause-value c =
    let rest = members_at c.self.inside.texts.now (drop (c.self.inside.at + 1 + length c.first_value-value.result.now) c.self.inside.nodes.now) in
    sym c.self.view_is
    ∙ (member_at c.self.inside.texts.now c.self.inside.nodes.now c.first_value-value.result.now c.self.inside.at (get_or c.self.inside.nodes.now c.self.inside.at node.Null) c.in-Some.name.now c.self.invariant c.if-at-nodes.false (node_read c.self.inside.nodes.now c.self.inside.at node.Null)
    (sym (ap (option_map (λ t. t.now)) c.in-Some.is) ∙ c.as_key.ensures) (c.first_value-value.ensures.value c.self.inside.texts.now)).is
    ∙ ap (λ d. (c.in-Some.name.now, d) ∷ rest) (sym c.of_nodes.ensures)

pub returns-clause-shorter : goal.returns-clause-shorter
returns-clause-shorter c =
    let rest = members_at c.self.inside.texts.now (drop (c.self.inside.at + 1 + length c.first_value-value.result.now) c.self.inside.nodes.now) in
    let one_more : length c.args.self.now ≡ suc (length rest) = ap length (returns-clause-value c) in
    omega (arith, one_more)
