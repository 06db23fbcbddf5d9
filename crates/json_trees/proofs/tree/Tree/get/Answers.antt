use Rattle.std.proofs.Common.{true, false, ap, ◌∙◌, sym}
use Rattle.json_trees.specs.Named.{last_named}
use Rattle.json_trees.proofs.Put.{get_last, one_more}
use Rattle.json_trees.proofs.tree.Tree.get.Goals as goal

pub members-init : goal.members-init
members-init c = get_last c.args.name.now c.args.self.now c.in_ok-members.members c.in_ok-members.ensures

pub members-smaller-then-eq : goal.members-smaller-then-eq
members-smaller-then-eq c = c.in-Some.ensures.shorter

pub members-preserved-then-eq : goal.members-preserved-then-eq
members-preserved-then-eq c =
    one_more c.args.name.now c.in-Some.own.now c.in-Some.tree c.members.found c.members.members c.next.new.self true c.in-Some.ensures.value (sym c.eq.ensures ∙ c.if-eq.true)
    ∙ c.members.invariant

pub members-smaller : goal.members-smaller
members-smaller c = c.in-Some.ensures.shorter

pub members-preserved : goal.members-preserved
members-preserved c =
    one_more c.args.name.now c.in-Some.own.now c.in-Some.tree c.members.found c.members.members c.next.new.self false c.in-Some.ensures.value (sym c.eq.ensures ∙ c.if-eq.false)
    ∙ c.members.invariant

pub returns : goal.returns
returns c = ap (last_named c.args.name.now c.members.found) (sym c.in_default.ensures.value.0) ∙ c.members.invariant
