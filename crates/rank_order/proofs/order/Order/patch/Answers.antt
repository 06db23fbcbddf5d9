use Rattle.std.proofs.Common.{◌≡◌, ◌≤◌, ◌∙◌, sym, ap, length, arith}
use Rattle.stage_graph.specs.Kept.{IsChangeBy}
use Rattle.rank_order.specs.Orders.{PlainOrder}
use Rattle.rank_order.proofs.Listed.{order_long}
use Rattle.rank_order.proofs.Moving.{feeds_elsewhere, all_within, old_right, old_small, patch_fault}
use Rattle.rank_order.proofs.order.Order.patch.Goals as goal

pub patched_dependents-requires-clause-elsewhere : goal.patched_dependents-requires-clause-elsewhere
patched_dependents-requires-clause-elsewhere g c κs inside =
    let old_is : c.deref-old.result.now ≡ c.args.self.now.graph = c.deref-old.ensures ∙ ap (λ (order : PlainOrder). order.graph) c.self.view_is in
    let change : IsChangeBy c.as_slice.result.now c.deref-old.result.now c.deref-new.result.now = rw (c.as_slice.ensures.edits, old_is, c.deref-new.ensures) c.requires in
    rw (c.deref.ensures.value, c.in_ok-moved.ensures) (feeds_elsewhere c.as_slice.result.now c.deref-old.result.now c.deref-new.result.now c.len.ensures.sound c.len-count.ensures.sound change)

pub grown-requires-clause-shorter : goal.grown-requires-clause-shorter
grown-requires-clause-shorter g c =
    let old_is : c.deref-old.result.now ≡ c.args.self.now.graph = c.deref-old.ensures ∙ ap (λ (order : PlainOrder). order.graph) c.self.view_is in
    let longer : length c.deref-old.result.now.places ≤ length c.deref-new.result.now.places = rw (old_is, c.deref-new.ensures) c.requires.longer in
    let long : length (g.R.Ranks.Keeps.items c.self.inside.ranks) ≡ length c.deref-old.result.now.places = rw c.deref-old.ensures (order_long _ c.self.invariant) in
    omega arith

pub patched_ranks-requires-clause-small : goal.patched_ranks-requires-clause-small
patched_ranks-requires-clause-small g c κs inside place =
    let old_is : c.deref-old.result.now ≡ c.args.self.now.graph = c.deref-old.ensures ∙ ap (λ (order : PlainOrder). order.graph) c.self.view_is in
    let longer : length c.deref-old.result.now.places ≤ length c.deref-new.result.now.places = rw (old_is, c.deref-new.ensures) c.requires.longer in
    old_small c.deref-old.result.now _ c.self.invariant (sym c.deref-old.ensures) (g.R.Ranks.Keeps.items c.in_ok-before.before) c.in_ok-before.ensures.each (length c.deref-new.result.now.places) longer place

pub patched_ranks-requires-clause-right : goal.patched_ranks-requires-clause-right
patched_ranks-requires-clause-right g c κs inside =
    let old_is : c.deref-old.result.now ≡ c.args.self.now.graph = c.deref-old.ensures ∙ ap (λ (order : PlainOrder). order.graph) c.self.view_is in
    let change : IsChangeBy c.as_slice.result.now c.deref-old.result.now c.deref-new.result.now = rw (c.as_slice.ensures.edits, old_is, c.deref-new.ensures) c.requires in
    let elsewhere = feeds_elsewhere c.as_slice.result.now c.deref-old.result.now c.deref-new.result.now c.len.ensures.sound c.len-count.ensures.sound change in
    rw (c.deref-2.ensures.value, c.in_ok-moved.ensures)
    (old_right c.deref-old.result.now _ c.self.invariant (sym c.deref-old.ensures) (g.R.Ranks.Keeps.items c.in_ok-before.before) c.in_ok-before.ensures.each c.deref-new.result.now.places _ elsewhere)

pub patched_ranks-requires-clause-moved : goal.patched_ranks-requires-clause-moved
patched_ranks-requires-clause-moved g c κs inside =
    let old_is : c.deref-old.result.now ≡ c.args.self.now.graph = c.deref-old.ensures ∙ ap (λ (order : PlainOrder). order.graph) c.self.view_is in
    let longer : length c.deref-old.result.now.places ≤ length c.deref-new.result.now.places = rw (old_is, c.deref-new.ensures) c.requires.longer in
    rw (c.deref-2.ensures.value, c.in_ok-moved.ensures) (all_within c.deref-old.result.now.places c.deref-new.result.now.places longer c.as_slice.result.now)

-- a cycle that the code returns begins at a stage that the list adds or rewires
pub returns-in-Err-clause-fault : goal.returns-in-Err-clause-fault
returns-in-Err-clause-fault g c =
    let among = rw (c.deref-2.ensures.value, c.in_ok-moved.ensures) at c.in-Err.ensures.fault in
    rw (← c.as_slice.ensures.edits, ← c.deref-new.ensures) (patch_fault c.as_slice.result.now c.deref-old.result.now.places c.deref-new.result.now.places c.in-Err.fault among)
