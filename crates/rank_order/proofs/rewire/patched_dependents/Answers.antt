use Rattle.std.proofs.Common.{◌≡◌, ◌∙◌, ◌+◌, [], length, take, get_or, sym, ap, arith}
use Rattle.rank_order.specs.DependentLists.{uses_between, with_moved}
use Rattle.rank_order.proofs.Listed.{among_within}
use Rattle.rank_order.proofs.DependentSteps.{same_lists, lists_from_dependents}
use Rattle.rank_order.proofs.DependentMoves.{grown_lists, between_more, between_feeds, between_all}
use Rattle.stage_graph.specs.Plain.{feeds_at}
use Rattle.rank_order.proofs.rewire.patched_dependents.Goals as goal

pub grown-requires-clause-shorter : goal.grown-requires-clause-shorter
grown-requires-clause-shorter g c =
    omega (arith, (lists_from_dependents c.args.old.now.places (g.K.Keeps.items c.args.kept.now) c.requires.dependents).long, c.requires.longer, c.len-2.ensures.len)

pub loop-place-init : goal.loop-place-init
loop-place-init g c =
    let none : c.in_ok-none.none ≡ [] = c.in_ok-none.ensures ∙ c.from_vec.ensures ∙ c.new.ensures.items in
    grown_lists c.args.old.now.places c.args.changed.now.places (g.K.Keeps.items c.args.kept.now) (g.K.Keeps.items c.in_ok-lists.lists) (among_within c.args.old.now c.len.ensures.sound)
    c.requires.longer c.requires.dependents (c.in_ok-lists.ensures.long ∙ c.len-2.ensures.len)
    (λ place. ap (get_or (g.K.Keeps.items c.in_ok-lists.lists) place) (sym none) ∙ c.in_ok-lists.ensures.each place ∙ ap (get_or (g.K.Keeps.items c.args.kept.now) place) none)

pub loop-place-preserved : goal.loop-place-preserved
loop-place-preserved g c =
    let old = c.args.old.now.places in
    let new = c.args.changed.now.places in
    let moved = c.args.moved.now in
    let i = c.loop-place.place-index in
    let place = get_or moved i 0 in
    same_lists (with_moved (uses_between old new (take i moved)) place (feeds_at new place)) (uses_between old new (take (i + 1) moved)) (length new) (g.K.Keeps.items c.move_dependent.new.lists)
    (between_more old new moved i c.loop-place-test.true)
    (c.in_ok-move_dependent.ensures.its_dependents (uses_between old new (take i moved)) (λ feed used. between_feeds old new (take i moved) place feed used) c.loop-place.invariant)

pub returns : goal.returns
returns g c =
    between_all c.args.old.now.places c.args.changed.now.places c.args.moved.now c.loop-place.place-index (g.K.Keeps.items c.loop-place.lists) c.loop-place-test.false c.requires.elsewhere c.loop-place.invariant
