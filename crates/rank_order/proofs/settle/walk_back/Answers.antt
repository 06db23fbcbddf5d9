use Rattle.std.proofs.Common.{◌≡◌, ◌∙◌, ◌++◌, ◌∷◌, [], true, false, sym, ap, slice_index}
use Rattle.rank_order.specs.Lists.{is_among}
use Rattle.rank_order.proofs.WalkBack.{walk_begins, walk_more, walk_stops}
use Rattle.rank_order.proofs.settle.walk_back.Goals as goal

pub loop-place-init : goal.loop-place-init
loop-place-init g c =
    walk_begins c.args.graph.now.places (slice_index (g.K.Keeps.items c.args.before.now)) (slice_index (g.K.Keeps.items c.args.ranks.now)) c.args.first c.args.from c.push-2.new.self.items
    (c.in_ok-push-2.ensures.items ∙ ap (λ xs. xs ++ c.args.from ∷ []) (c.in_ok-push.ensures.items ∙ ap (λ xs. xs ++ c.args.first ∷ []) c.new-path.ensures.items)) c.requires.feed c.requires.changed

pub changed_feed-place-requires-after_bounds : goal.changed_feed-place-requires-after_bounds
changed_feed-place-requires-after_bounds g c κs inside =
    let other : is_among c.loop-place.place c.args.moved.now ≡ false = sym c.is_among.ensures ∙ c.loop-place-test.true in
    let trace = c.requires.traced c.loop-place.place c.loop-place.invariant.changed other in
    (trace.feed, trace.is_feed, trace.changed)

pub loop-place-smaller : goal.loop-place-smaller
loop-place-smaller g c =
    let other : is_among c.loop-place.place c.args.moved.now ≡ false = sym c.is_among.ensures ∙ c.loop-place-test.true in
    (c.requires.traced c.loop-place.place c.loop-place.invariant.changed other).lower c.changed_feed-place.result c.changed_feed-place.ensures.feed

pub loop-place-preserved : goal.loop-place-preserved
loop-place-preserved g c =
    walk_more c.args.graph.now.places (slice_index (g.K.Keeps.items c.args.before.now)) (slice_index (g.K.Keeps.items c.args.ranks.now)) c.args.first c.loop-place.place c.loop-place.path.items c.loop-place.invariant
    c.changed_feed-place.result c.push-in-loop-place.new.self.items c.in_ok-push-3.ensures.items c.changed_feed-place.ensures.feed c.changed_feed-place.ensures.changed

pub returns : goal.returns
returns g c out stays =
    let ends : is_among c.loop-place.place c.args.moved.now ≡ true = sym c.is_among.ensures ∙ c.loop-place-test.false in
    rw c.from_vec.ensures (walk_stops c.args.graph.now.places (slice_index (g.K.Keeps.items c.args.before.now)) (slice_index (g.K.Keeps.items c.args.ranks.now)) c.args.first c.loop-place.place c.loop-place.path.items c.loop-place.invariant
    out c.args.moved.now c.requires.first stays ends)
