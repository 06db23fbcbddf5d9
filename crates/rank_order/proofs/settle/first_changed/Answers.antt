use Rattle.std.proofs.Common.{◌≡◌, sym, ◌∙◌, take, take_all, slice_index}
use Rattle.std.proofs.lemmas.List.Elements.{All-more, All-same}
use Rattle.rank_order.proofs.settle.first_changed.Goals as goal

pub loop-place-preserved : goal.loop-place-preserved
loop-place-preserved g c =
    All-more (λ place. slice_index (g.K.Keeps.items c.args.ranks.now) place ≡ slice_index (g.K.Keeps.items c.args.before.now) place)
    c.args.places.now c.loop-place.place-index 0 c.loop-place-test.true c.loop-place.invariant (sym c.rank_at-rank.ensures ∙ c.if-rank-was.false ∙ c.rank_at-was.ensures)

pub returns-clause-none : goal.returns-clause-none
returns-clause-none g c =
    All-same (λ place. slice_index (g.K.Keeps.items c.args.ranks.now) place ≡ slice_index (g.K.Keeps.items c.args.before.now) place)
    c.args.places.now (take c.loop-place.place-index c.args.places.now) (sym (take_all c.loop-place.place-index c.args.places.now c.loop-place-test.false)) c.loop-place.invariant
