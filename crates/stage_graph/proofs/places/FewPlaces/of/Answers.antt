use Rattle.std.proofs.Common.{◌≡◌, ◌++◌, ◌∷◌, [], ◌∙◌, length, get_or, ap, sym, arith}
use Rattle.std.proofs.lemmas.List.{length-take-le, take_more, take_all}
use Rattle.stage_graph.proofs.places.FewPlaces.of.Goals as goal

pub push-requires : goal.push-requires
push-requires c =
    let inside = c.loop-place-test.true in
    let short = c.requires in
    let made : length c.loop-place.few ≡ c.loop-place.place-index = ap length c.loop-place.invariant ∙ length-take-le c.loop-place.place-index c.args.places.now (omega (arith, inside)) in
    omega (arith, made, inside, short)

pub loop-place-preserved : goal.loop-place-preserved
loop-place-preserved c =
    let places = c.args.places.now in
    let index = c.loop-place.place-index in
    c.push.ensures ∙ ap (λ made. made ++ get_or places index 0 ∷ []) c.loop-place.invariant ∙ sym (take_more places index 0 c.loop-place-test.true)

pub returns : goal.returns
returns c = c.loop-place.invariant ∙ take_all c.loop-place.place-index c.args.places.now c.loop-place-test.false
