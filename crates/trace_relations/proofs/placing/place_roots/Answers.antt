use Rattle.std.proofs.Common.{◌≡◌, ◌<◌, ◌∙◌, ap, get_or, heap_items, length, arith, refl, subst}
use Rattle.std.proofs.lemmas.List.{length-map}
use Rattle.trace_relations.specs.Clocks.{clock_of}
use Rattle.trace_relations.specs.KeptMoves.{HasRoots, IsRootPlaced, numbers_at}
use Rattle.trace_relations.proofs.Rooting.{clock_rooted, no_roots, one_rooted}
use Rattle.trace_relations.proofs.placing.place_roots.Goals as goal

pub loop-place-init : goal.loop-place-init
loop-place-init c = λ spans pairs references are has moves coming. no_roots spans pairs _ _ moves coming

pub loop-place-preserved : goal.loop-place-preserved
loop-place-preserved c = λ spans pairs references are has moves coming.
    let within : c.loop-place.place < length c.args.clocks.now = omega arith in
    one_rooted spans pairs c.args.clocks.now c.args.by_clock.now c.loop-place.place (get_or c.args.clocks.now c.loop-place.place 0) c.loop-place.moves.items (heap_items c.loop-place.coming) c.place_root.new.moves.items (heap_items c.place_root.new.coming)
    (clock_rooted spans c.args.clocks.now c.loop-place.place (get_or c.args.clocks.now c.loop-place.place 0) are within refl) has (c.loop-place.invariant spans pairs references are has moves coming)
    (subst (λ those. IsRootPlaced those c.loop-place.place (get_or c.args.clocks.now c.loop-place.place 0) (numbers_at c.args.by_clock.now (get_or c.args.clocks.now c.loop-place.place 0)) c.loop-place.moves.items (heap_items c.loop-place.coming) c.place_root.new.moves.items (heap_items c.place_root.new.coming)) references c.in_ok-place_root.ensures)

pub returns : goal.returns
returns c = λ spans pairs references are has moves coming.
    let long : length c.args.clocks.now ≡ length spans = ap length are ∙ length-map spans (clock_of spans) in
    let all : c.loop-place.place ≡ length spans = omega arith in
    subst (λ n. HasRoots spans pairs n c.loop-place.moves.items (heap_items c.loop-place.coming)) all (c.loop-place.invariant spans pairs references are has moves coming)
