use Rattle.std.proofs.Common.{◌≤◌, ◌<◌, length, arith}
use Rattle.step_words.proofs.Parts.{names_ended, names_more}
use Rattle.step_words.proofs.names.names_like.Goals as goal

pub loop-place-preserved : goal.loop-place-preserved
loop-place-preserved g c =
    let few = c.len-place-end.ensures.sound.few in
    let low : c.loop-place.place < length c.args.graph.now.places = omega (arith, c.len-place-end.ensures.len, c.loop-place-test.true, c.loop-place.auto.place-end) in
    names_more c.args.like c.args.text.now c.args.graph.now.places c.loop-place.place c.loop-place.names c.push_like.new.names low c.loop-place.invariant c.in_ok-push_like.ensures

pub returns : goal.returns
returns g c =
    let few = c.len-place-end.ensures.sound.few in
    let done : length c.args.graph.now.places ≤ c.loop-place.place = omega (arith, c.len-place-end.ensures.len, c.loop-place-test.false, c.loop-place.auto.place-end) in
    names_ended c.args.like c.args.text.now c.args.graph.now.places c.loop-place.place c.loop-place.names done c.loop-place.invariant
