use Rattle.std.proofs.Common.{◌≡◌, length, arith}
use Rattle.propagate.proofs.Answered.{all_told}
use Rattle.propagate.proofs.states.States.from_answers.Goals as goal

-- each place has an answer
pub returns : goal.returns
returns g c = λ step are.
    let stages = c.args.graph.now.places in
    let size : length c.loop-place.states ≡ length stages = omega (arith, c.loop-place.invariant.count, c.len-place-end.ensures.len, c.len-place-end.ensures.sound.few) in
    all_told step stages c.args.answers.now c.loop-place.states are size c.loop-place.invariant.told
