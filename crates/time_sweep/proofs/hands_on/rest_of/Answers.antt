use Rattle.std.proofs.Common.{◌∙◌, ℕ, ap, sym, get_or, arith, take_all}
use Rattle.stage_ops.specs.States.{seen_at, state_at}
use Rattle.time_sweep.specs.Forms.{later_beside, rest_of}
use Rattle.time_sweep.proofs.Resting.{rest_more}
use Rattle.time_sweep.proofs.hands_on.rest_of.Goals as goal

pub loop-place-preserved : goal.loop-place-preserved
loop-place-preserved c =
    let inputs = seen_at (state_at c.args.before.now) in
    let places = c.args.sources.now in
    let k = c.loop-place.place-index in
    c.later_beside-rest.ensures
    ∙ ap (λ (rest : ℕ). later_beside rest inputs c.args.feed (get_or places k 0)) c.loop-place.invariant
    ∙ sym (rest_more c.args.created inputs c.args.feed places k c.loop-place-test.true)

pub returns : goal.returns
returns c =
    c.loop-place.invariant ∙ ap (rest_of c.args.created (seen_at (state_at c.args.before.now)) c.args.feed) (take_all c.loop-place.place-index c.args.sources.now (omega arith))
