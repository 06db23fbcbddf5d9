use Rattle.std.proofs.Common.{◌≡◌, ◌+◌, ◌++◌, ◌∷◌, [], ap, sym, ◌∙◌, arith, take, get_or, Some, true, false, subst}
use Rattle.std.specs.Prelude.{All, Contains, is_some}
use Rattle.std.proofs.lemmas.List.{take_more, take_all}
use Rattle.stage_graph.specs.Plain.{stage_at, feeds_of_place, feeds_of}
use Rattle.stage_graph.specs.Order.{IsFeedsFirst}
use Rattle.stage_ops.specs.States.{seen_at, state_at}
use Rattle.scratch_eval.specs.Answers.{AreSoFar, states_of}
use Rattle.stage_ops.proofs.AmongLemmas.{sound_among}
use Rattle.scratch_eval.proofs.Evaluating.{early_states, so_far_more, whole}
use Rattle.scratch_eval.proofs.Querying.{told_one_duration}
use Rattle.scratch_eval.proofs.scratch.evaluate.Goals as goal
use Rattle.scratch_eval.proofs.scratch.evaluate.Goals.{in-Some, in_default}

pub answer_stage-answer-requires-clause-moments : goal.answer_stage-answer-requires-clause-moments
answer_stage-answer-requires-clause-moments g c =
    let step = g.O.StageOps.step c.args.ops.now c.args.graph.now.mode in
    let order = c.as_slice-place-items.result.now in
    early_states step c.args.graph.now.places order (rw c.as_slice-place-items.ensures c.in_ok-order.ensures) c.len.ensures.sound.few c.loop-place.place-index c.loop-place.answers c.loop-place.invariant.so_far

pub loop-place-preserved : goal.loop-place-preserved
loop-place-preserved g c =
    let mode = c.args.graph.now.mode in
    let step = g.O.StageOps.step c.args.ops.now mode in
    let places = c.args.graph.now.places in
    let order = c.as_slice-place-items.result.now in
    let k = c.loop-place.place-index in
    let place = get_or order k 0 in
    let first : IsFeedsFirst places order = rw c.as_slice-place-items.ensures c.in_ok-order.ensures in
    let more : take (k + 1) order ≡ take k order ++ place ∷ [] = take_more order k 0 c.loop-place-test.true in
    elim c.match-stage.branch [
      | in-Some w ↦
          let stage = w.in-Some.stage.now in
          let here : stage_at places place ≡ Some stage = sym w.in-Some.ensures.stage in
          let done : All (Contains (take k order)) (feeds_of stage) = subst (λ here. All (Contains (take k order)) (feeds_of_place here)) here (first.feeds k c.loop-place-test.true) in
          let state : w.answer_stage-answer.result.state ≡ step stage (seen_at (state_at (states_of c.loop-place.answers))) =
          rw (← w.mode.ensures) w.answer_stage-answer.ensures.state in
          record {
            so_far = rw (more, w.answers-is, w.set.ensures)
                (so_far_more step (g.met.O.StageOps.reads_decide c.args.ops.now mode) places c.requires.ranked (take k order) c.loop-place.answers c.loop-place.invariant.so_far place stage here done
                w.answer_stage-answer.result (sound_among places place stage w.in-Some.ensures.sound) (g.met.O.StageOps.soon c.args.ops.now mode) state w.answer_stage-answer.ensures.rank);
            counted = omega (arith, w.meter-is, w.answer_stage-answer.ensures.counted, c.loop-place.invariant.counted);
          }
      | in_default w ↦
          let live : is_some (stage_at places place) ≡ true = first.live k 0 c.loop-place-test.true in
          let none : false ≡ is_some (stage_at places place) = ap (λ here. is_some here) w.in_default.ensures.stage in
          let clash : false ≡ true = none ∙ live in
          cc
    ]

pub returns-clause-one_duration : goal.returns-clause-one_duration
returns-clause-one_duration g c =
    let mode = c.args.graph.now.mode in
    let step = g.O.StageOps.step c.args.ops.now mode in
    let places = c.args.graph.now.places in
    let order = c.as_slice-place-items.result.now in
    let first : IsFeedsFirst places order = rw c.as_slice-place-items.ensures c.in_ok-order.ensures in
    let all : take c.loop-place.place-index order ≡ order = take_all c.loop-place.place-index order c.loop-place-test.false in
    told_one_duration step places c.loop-place.answers
    (whole step places order first c.loop-place.answers (subst (λ done. AreSoFar step places done c.loop-place.answers) all c.loop-place.invariant.so_far)) mode

pub returns-clause-answers : goal.returns-clause-answers
returns-clause-answers g c =
    let step = g.O.StageOps.step c.args.ops.now c.args.graph.now.mode in
    let places = c.args.graph.now.places in
    let order = c.as_slice-place-items.result.now in
    let first : IsFeedsFirst places order = rw c.as_slice-place-items.ensures c.in_ok-order.ensures in
    let all : take c.loop-place.place-index order ≡ order = take_all c.loop-place.place-index order c.loop-place-test.false in
    whole step places order first c.loop-place.answers (subst (λ done. AreSoFar step places done c.loop-place.answers) all c.loop-place.invariant.so_far)
