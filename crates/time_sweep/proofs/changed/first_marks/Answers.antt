use Rattle.std.proofs.Common.{◌≡◌, ◌∙◌, ◌||◌, ◌&&◌, ◌+◌, ℕ, List, length, get_or, take, take_all, ap, sym, subst, arith}
use Rattle.std.specs.Prelude.{is_some, ◌==◌}
use Rattle.rank_order.specs.Marks.{is_marked}
use Rattle.rank_order.proofs.Marking.{no_marks, none_marked}
use Rattle.propagate.proofs.Reading.{none_yet}
use Rattle.stage_graph.specs.declared.stage.Stage.{Stage}
use Rattle.time_sweep.specs.Known.{rank_in}
use Rattle.time_sweep.specs.WithStage.{is_changed}
use Rattle.time_sweep.proofs.ChangedStages.{marked_next}
use Rattle.time_sweep.proofs.changed.first_marks.Goals as goal

pub loop-stage-init : goal.loop-stage-init
loop-stage-init c = record {
  marked = λ order are place.
      none_yet (is_some (rank_in c.args.ranks.now place)) (is_marked order c.new-marks.result place) (none_marked c.new-marks.result (ap length c.new-marks.ensures) (order place) place);
  marks = λ order are. no_marks c.new-marks.result (ap length c.new-marks.ensures) order;
}

pub loop-stage-preserved : goal.loop-stage-preserved
loop-stage-preserved c =
    let known = λ (place : ℕ). is_some (rank_in c.args.ranks.now place) in
    let changed = c.args.changed.now in
    let k = c.loop-stage.stage-index in
    let stage = c.stage-item.result in
    let here : stage ≡ get_or changed k stage = c.stage-item.is in
    record {
      marked = λ order are place.
          c.in_ok-mark.ensures.marked order are place
          ∙ ap (λ b. b || (known stage.place && place == stage.place)) (c.loop-stage.invariant.marked order are place)
          ∙ ap (λ (one : Stage). (known place && is_changed (take k changed) place) || (known one.place && place == one.place)) here
          ∙ marked_next known changed k stage place c.loop-stage-test.true;
      marks = λ order are. c.in_ok-mark.ensures.marks order are (c.loop-stage.invariant.marks order are);
    }

pub returns-clause-marked : goal.returns-clause-marked
returns-clause-marked c order are place =
    c.loop-stage.invariant.marked order are place
    ∙ ap (λ (stages : List Stage). is_some (rank_in c.args.ranks.now place) && is_changed stages place) (take_all c.loop-stage.stage-index c.args.changed.now c.loop-stage-test.false)

pub returns-clause-marks : goal.returns-clause-marks
returns-clause-marks c = c.loop-stage.invariant.marks
