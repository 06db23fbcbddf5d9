use Rattle.std.proofs.Common.{ℕ, length, ◌||◌, ◌&&◌, ◌==◌, ap, ◌∙◌, get_or, arith}
use Rattle.std.specs.Prelude.{is_some}
use Rattle.stage_graph.specs.Plain.{stage_at}
use Rattle.stage_graph.specs.Walk.{rank}
use Rattle.rank_order.specs.Marks.{is_marked}
use Rattle.rank_order.proofs.Marking.{none_marked, no_marks}
use Rattle.propagate.proofs.Reading.{first_next, none_yet}
use Rattle.propagate.proofs.readers.first_marks.Goals as goal

pub loop-place-init : goal.loop-place-init
loop-place-init g c =
    let stages = c.args.order.now.graph.places in
    record {
      marked = λ place. none_yet (is_some (stage_at stages place)) (is_marked (rank stages) c.new-marks.result place) (none_marked c.new-marks.result (ap length c.new-marks.ensures) (rank stages place) place);
      marks = no_marks c.new-marks.result (ap length c.new-marks.ensures) (rank stages);
    }

pub loop-place-preserved : goal.loop-place-preserved
loop-place-preserved g c =
    let stages = c.args.order.now.graph.places in
    let live = λ (place : ℕ). is_some (stage_at stages place) in
    let edited = c.args.edited.now in
    let i = c.loop-place.place-index in
    record {
      marked = λ place.
          c.in_ok-mark.ensures.marked place
          ∙ ap (λ b. b || (live (get_or edited i 0) && place == get_or edited i 0)) (c.loop-place.invariant.marked place)
          ∙ first_next live edited i place (omega arith);
      marks = c.in_ok-mark.ensures.marks c.loop-place.invariant.marks;
    }
