use Rattle.std.proofs.Common.{◌≡◌, ◌≢◌, ℕ, ◌+◌, ◌<◌, ◌≤◌, Bool, List, length, sym, ap, ◌∙◌, subst, refl, arith}
use Rattle.std.specs.Prelude.{◌&&◌, is_some}
use Rattle.stage_graph.specs.Plain.{PlainGraph, stage_at}
use Rattle.stage_graph.specs.Sound.{IsSound}
use Rattle.stage_graph.specs.Walk.{IsRanked, rank}
use Rattle.stage_ops.specs.States.{state_at}
use Rattle.stage_ops.specs.Evaluation.{at}
use Rattle.scratch_eval.proofs.Evaluating.{moments_follow_ranks}
use Rattle.rank_order.specs.Lists.{is_among}
use Rattle.std.proofs.lemmas.Bool.{true≢false}
use Rattle.rank_order.specs.Marks.{is_marked, AreMarks, IsLevel}
use Rattle.propagate.specs.Reach.{Stages, IsChange, touched}
use Rattle.rank_order.proofs.Marking.{none_marked, marks_left}
use Rattle.propagate.proofs.Outcomes.{on_err}
use Rattle.propagate.proofs.Steps.{IsRankedChange, IsProgress}
use Rattle.propagate.proofs.Turns.{first_turn, live_feeds, in_time, within_touched, states_in_time, all_in_time, live_places, climbs, level_live, level_results, level_done, level_touched, level_in_graph, ended, touched_all}
use Rattle.propagate.proofs.Runs.{stays_untouched}
use Rattle.propagate.proofs.spread.propagate_change.Goals as goal

ranked_change : (old new : PlainGraph) (edited : ℕ → Bool) → IsRanked old.places → IsRanked new.places → IsSound new → IsChange old.places new.places edited → IsRankedChange old.places new.places edited
ranked_change old new edited before after sound change = record { old_ranked = before; new_ranked = after; live = live_feeds new sound; change = change }

level_of : (stages : Stages) (marks rest : List (ℕ × ℕ)) (taken level : List ℕ) → level ≡ taken → IsLevel (rank stages) (is_marked (rank stages) marks) taken (is_marked (rank stages) rest)
    → IsLevel (rank stages) (is_marked (rank stages) marks) level (is_marked (rank stages) rest)
level_of stages marks rest taken level e one = subst (λ (places : List ℕ). IsLevel (rank stages) (is_marked (rank stages) marks) places (is_marked (rank stages) rest)) (sym e) one

pub loop-alloc-init : goal.loop-alloc-init
loop-alloc-init g c =
    let stages = c.args.graph.now.places in
    let old = c.args.old.now.places in
    let step = (g.O.StageOps.step c.args.ops.now c.args.graph.now.mode) in
    let law = c.laws.ensures.reads_decide c.args.graph.now.mode in
    let edit = ranked_change c.args.old.now c.args.graph.now (λ place. is_among place c.args.edited.now) c.requires.old_ranked c.requires.ranked c.requires.sound c.requires.change in
    let marks = c.in_ok-marks.marks in
    record {
      progress =
          subst (λ (computed : List ℕ). IsProgress step old stages (λ place. is_among place c.args.edited.now) computed (is_marked (rank stages) marks) (state_at c.in_ok-states.states))
          (sym c.new-touched.ensures.items)
          (first_turn law c.args.edited.now edit (is_marked (rank stages) marks) (state_at c.in_ok-states.states) (state_at c.args.old_states.now) c.requires.states.each c.in_ok-states.ensures.states
          (subst (λ (graph : PlainGraph). (place : ℕ) → is_marked (rank graph.places) marks place ≡ (is_some (stage_at graph.places place) && is_among place c.args.edited.now)) c.requires.order c.in_ok-marks.ensures.marked));
      marks = subst (λ (graph : PlainGraph). AreMarks (rank graph.places) marks) c.requires.order c.in_ok-marks.ensures.marks;
      count = c.in_ok-states.ensures.count;
      counted = omega (arith, c.new-touched.ensures.len);
    }

pub returns-in_err-take_level-clause-refused : goal.returns-in_err-take_level-clause-refused
returns-in_err-take_level-clause-refused g c =
    let stages = c.args.graph.now.places in
    let inv = c.loop-alloc.invariant in
    let law = c.laws.ensures.reads_decide c.args.graph.now.mode in
    let edit = ranked_change c.args.old.now c.args.graph.now (λ place. is_among place c.args.edited.now) c.requires.old_ranked c.requires.ranked c.requires.sound c.requires.change in
    let room = within_touched edit inv.progress in
    let kept : c.args.meter.now ≤ c.loop-alloc.meter = omega (arith, inv.counted) in
    let bound : c.loop-alloc.meter ≤ c.args.meter.now + length (touched (g.O.StageOps.step c.args.ops.now c.args.graph.now.mode) c.args.old.now.places c.args.graph.now.places (λ place. is_among place c.args.edited.now)) = omega (arith, inv.counted, room) in
    on_err c.from_residual-in_err-take_level.result _ (kept, bound)

pub compute_level-requires-clause-climbs : goal.compute_level-requires-clause-climbs
compute_level-requires-clause-climbs g c κs borrowed =
    let stages = c.args.graph.now.places in
    let inv = c.loop-alloc.invariant in
    let law = c.laws.ensures.reads_decide c.args.graph.now.mode in
    let edit = ranked_change c.args.old.now c.args.graph.now (λ place. is_among place c.args.edited.now) c.requires.old_ranked c.requires.ranked c.requires.sound c.requires.change in
    let one = level_of stages c.loop-alloc.marks c.take_level.new.self c.take_level.new.level.items c.as_slice-level.result.now c.as_slice-level.ensures.value (c.in_ok-take_level.ensures.level (rank stages) inv.marks) in
    climbs c.as_slice-level.result.now one.ascends

pub compute_level-requires-clause-live : goal.compute_level-requires-clause-live
compute_level-requires-clause-live g c κs borrowed =
    let stages = c.args.graph.now.places in
    let inv = c.loop-alloc.invariant in
    let law = c.laws.ensures.reads_decide c.args.graph.now.mode in
    let edit = ranked_change c.args.old.now c.args.graph.now (λ place. is_among place c.args.edited.now) c.requires.old_ranked c.requires.ranked c.requires.sound c.requires.change in
    let one = level_of stages c.loop-alloc.marks c.take_level.new.self c.take_level.new.level.items c.as_slice-level.result.now c.as_slice-level.ensures.value (c.in_ok-take_level.ensures.level (rank stages) inv.marks) in
    level_live law edit inv.progress one

pub mark_level-requires-clause-live : goal.mark_level-requires-clause-live
mark_level-requires-clause-live g c κs borrowed =
    let stages = c.args.graph.now.places in
    let inv = c.loop-alloc.invariant in
    let law = c.laws.ensures.reads_decide c.args.graph.now.mode in
    let edit = ranked_change c.args.old.now c.args.graph.now (λ place. is_among place c.args.edited.now) c.requires.old_ranked c.requires.ranked c.requires.sound c.requires.change in
    let one = level_of stages c.loop-alloc.marks c.take_level.new.self c.take_level.new.level.items c.as_slice-level.result.now c.as_slice-level.ensures.value (c.in_ok-take_level.ensures.level (rank stages) inv.marks) in
    level_live law edit inv.progress one

pub compute_level-requires-clause-moments : goal.compute_level-requires-clause-moments
compute_level-requires-clause-moments g c κs borrowed =
    let stages = c.args.graph.now.places in
    let inv = c.loop-alloc.invariant in
    let law = c.laws.ensures.reads_decide c.args.graph.now.mode in
    let edit = ranked_change c.args.old.now c.args.graph.now (λ place. is_among place c.args.edited.now) c.requires.old_ranked c.requires.ranked c.requires.sound c.requires.change in
    let step = (g.O.StageOps.step c.args.ops.now c.args.graph.now.mode) in
    let moments = moments_follow_ranks step law (c.laws.ensures.soon c.args.graph.now.mode) in
    all_in_time c.loop-alloc.states
    (states_in_time law edit inv.progress (in_time step moments c.args.old.now c.requires.old_ranked c.requires.old_sound) (in_time step moments c.args.graph.now c.requires.ranked c.requires.sound))

pub compute_level-requires-clause-room : goal.compute_level-requires-clause-room
compute_level-requires-clause-room g c =
    let stages = c.args.graph.now.places in
    let inv = c.loop-alloc.invariant in
    let law = c.laws.ensures.reads_decide c.args.graph.now.mode in
    let edit = ranked_change c.args.old.now c.args.graph.now (λ place. is_among place c.args.edited.now) c.requires.old_ranked c.requires.ranked c.requires.sound c.requires.change in
    let one = level_of stages c.loop-alloc.marks c.take_level.new.self c.take_level.new.level.items c.as_slice-level.result.now c.as_slice-level.ensures.value (c.in_ok-take_level.ensures.level (rank stages) inv.marks) in
    let few = c.requires.sound.few in
    let room = level_in_graph law edit inv.progress one in
    omega (arith, inv.counted, few, room, c.requires.room)

pub mark_level-requires-clause-within : goal.mark_level-requires-clause-within
mark_level-requires-clause-within g c κs borrowed =
    let stages = c.args.graph.now.places in
    let inv = c.loop-alloc.invariant in
    let law = c.laws.ensures.reads_decide c.args.graph.now.mode in
    let edit = ranked_change c.args.old.now c.args.graph.now (λ place. is_among place c.args.edited.now) c.requires.old_ranked c.requires.ranked c.requires.sound c.requires.change in
    let one = level_of stages c.loop-alloc.marks c.take_level.new.self c.take_level.new.level.items c.as_slice-level.result.now c.as_slice-level.ensures.value (c.in_ok-take_level.ensures.level (rank stages) inv.marks) in
    live_places stages c.loop-alloc.states c.as_slice-level.result.now inv.count (level_live law edit inv.progress one)

pub mark_level-requires-clause-marks : goal.mark_level-requires-clause-marks
mark_level-requires-clause-marks g c κs borrowed =
    let stages = c.args.graph.now.places in
    marks_left c.loop-alloc.marks c.take_level.new.self c.in_ok-take_level.ensures.left (rank stages) c.loop-alloc.invariant.marks

pub write_level-requires-clause-within : goal.write_level-requires-clause-within
write_level-requires-clause-within g c κs borrowed =
    let stages = c.args.graph.now.places in
    let inv = c.loop-alloc.invariant in
    let law = c.laws.ensures.reads_decide c.args.graph.now.mode in
    let edit = ranked_change c.args.old.now c.args.graph.now (λ place. is_among place c.args.edited.now) c.requires.old_ranked c.requires.ranked c.requires.sound c.requires.change in
    let one = level_of stages c.loop-alloc.marks c.take_level.new.self c.take_level.new.level.items c.as_slice-level.result.now c.as_slice-level.ensures.value (c.in_ok-take_level.ensures.level (rank stages) inv.marks) in
    live_places stages c.loop-alloc.states c.as_slice-level.result.now inv.count (level_live law edit inv.progress one)

pub returns-in_err-results-clause-refused : goal.returns-in_err-results-clause-refused
returns-in_err-results-clause-refused g c =
    let stages = c.args.graph.now.places in
    let inv = c.loop-alloc.invariant in
    let law = c.laws.ensures.reads_decide c.args.graph.now.mode in
    let edit = ranked_change c.args.old.now c.args.graph.now (λ place. is_among place c.args.edited.now) c.requires.old_ranked c.requires.ranked c.requires.sound c.requires.change in
    let one = level_of stages c.loop-alloc.marks c.take_level.new.self c.take_level.new.level.items c.as_slice-level.result.now c.as_slice-level.ensures.value (c.in_ok-take_level.ensures.level (rank stages) inv.marks) in
    let room = level_touched law edit inv.progress one in
    let kept : c.args.meter.now ≤ c.compute_level.new.meter = omega (arith, inv.counted, c.in_err-results.ensures.refused.0) in
    let bound : c.compute_level.new.meter ≤ c.args.meter.now + length (touched (g.O.StageOps.step c.args.ops.now c.args.graph.now.mode) c.args.old.now.places c.args.graph.now.places (λ place. is_among place c.args.edited.now)) = omega (arith, inv.counted, c.in_err-results.ensures.refused.1, room) in
    on_err c.from_residual-in_err-results.result _ (kept, bound)

pub returns-in_err-mark_level-clause-refused : goal.returns-in_err-mark_level-clause-refused
returns-in_err-mark_level-clause-refused g c =
    let stages = c.args.graph.now.places in
    let inv = c.loop-alloc.invariant in
    let law = c.laws.ensures.reads_decide c.args.graph.now.mode in
    let edit = ranked_change c.args.old.now c.args.graph.now (λ place. is_among place c.args.edited.now) c.requires.old_ranked c.requires.ranked c.requires.sound c.requires.change in
    let one = level_of stages c.loop-alloc.marks c.take_level.new.self c.take_level.new.level.items c.as_slice-level.result.now c.as_slice-level.ensures.value (c.in_ok-take_level.ensures.level (rank stages) inv.marks) in
    let room = level_touched law edit inv.progress one in
    let kept : c.args.meter.now ≤ c.compute_level.new.meter = omega (arith, inv.counted, c.in_ok-results.ensures.counted) in
    let bound : c.compute_level.new.meter ≤ c.args.meter.now + length (touched (g.O.StageOps.step c.args.ops.now c.args.graph.now.mode) c.args.old.now.places c.args.graph.now.places (λ place. is_among place c.args.edited.now)) = omega (arith, inv.counted, c.in_ok-results.ensures.counted, room) in
    on_err c.from_residual-in_err-mark_level.result _ (kept, bound)

pub returns-in_err-write_level-clause-refused : goal.returns-in_err-write_level-clause-refused
returns-in_err-write_level-clause-refused g c =
    let stages = c.args.graph.now.places in
    let inv = c.loop-alloc.invariant in
    let law = c.laws.ensures.reads_decide c.args.graph.now.mode in
    let edit = ranked_change c.args.old.now c.args.graph.now (λ place. is_among place c.args.edited.now) c.requires.old_ranked c.requires.ranked c.requires.sound c.requires.change in
    let one = level_of stages c.loop-alloc.marks c.take_level.new.self c.take_level.new.level.items c.as_slice-level.result.now c.as_slice-level.ensures.value (c.in_ok-take_level.ensures.level (rank stages) inv.marks) in
    let room = level_touched law edit inv.progress one in
    let kept : c.args.meter.now ≤ c.compute_level.new.meter = omega (arith, inv.counted, c.in_ok-results.ensures.counted) in
    let bound : c.compute_level.new.meter ≤ c.args.meter.now + length (touched (g.O.StageOps.step c.args.ops.now c.args.graph.now.mode) c.args.old.now.places c.args.graph.now.places (λ place. is_among place c.args.edited.now)) = omega (arith, inv.counted, c.in_ok-results.ensures.counted, room) in
    on_err c.from_residual-in_err-write_level.result _ (kept, bound)

pub returns-in_err-extend_from_slice-clause-refused : goal.returns-in_err-extend_from_slice-clause-refused
returns-in_err-extend_from_slice-clause-refused g c =
    let stages = c.args.graph.now.places in
    let inv = c.loop-alloc.invariant in
    let law = c.laws.ensures.reads_decide c.args.graph.now.mode in
    let edit = ranked_change c.args.old.now c.args.graph.now (λ place. is_among place c.args.edited.now) c.requires.old_ranked c.requires.ranked c.requires.sound c.requires.change in
    let one = level_of stages c.loop-alloc.marks c.take_level.new.self c.take_level.new.level.items c.as_slice-level.result.now c.as_slice-level.ensures.value (c.in_ok-take_level.ensures.level (rank stages) inv.marks) in
    let room = level_touched law edit inv.progress one in
    let kept : c.args.meter.now ≤ c.compute_level.new.meter = omega (arith, inv.counted, c.in_ok-results.ensures.counted) in
    let bound : c.compute_level.new.meter ≤ c.args.meter.now + length (touched (g.O.StageOps.step c.args.ops.now c.args.graph.now.mode) c.args.old.now.places c.args.graph.now.places (λ place. is_among place c.args.edited.now)) = omega (arith, inv.counted, c.in_ok-results.ensures.counted, room) in
    on_err c.from_residual-in_err-extend_from_slice.result _ (kept, bound)

pub loop-alloc-smaller : goal.loop-alloc-smaller
loop-alloc-smaller g c =
    let stages = c.args.graph.now.places in
    let inv = c.loop-alloc.invariant in
    let law = c.laws.ensures.reads_decide c.args.graph.now.mode in
    let edit = ranked_change c.args.old.now c.args.graph.now (λ place. is_among place c.args.edited.now) c.requires.old_ranked c.requires.ranked c.requires.sound c.requires.change in
    let one = level_of stages c.loop-alloc.marks c.take_level.new.self c.take_level.new.level.items c.as_slice-level.result.now c.as_slice-level.ensures.value (c.in_ok-take_level.ensures.level (rank stages) inv.marks) in
    let room = level_in_graph law edit inv.progress one in
    let some : 0 < length c.loop-alloc.marks = let differ : length c.loop-alloc.marks ≢ 0 = λ none. true≢false (sym (c.is_empty.ensures.1 none) ∙ c.loop-alloc-test.true) in omega arith in
    omega (arith, room, c.in_ok-take_level.ensures.some some, ap length c.as_slice-level.ensures.value, c.in_ok-extend_from_slice.ensures.len)

pub loop-alloc-preserved : goal.loop-alloc-preserved
loop-alloc-preserved g c =
    let stages = c.args.graph.now.places in
    let inv = c.loop-alloc.invariant in
    let law = c.laws.ensures.reads_decide c.args.graph.now.mode in
    let edit = ranked_change c.args.old.now c.args.graph.now (λ place. is_among place c.args.edited.now) c.requires.old_ranked c.requires.ranked c.requires.sound c.requires.change in
    let one = level_of stages c.loop-alloc.marks c.take_level.new.self c.take_level.new.level.items c.as_slice-level.result.now c.as_slice-level.ensures.value (c.in_ok-take_level.ensures.level (rank stages) inv.marks) in
    let step = (g.O.StageOps.step c.args.ops.now c.args.graph.now.mode) in
    let same = level_results law edit inv.progress one c.in_ok-results.results.items c.in_ok-results.ensures.states in
    record {
      progress =
          subst (λ (computed : List ℕ). IsProgress step c.args.old.now.places stages (λ place. is_among place c.args.edited.now) computed (is_marked (rank stages) c.mark_level.new.marks) (state_at c.write_level.new.self))
          (sym c.in_ok-extend_from_slice.ensures.items)
          (level_done law edit inv.progress one (is_marked (rank stages) c.mark_level.new.marks) (state_at c.write_level.new.self)
          (c.in_ok-mark_level.ensures.marked (at step stages) (c.as_slice.ensures.value ∙ same)) (c.in_ok-write_level.ensures.states (at step stages) (c.as_mut_slice.ensures.value ∙ same)));
      marks = c.in_ok-mark_level.ensures.marks (marks_left c.loop-alloc.marks c.take_level.new.self c.in_ok-take_level.ensures.left (rank stages) inv.marks);
      count = c.in_ok-write_level.ensures.count ∙ inv.count;
      counted = omega (arith, inv.counted, c.in_ok-results.ensures.counted, c.in_ok-extend_from_slice.ensures.len);
    }

pub returns-clause-states : goal.returns-clause-states
returns-clause-states g c =
    let stages = c.args.graph.now.places in
    let inv = c.loop-alloc.invariant in
    let law = c.laws.ensures.reads_decide c.args.graph.now.mode in
    let edit = ranked_change c.args.old.now c.args.graph.now (λ place. is_among place c.args.edited.now) c.requires.old_ranked c.requires.ranked c.requires.sound c.requires.change in
    let none = c.is_empty.ensures.0 c.loop-alloc-test.false in
    ended law edit inv.progress c.loop-alloc.states (λ place. refl) inv.count (λ place. none_marked c.loop-alloc.marks none (rank stages place) place)

pub returns-clause-touched : goal.returns-clause-touched
returns-clause-touched g c =
    let stages = c.args.graph.now.places in
    let inv = c.loop-alloc.invariant in
    let law = c.laws.ensures.reads_decide c.args.graph.now.mode in
    let edit = ranked_change c.args.old.now c.args.graph.now (λ place. is_among place c.args.edited.now) c.requires.old_ranked c.requires.ranked c.requires.sound c.requires.change in
    let none = c.is_empty.ensures.0 c.loop-alloc-test.false in
    touched_all law edit inv.progress (λ place. none_marked c.loop-alloc.marks none (rank stages place) place)

pub returns-clause-untouched : goal.returns-clause-untouched
returns-clause-untouched g c =
    let stages = c.args.graph.now.places in
    let inv = c.loop-alloc.invariant in
    let law = c.laws.ensures.reads_decide c.args.graph.now.mode in
    let edit = ranked_change c.args.old.now c.args.graph.now (λ place. is_among place c.args.edited.now) c.requires.old_ranked c.requires.ranked c.requires.sound c.requires.change in
    let none = c.is_empty.ensures.0 c.loop-alloc-test.false in
    stays_untouched law edit _ (touched_all law edit inv.progress (λ place. none_marked c.loop-alloc.marks none (rank stages place) place))
