use Rattle.std.proofs.Common.{◌∙◌, min, sym, ap, subst, length, length-append, arith}
use Rattle.std.specs.Option.{option_map}
use Rattle.std.proofs.Math.ListN.{length-set}
use Rattle.stage_graph.specs.Sound.{IsSound}
use Rattle.stage_graph.specs.Walk.{rank}
use Rattle.rank_order.specs.Marks.{is_marked}
use Rattle.rank_order.proofs.Marking.{marks_left, none_marked}
use Rattle.propagate.proofs.Ascending.{distinct_from_before}
use Rattle.propagate.proofs.Ranks.{live_within}
use Rattle.stage_ops.specs.declared.state.State.{State}
use Rattle.time_sweep.specs.declared.changes.Change.{Change}
use Rattle.time_sweep.specs.Changed.{changed_places}
use Rattle.time_sweep.specs.Sooner.{sooner_done}
use Rattle.time_sweep.proofs.Knowing.{ranks_below}
use Rattle.time_sweep.proofs.TrialTurns.{ended, ended_before, ended_here, first_calm, first_turn, handed_target, next_calm, next_turn, turn_few, turn_live, turn_known, turn_moments}
use Rattle.time_sweep.proofs.completion.settle.Goals as goal

pub loop-place-init : goal.loop-place-init
loop-place-init g c =
    let graph = c.args.version.now.graph in
    let changed = c.args.changed.now in
    let sound = subst IsSound c.graph-graph.ensures.graph c.len.ensures.sound in
    let marks = c.in_ok-marks.ensures.marked (rank graph.places) c.requires.ranks.rank in
    record {
      settling = first_turn graph c.graph-graph.ensures.ranked sound changed c.requires.fit c.args.target c.args.ranks.now c.requires.ranks c.args.before.now c.requires.states
          c.clear.new.self.at.items c.clear.new.self.list.items (is_marked (rank graph.places) c.in_ok-marks.marks) c.clear.ensures.list marks;
      calm = first_calm graph c.graph-graph.ensures.ranked sound changed c.requires.fit c.args.target c.args.ranks.now c.requires.ranks c.args.before.now c.requires.states
          c.clear.new.self.at.items c.clear.new.self.list.items (is_marked (rank graph.places) c.in_ok-marks.marks) c.clear.ensures.list marks;
      marks = c.in_ok-marks.ensures.marks (rank graph.places) c.requires.ranks.rank;
      each = ap (λ at. length at.items) c.clear.ensures.at ∙ c.requires.each;
      counted = omega (arith, ap length c.clear.ensures.list);
    }

pub advance-requires-clause-live : goal.advance-requires-clause-live
advance-requires-clause-live g c κs inside =
    let graph = c.args.version.now.graph in
    let sound = subst IsSound c.graph-graph.ensures.graph c.len.ensures.sound in
    let inv = c.loop-place.invariant in
    turn_live graph c.graph-graph.ensures.ranked sound c.args.changed.now c.requires.fit c.args.target c.args.ranks.now c.requires.ranks c.args.before.now c.requires.states
    c.loop-place.changes.at.items c.loop-place.changes.list.items (is_marked (rank graph.places) c.loop-place.marks) inv.each inv.settling (c.in-Some.ensures.first (rank graph.places) inv.marks)

pub advance-requires-clause-known : goal.advance-requires-clause-known
advance-requires-clause-known g c κs inside =
    let graph = c.args.version.now.graph in
    let sound = subst IsSound c.graph-graph.ensures.graph c.len.ensures.sound in
    let inv = c.loop-place.invariant in
    turn_known graph c.graph-graph.ensures.ranked sound c.args.changed.now c.requires.fit c.args.target c.args.ranks.now c.requires.ranks c.args.before.now c.requires.states
    c.loop-place.changes.at.items c.loop-place.changes.list.items (is_marked (rank graph.places) c.loop-place.marks) inv.each inv.settling (c.in-Some.ensures.first (rank graph.places) inv.marks)

pub advance-requires-clause-few : goal.advance-requires-clause-few
advance-requires-clause-few g c κs inside =
    let graph = c.args.version.now.graph in
    let sound = subst IsSound c.graph-graph.ensures.graph c.len.ensures.sound in
    let inv = c.loop-place.invariant in
    turn_few graph c.graph-graph.ensures.ranked sound c.args.changed.now c.requires.fit c.args.target c.args.ranks.now c.requires.ranks c.args.before.now c.requires.states
    c.loop-place.changes.at.items c.loop-place.changes.list.items (is_marked (rank graph.places) c.loop-place.marks) inv.each inv.settling (c.in-Some.ensures.first (rank graph.places) inv.marks)

pub advance-requires-clause-room : goal.advance-requires-clause-room
advance-requires-clause-room g c κs inside =
    let graph = c.args.version.now.graph in
    let sound = subst IsSound c.graph-graph.ensures.graph c.len.ensures.sound in
    let inv = c.loop-place.invariant in
    let few = turn_few graph c.graph-graph.ensures.ranked sound c.args.changed.now c.requires.fit c.args.target c.args.ranks.now c.requires.ranks c.args.before.now c.requires.states
    c.loop-place.changes.at.items c.loop-place.changes.list.items (is_marked (rank graph.places) c.loop-place.marks) inv.each inv.settling (c.in-Some.ensures.first (rank graph.places) inv.marks) in
    let most = sound.few in
    omega (arith, few, most, inv.counted, c.requires.room)

pub advance-requires-clause-moments : goal.advance-requires-clause-moments
advance-requires-clause-moments g c κs inside =
    let graph = c.args.version.now.graph in
    let sound = subst IsSound c.graph-graph.ensures.graph c.len.ensures.sound in
    let inv = c.loop-place.invariant in
    turn_moments graph c.graph-graph.ensures.ranked sound c.args.changed.now c.requires.fit c.args.target c.args.ranks.now c.requires.ranks c.args.before.now c.requires.states
    c.loop-place.changes.at.items c.loop-place.changes.list.items (is_marked (rank graph.places) c.loop-place.marks) inv.each inv.settling

pub advance-requires-clause-marks : goal.advance-requires-clause-marks
advance-requires-clause-marks g c κs inside =
    marks_left c.loop-place.marks c.pop_first.new.self c.in-Some.ensures.left (rank c.args.version.now.graph.places) c.loop-place.invariant.marks

pub loop-place-preserved : goal.loop-place-preserved
loop-place-preserved g c =
    let graph = c.args.version.now.graph in
    let sound = subst IsSound c.graph-graph.ensures.graph c.len.ensures.sound in
    let inv = c.loop-place.invariant in
    let done = c.in_ok-advance.ensures in
    record {
      settling = next_turn graph c.graph-graph.ensures.ranked sound c.args.changed.now c.requires.fit c.args.target c.args.ranks.now c.requires.ranks c.args.before.now c.requires.states
          c.loop-place.changes.at.items c.loop-place.changes.list.items (is_marked (rank graph.places) c.loop-place.marks) inv.each inv.settling (c.in-Some.ensures.first (rank graph.places) inv.marks)
          c.advance.new.changes.at.items c.advance.new.changes.list.items (is_marked (rank graph.places) c.advance.new.marks) done.at done.list done.marked;
      calm = next_calm graph c.graph-graph.ensures.ranked sound c.args.changed.now c.requires.fit c.args.target c.args.ranks.now c.requires.ranks c.args.before.now c.requires.states
          c.loop-place.changes.at.items c.loop-place.changes.list.items (is_marked (rank graph.places) c.loop-place.marks) inv.each inv.settling (c.in-Some.ensures.first (rank graph.places) inv.marks)
          c.advance.new.changes.at.items c.advance.new.changes.list.items (is_marked (rank graph.places) c.advance.new.marks) done.at done.list done.marked inv.calm;
      marks = done.marks (marks_left c.loop-place.marks c.pop_first.new.self c.in-Some.ensures.left (rank graph.places) inv.marks);
      each = ap length done.at ∙ length-set c.loop-place.changes.at.items c.in-Some.place (length c.loop-place.changes.list.items) ∙ inv.each;
      counted = omega (arith, done.counted, inv.counted, ap length done.list, length-append {A = Change});
    }

pub loop-place-smaller : goal.loop-place-smaller
loop-place-smaller g c =
    let graph = c.args.version.now.graph in
    let sound = subst IsSound c.graph-graph.ensures.graph c.len.ensures.sound in
    let inv = c.loop-place.invariant in
    let few = turn_few graph c.graph-graph.ensures.ranked sound c.args.changed.now c.requires.fit c.args.target c.args.ranks.now c.requires.ranks c.args.before.now c.requires.states
    c.loop-place.changes.at.items c.loop-place.changes.list.items (is_marked (rank graph.places) c.loop-place.marks) inv.each inv.settling (c.in-Some.ensures.first (rank graph.places) inv.marks) in
    omega (arith, few, ap length c.in_ok-advance.ensures.list, length-append {A = Change})

pub returns-then-is_below-clause-settled : goal.returns-then-is_below-clause-settled
returns-then-is_below-clause-settled g c =
    let graph = c.args.version.now.graph in
    let sound = subst IsSound c.graph-graph.ensures.graph c.len.ensures.sound in
    let inv = c.loop-place.invariant in
    let first = c.in-Some.ensures.first (rank graph.places) inv.marks in
    let known = turn_known graph c.graph-graph.ensures.ranked sound c.args.changed.now c.requires.fit c.args.target c.args.ranks.now c.requires.ranks c.args.before.now c.requires.states
    c.loop-place.changes.at.items c.loop-place.changes.list.items (is_marked (rank graph.places) c.loop-place.marks) inv.each inv.settling first in
    ended_before graph c.graph-graph.ensures.ranked sound c.args.changed.now c.requires.fit c.args.target c.args.ranks.now c.requires.ranks c.args.before.now c.requires.states
    c.loop-place.changes.at.items c.loop-place.changes.list.items (is_marked (rank graph.places) c.loop-place.marks) inv.each inv.settling first
    (ranks_below graph.places c.args.target c.args.ranks.now c.requires.ranks c.args.target c.in-Some.place c.requires.ranks.own known (sym c.is_below.ensures ∙ c.if-is_below.true))

pub returns-then-is_below-clause-once : goal.returns-then-is_below-clause-once
returns-then-is_below-clause-once g c =
    distinct_from_before c.args.version.now.graph.places (changed_places c.loop-place.changes.list.items) c.loop-place.invariant.settling.ascending

pub returns-then-is_below-clause-counted : goal.returns-then-is_below-clause-counted
returns-then-is_below-clause-counted g c = c.loop-place.invariant.counted

pub returns-then-place-target-clause-settled : goal.returns-then-place-target-clause-settled
returns-then-place-target-clause-settled g c =
    let graph = c.args.version.now.graph in
    let sound = subst IsSound c.graph-graph.ensures.graph c.len.ensures.sound in
    let inv = c.loop-place.invariant in
    let done = c.in_ok-advance.ensures in
    ended_here graph c.graph-graph.ensures.ranked sound c.args.changed.now c.requires.fit c.args.target c.args.ranks.now c.requires.ranks c.args.before.now c.requires.states
    c.loop-place.changes.at.items c.loop-place.changes.list.items (is_marked (rank graph.places) c.loop-place.marks) inv.each inv.settling (c.in-Some.ensures.first (rank graph.places) inv.marks)
    c.advance.new.changes.at.items c.advance.new.changes.list.items (is_marked (rank graph.places) c.advance.new.marks) done.at done.list done.marked c.if-place-target.true

pub returns-then-place-target-clause-once : goal.returns-then-place-target-clause-once
returns-then-place-target-clause-once g c =
    let graph = c.args.version.now.graph in
    let sound = subst IsSound c.graph-graph.ensures.graph c.len.ensures.sound in
    let inv = c.loop-place.invariant in
    let done = c.in_ok-advance.ensures in
    let turn = next_turn graph c.graph-graph.ensures.ranked sound c.args.changed.now c.requires.fit c.args.target c.args.ranks.now c.requires.ranks c.args.before.now c.requires.states
    c.loop-place.changes.at.items c.loop-place.changes.list.items (is_marked (rank graph.places) c.loop-place.marks) inv.each inv.settling (c.in-Some.ensures.first (rank graph.places) inv.marks)
    c.advance.new.changes.at.items c.advance.new.changes.list.items (is_marked (rank graph.places) c.advance.new.marks) done.at done.list done.marked in
    distinct_from_before graph.places (changed_places c.advance.new.changes.list.items) turn.ascending

pub returns-then-place-target-clause-counted : goal.returns-then-place-target-clause-counted
returns-then-place-target-clause-counted g c =
    let done = c.in_ok-advance.ensures in
    omega (arith, done.counted, c.loop-place.invariant.counted, ap length done.list, length-append {A = Change})

pub returns-clause-once : goal.returns-clause-once
returns-clause-once g c =
    distinct_from_before c.args.version.now.graph.places (changed_places c.loop-place.changes.list.items) c.loop-place.invariant.settling.ascending

pub returns-clause-counted : goal.returns-clause-counted
returns-clause-counted g c = c.loop-place.invariant.counted

pub returns-clause-settled : goal.returns-clause-settled
returns-clause-settled g c =
    let graph = c.args.version.now.graph in
    let sound = subst IsSound c.graph-graph.ensures.graph c.len.ensures.sound in
    let inv = c.loop-place.invariant in
    ended graph c.graph-graph.ensures.ranked sound c.args.changed.now c.requires.fit c.args.target c.args.ranks.now c.requires.ranks c.args.before.now c.requires.states
    c.loop-place.changes.at.items c.loop-place.changes.list.items (is_marked (rank graph.places) c.loop-place.marks) inv.each inv.settling (λ m. none_marked c.loop-place.marks c.in_default.ensures.none (rank graph.places m) m)

-- ---- the end before the target is computed

pub done_by_one-requires : goal.done_by_one-requires
done_by_one-requires g c =
    let graph = c.args.version.now.graph in
    let sound = subst IsSound c.graph-graph.ensures.graph c.len.ensures.sound in
    let inv = c.loop-place.invariant in
    let within = live_within graph.places c.in-Some.place
    (turn_live graph c.graph-graph.ensures.ranked sound c.args.changed.now c.requires.fit c.args.target c.args.ranks.now c.requires.ranks c.args.before.now c.requires.states
    c.loop-place.changes.at.items c.loop-place.changes.list.items (is_marked (rank graph.places) c.loop-place.marks) inv.each inv.settling (c.in-Some.ensures.first (rank graph.places) inv.marks)) in
    omega (arith, within, c.requires.states.count)

pub returns-in-Some-done_by_one-clause-early : goal.returns-in-Some-done_by_one-clause-early
returns-in-Some-done_by_one-clause-early g c =
    let graph = c.args.version.now.graph in
    let sound = subst IsSound c.graph-graph.ensures.graph c.len.ensures.sound in
    let inv = c.loop-place.invariant in
    let done = c.in_ok-advance.ensures in
    let by = c.in-Some-done_by_one.ensures.done in
    let none = c.is_empty-is_alone.ensures.0 c.in-Some-done_by_one.ensures.alone in
    let new = handed_target graph c.graph-graph.ensures.ranked sound c.args.changed.now c.requires.fit c.args.target c.args.ranks.now c.requires.ranks c.args.before.now c.requires.states
    c.loop-place.changes.at.items c.loop-place.changes.list.items (is_marked (rank graph.places) c.loop-place.marks) inv.each inv.settling (c.in-Some.ensures.first (rank graph.places) inv.marks)
    c.advance.new.changes.at.items c.advance.new.changes.list.items (is_marked (rank graph.places) c.advance.new.marks) done.at done.list done.marked inv.calm
    (λ s. none_marked c.pop_first.new.self none (rank graph.places s) s) by.gain by.most (c.requires.handed c.in-Some.place by.most by.known) by.sees in
    by.completes
    ∙ ap (λ (state : State). option_map (sooner_done (min by.gain by.most)) state.done) (c.requires.states.each c.args.target)
    ∙ sym (ap (λ (state : State). state.done) new)

pub returns-in-Some-done_by_one-clause-once : goal.returns-in-Some-done_by_one-clause-once
returns-in-Some-done_by_one-clause-once g c =
    let graph = c.args.version.now.graph in
    let sound = subst IsSound c.graph-graph.ensures.graph c.len.ensures.sound in
    let inv = c.loop-place.invariant in
    let done = c.in_ok-advance.ensures in
    let turn = next_turn graph c.graph-graph.ensures.ranked sound c.args.changed.now c.requires.fit c.args.target c.args.ranks.now c.requires.ranks c.args.before.now c.requires.states
    c.loop-place.changes.at.items c.loop-place.changes.list.items (is_marked (rank graph.places) c.loop-place.marks) inv.each inv.settling (c.in-Some.ensures.first (rank graph.places) inv.marks)
    c.advance.new.changes.at.items c.advance.new.changes.list.items (is_marked (rank graph.places) c.advance.new.marks) done.at done.list done.marked in
    distinct_from_before graph.places (changed_places c.advance.new.changes.list.items) turn.ascending

pub returns-in-Some-done_by_one-clause-counted : goal.returns-in-Some-done_by_one-clause-counted
returns-in-Some-done_by_one-clause-counted g c =
    let done = c.in_ok-advance.ensures in
    omega (arith, done.counted, c.loop-place.invariant.counted, ap length done.list, length-append {A = Change})
