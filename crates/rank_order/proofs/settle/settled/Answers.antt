use Rattle.std.proofs.Common.{◌<◌, ◌≤◌, ◌+◌, ◌∙◌, length, sym, ap, subst, arith, slice_index}
use Rattle.std.specs.Prelude.{◌==◌, if◌then◌else◌}
use Rattle.std.proofs.lemmas.List.{length-set}
use Rattle.stage_graph.specs.Plain.{feeds_at}
use Rattle.rank_order.specs.Lists.{is_among}
use Rattle.rank_order.specs.Marks.{is_marked, IsFirst}
use Rattle.rank_order.specs.Ranking.{feeds_left}
use Rattle.rank_order.proofs.Marking.{none_marked, marks_left}
use Rattle.rank_order.proofs.Listed.{among_dependents}
use Rattle.rank_order.proofs.Members.{among_contains}
use Rattle.rank_order.proofs.PutBack.{left_dependent, traced_in}
use Rattle.rank_order.proofs.Settling.{after_begins, after_more, after_small, after_all, after_none, after_traced, marked_kept, marked_within}
use Rattle.rank_order.proofs.SettleTurns.{dependents_are, rank_set, only_these, rank_stays, rank_changes}
use Rattle.rank_order.proofs.settle.settled.Goals as goal

pub loop-turn-init : goal.loop-turn-init
loop-turn-init g c =
    let places = c.args.graph.now.places in
    let before = slice_index (g.K.Keeps.items c.args.before.now) in
    record {
      after = rw c.in_ok-ranks.ensures (after_begins (feeds_left places c.args.out.now) (length places) c.args.moved.now before (left_dependent places c.args.out.now) c.requires.right
          (is_marked before c.mark_left.new.marks)
          (λ place. only_these (is_marked before c.new-marks.result place) (is_marked before c.mark_left.new.marks place) (is_among place c.args.moved.now) (none_marked c.new-marks.result (ap length c.new-marks.ensures) (before place) place) (c.in_ok-mark_left.ensures.marked place))
          c.requires.moved c.requires.small);
      marks = c.in_ok-mark_left.ensures.marks;
      long = rw c.in_ok-ranks.ensures c.requires.long;
    }

pub rank_left-rank-requires-after_bounds : goal.rank_left-rank-requires-after_bounds
rank_left-rank-requires-after_bounds g c κs inside place =
    let places = c.args.graph.now.places in
    let out = c.args.out.now in
    let before = slice_index (g.K.Keeps.items c.args.before.now) in
    let now = slice_index (g.K.Keeps.items c.loop-turn.ranks) in
    let low : slice_index (g.K.Keeps.items c.loop-turn.ranks) place ≤ length c.args.graph.now.places + c.loop-turn._turn =
    after_small (feeds_left places out) (length places) c.args.moved.now before (left_dependent places out) c.requires.right c.loop-turn._turn (is_marked before c.loop-turn.marks) now c.loop-turn.invariant.after place in
    omega (arith, low, c.len-turn-end.ensures.sound.few, c.len-turn-end.ensures.len, c.loop-turn-test.true)

pub returns-in_default-clause-right : goal.returns-in_default-clause-right
returns-in_default-clause-right g c =
    let places = c.args.graph.now.places in
    let before = slice_index (g.K.Keeps.items c.args.before.now) in
    after_none (feeds_left places c.args.out.now) (length places) c.args.moved.now before (left_dependent places c.args.out.now) c.requires.right c.loop-turn._turn (is_marked before c.loop-turn.marks)
    (slice_index (g.K.Keeps.items c.loop-turn.ranks)) c.loop-turn.invariant.after (λ place. none_marked c.loop-turn.marks c.in_default.ensures.none (before place) place)

pub returns-clause-right : goal.returns-clause-right
returns-clause-right g c =
    let places = c.args.graph.now.places in
    let before = slice_index (g.K.Keeps.items c.args.before.now) in
    let past : length c.args.graph.now.places ≤ c.loop-turn._turn = omega (arith, c.len-turn-end.ensures.len, c.loop-turn-test.false) in
    after_all (feeds_left places c.args.out.now) (length places) c.args.moved.now before (left_dependent places c.args.out.now) c.requires.right c.loop-turn._turn (is_marked before c.loop-turn.marks)
    (slice_index (g.K.Keeps.items c.loop-turn.ranks)) c.loop-turn.invariant.after past

pub loop-turn-preserved-then-rank-was : goal.loop-turn-preserved-then-rank-was
loop-turn-preserved-then-rank-was g c =
    let places = c.args.graph.now.places in
    let out = c.args.out.now in
    let moved = c.args.moved.now in
    let before = slice_index (g.K.Keeps.items c.args.before.now) in
    let now = slice_index (g.K.Keeps.items c.loop-turn.ranks) in
    let marked = is_marked before c.loop-turn.marks in
    let left = is_marked before c.pop_first.new.self in
    let place = c.in-Some.place in
    let inv = c.loop-turn.invariant in
    let feeds = feeds_left places out in
    let taken : IsFirst (slice_index (g.K.Keeps.items c.args.before.now)) (is_marked (slice_index (g.K.Keeps.items c.args.before.now)) c.loop-turn.marks) (is_marked (slice_index (g.K.Keeps.items c.args.before.now)) c.pop_first.new.self) c.in-Some.place =
    c.in-Some.ensures.first before inv.marks in
    let kept = marked_kept feeds (length places) moved before (left_dependent places out) c.requires.right c.loop-turn._turn marked now inv.after place taken.here in
    let same = sym c.rank_left-rank.ensures ∙ c.if-rank-was.true ∙ c.rank_at-was.ensures ∙ sym kept in
    record {
      after = after_more feeds (length places) moved before (left_dependent places out) c.requires.right c.loop-turn._turn marked left now now place inv.after
          (rank_stays places out moved before now marked left place taken (length places) same);
      marks = marks_left c.loop-turn.marks c.pop_first.new.self c.in-Some.ensures.left before inv.marks;
      long = inv.long;
    }

pub walk_back-requires-clause-traced : goal.walk_back-requires-clause-traced
walk_back-requires-clause-traced g c κs inside =
    let places = c.args.graph.now.places in
    let out = c.args.out.now in
    let moved = c.args.moved.now in
    let before = slice_index (g.K.Keeps.items c.args.before.now) in
    let ranks = g.K.Keeps.items c.loop-turn.ranks in
    let marked = is_marked before c.loop-turn.marks in
    let place = c.in-Some.place in
    let inv = c.loop-turn.invariant in
    let feeds = feeds_left places out in
    let taken = c.in-Some.ensures.first before inv.marks in
    let within : place < length ranks = subst (λ n. place < n) (sym inv.long) (marked_within feeds (length places) moved before (left_dependent places out) c.requires.right c.loop-turn._turn marked (slice_index ranks) inv.after place taken.here) in
    let next = slice_index (g.K.Keeps.items c.write.new.self) in
    traced_in places out moved before next
    (after_traced feeds (length places) moved before (left_dependent places out) c.requires.right c.loop-turn._turn marked (slice_index ranks) next place inv.after taken.here
    (λ other. ap (λ xs. slice_index xs other) c.in_ok-write.ensures.ok ∙ rank_set ranks place c.rank_left-rank.result within other
    ∙ ap (λ r. if other == place then r else slice_index ranks other) c.rank_left-rank.ensures))

pub walk_back-requires-clause-feed : goal.walk_back-requires-clause-feed
walk_back-requires-clause-feed g c κs inside =
    let places = c.args.graph.now.places in
    let moved = c.args.moved.now in
    let before = slice_index (g.K.Keeps.items c.args.before.now) in
    let place = c.in-Some.place in
    let dependent = c.in-Some-first_stop.first in
    let inv = c.loop-turn.invariant in
    let taken = c.in-Some.ensures.first before inv.marks in
    let within = marked_within (feeds_left places c.args.out.now) (length places) moved before (left_dependent places c.args.out.now) c.requires.right c.loop-turn._turn (is_marked before c.loop-turn.marks)
    (slice_index (g.K.Keeps.items c.loop-turn.ranks)) inv.after place taken.here in
    let its_dependents = dependents_are places (g.L.Keeps.items c.args.kept.now) place c.dependents_at-its_dependents.result.now c.requires.dependents within c.dependents_at-its_dependents.ensures in
    among_contains place (feeds_at places dependent) (sym (among_dependents places place dependent) ∙ ap (is_among dependent) (sym its_dependents) ∙ c.in-Some-first_stop.ensures.found.0)

pub loop-turn-preserved : goal.loop-turn-preserved
loop-turn-preserved g c =
    let places = c.args.graph.now.places in
    let out = c.args.out.now in
    let moved = c.args.moved.now in
    let before = slice_index (g.K.Keeps.items c.args.before.now) in
    let ranks = g.K.Keeps.items c.loop-turn.ranks in
    let now = slice_index (g.K.Keeps.items c.loop-turn.ranks) in
    let next = slice_index (g.K.Keeps.items c.write.new.self) in
    let marked = is_marked before c.loop-turn.marks in
    let left = is_marked before c.pop_first.new.self in
    let now_marked = is_marked before c.mark_left-in-loop-turn.new.marks in
    let place = c.in-Some.place in
    let inv = c.loop-turn.invariant in
    let feeds = feeds_left places out in
    let count = length places in
    let rank = c.rank_left-rank.result in
    let taken : IsFirst (slice_index (g.K.Keeps.items c.args.before.now)) (is_marked (slice_index (g.K.Keeps.items c.args.before.now)) c.loop-turn.marks) (is_marked (slice_index (g.K.Keeps.items c.args.before.now)) c.pop_first.new.self) c.in-Some.place =
    c.in-Some.ensures.first before inv.marks in
    let inside : c.in-Some.place < length c.args.graph.now.places = marked_within feeds count moved before (left_dependent places out) c.requires.right c.loop-turn._turn marked now inv.after place taken.here in
    let within : c.in-Some.place < length (g.K.Keeps.items c.loop-turn.ranks) = subst (λ n. place < n) (sym inv.long) inside in
    let kept = marked_kept feeds count moved before (left_dependent places out) c.requires.right c.loop-turn._turn marked now inv.after place taken.here in
    let its_dependents = dependents_are places (g.L.Keeps.items c.args.kept.now) place c.dependents_at-its_dependents.result.now c.requires.dependents inside c.dependents_at-its_dependents.ensures in
    record {
      after = after_more feeds count moved before (left_dependent places out) c.requires.right c.loop-turn._turn marked now_marked now next place inv.after
          (rank_changes places out moved before now marked left place taken count now_marked next c.dependents_at-its_dependents.result.now
          (λ same. c.if-rank-was.false (c.rank_left-rank.ensures ∙ same ∙ kept ∙ sym c.rank_at-was.ensures)) its_dependents c.in_default-first_stop.ensures.none
          (λ other. ap (λ xs. slice_index xs other) c.in_ok-write.ensures.ok ∙ rank_set ranks place rank within other ∙ ap (λ r. if other == place then r else slice_index ranks other) c.rank_left-rank.ensures)
          c.in_ok-mark_left-2.ensures.marked);
      marks = c.in_ok-mark_left-2.ensures.marks;
      long = ap length c.in_ok-write.ensures.ok ∙ length-set ranks place rank ∙ inv.long;
    }
