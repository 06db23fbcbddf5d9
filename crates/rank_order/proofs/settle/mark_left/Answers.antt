use Rattle.std.proofs.Common.{◌≡◌, true, ◌∙◌, ◌||◌, ◌&&◌, false, not, take, get_or, sym, ap, slice_index}
use Rattle.std.specs.Prelude.{◌==◌}
use Rattle.std.proofs.lemmas.Bool.{eqb-true, not_from_false}
use Rattle.rank_order.specs.Lists.{is_among}
use Rattle.rank_order.specs.Marks.{is_marked}
use Rattle.rank_order.proofs.Marking.{marked_by}
use Rattle.rank_order.proofs.Members.{among_more}
use Rattle.rank_order.proofs.SettleTurns.{mark_joined, mark_kept}
use Rattle.rank_order.proofs.settle.mark_left.Goals as goal

pub loop-place-preserved : goal.loop-place-preserved
loop-place-preserved g c =
    let before = slice_index (g.K.Keeps.items c.args.before.now) in
    let places = c.args.places.now in
    let out = c.args.out.now in
    let i = c.loop-place.place-index in
    let here = get_or places i 0 in
    let kept : is_among (get_or places i 0) out ≡ false = sym c.is_among.ensures ∙ c.if-is_among.false in
    record {
      marked = λ place.
          c.in_ok-add.ensures.marked before place c.rank_at.ensures
          ∙ ap (λ b. b || place == here) (c.loop-place.invariant.marked place)
          ∙ mark_joined (is_marked before c.args.marks.now place) (is_among place (take i places)) (place == here) (not (is_among place out))
          (λ same. ap (λ x. not (is_among x out)) (eqb-true place here same) ∙ not_from_false (is_among here out) kept)
          ∙ ap (λ b. is_marked before c.args.marks.now place || (b && not (is_among place out))) (sym (among_more place i places c.loop-place-test.true));
      marks = c.in_ok-add.ensures.marks before c.rank_at.ensures c.loop-place.invariant.marks;
    }

-- a place that is marked already
pub loop-place-preserved-then-has : goal.loop-place-preserved-then-has
loop-place-preserved-then-has g c =
    let before = slice_index (g.K.Keeps.items c.args.before.now) in
    let places = c.args.places.now in
    let out = c.args.out.now in
    let i = c.loop-place.place-index in
    let here = get_or places i 0 in
    let inv = c.loop-place.invariant in
    let marked : is_marked before c.loop-place.marks here ≡ true = marked_by before c.loop-place.marks inv.marks here (sym c.has.ensures ∙ c.if-has.true) in
    record {
      marked = λ place.
          inv.marked place
          ∙ mark_kept (is_marked before c.args.marks.now place) (is_among place (take i places)) (place == here) (not (is_among place out))
          (λ same. sym (inv.marked place) ∙ ap (is_marked before c.loop-place.marks) (eqb-true place here same) ∙ marked)
          ∙ ap (λ b. is_marked before c.args.marks.now place || (b && not (is_among place out))) (sym (among_more place i places c.loop-place-test.true));
      marks = inv.marks;
    }
