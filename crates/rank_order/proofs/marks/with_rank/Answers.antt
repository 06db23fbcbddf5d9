use Rattle.std.proofs.Common.{◌<◌, List, length, ◌∙◌, ap, subst, heap_items, rules}
use Rattle.std.specs.Prelude.{IsPermutation}
use Rattle.std.specs.declared.cmp.Reverse.{Reverse}
use Rattle.rank_order.specs.declared.marks.Mark.{Mark}
use Rattle.rank_order.specs.MarkHeaps.{marks_in, places_in, IsMarkedAs}
use Rattle.rank_order.proofs.MarkHeaps.{ranked, ranked_places, places_moved, apart_next}
use Rattle.rank_order.proofs.marks.with_rank.Goals as goal

pub returns-then-index-mark-clause-marked : goal.returns-then-index-mark-clause-marked
returns-then-index-mark-clause-marked c = λ among.
    let within : c.loop-at.at < length c.loop-at.marks.items = search rules in
    let put : Reverse Mark = record { 0 = c.args.mark } in
    subst (λ (items : List (Reverse Mark)). IsMarkedAs (marks_in items) (marks_in (heap_items c.from.result)) c.args.mark.rank c.args.mark.place) c.loop-at.invariant.same
    (ranked c.loop-at.marks.items (heap_items c.from.result) c.loop-at.at put c.index.result.now within c.index.ensures c.if-index-mark.true c.from.ensures.1)

pub returns-then-index-mark-clause-places : goal.returns-then-index-mark-clause-places
returns-then-index-mark-clause-places c =
    let within : c.loop-at.at < length c.loop-at.marks.items = search rules in
    let put : Reverse Mark = record { 0 = c.args.mark } in
    subst (λ (items : List (Reverse Mark)). IsPermutation (places_in items) (places_in (heap_items c.from.result))) c.loop-at.invariant.same
    (ranked_places c.loop-at.marks.items (heap_items c.from.result) c.loop-at.at put c.index.result.now within c.index.ensures c.if-index-mark.true c.from.ensures.1)

pub loop-at-preserved : goal.loop-at-preserved
loop-at-preserved c =
    let within : c.loop-at.at < length c.loop-at.marks.items = search rules in
    record {
      same = c.loop-at.invariant.same;
      apart = apart_next c.loop-at.marks.items (heap_items c.args.heap) c.loop-at.invariant.same c.loop-at.at c.index.result.now within c.args.mark.place c.loop-at.invariant.apart
          (λ same. c.if-index-mark.false (ap (λ (it : Reverse Mark). it.0.place) c.index.ensures ∙ same));
    }

pub returns-clause-places : goal.returns-clause-places
returns-clause-places c =
    subst (λ (items : List (Reverse Mark)). IsPermutation (places_in items) (places_in (heap_items c.from-2.result))) c.loop-at.invariant.same
    (places_moved c.loop-at.marks.items (heap_items c.from-2.result) c.from-2.ensures.1)
