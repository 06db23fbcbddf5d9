use Rattle.std.proofs.Common.{◌≡◌, ◌∙◌, ap, arith, rules, subst, sym}
use mir.Syntax.{w128}
use mir.Val.{SFits, of_z, to_z}
use Rattle.std.proofs.lemmas.Int.{to_z-of_z}
use Rattle.std.specs.Prelude.{Ok}
use Rattle.std.proofs.lemmas.List.{with_items_is}
use Rattle.trace_relations.specs.ByStart.{AreByStart}
use Rattle.trace_relations.specs.Reads.{IsFault}
use Rattle.trace_relations.specs.Relations.{ended, told_times}
use Rattle.trace_relations.specs.Ticks.{earliest_time, intervals_of}
use Rattle.trace_relations.proofs.Ending.{no_intervals, no_origin, passed_on, ticks_are}
use Rattle.trace_relations.proofs.relations.timed_spans.Goals as goal

pub returns-in_err-origin : goal.returns-in_err-origin
returns-in_err-origin c =
    let fault = c.in_err-origin.field-0.0 in
    let times = c.in_ok-moved.field-0.times.items in
    let told : times ≡ told_times c.args.as_told c.args.spans.now = c.in_ok-moved.ensures.times in
    passed_on c.args.unit c.args.as_told c.args.spans.now c.from_residual-in_err-origin.result fault c.from_residual-in_err-origin.ensures.1
    (no_origin c.args.unit c.args.as_told c.args.spans.now times fault told (subst (λ those. IsFault fault (earliest_time c.args.spans.now those)) c.deref.ensures.value c.in_err-origin.ensures))

pub returns-in_err-intervals : goal.returns-in_err-intervals
returns-in_err-intervals c =
    let fault = c.in_err-intervals.field-0.0 in
    let times = c.in_ok-moved.field-0.times.items in
    let origin = c.in_ok-origin.origin in
    let fits : SFits w128 origin = search rules in
    let same = to_z-of_z w128 origin fits in
    let told : times ≡ told_times c.args.as_told c.args.spans.now = c.in_ok-moved.ensures.times in
    passed_on c.args.unit c.args.as_told c.args.spans.now c.from_residual-in_err-intervals.result fault c.from_residual-in_err-intervals.ensures.1
    (no_intervals c.args.unit c.args.as_told c.args.spans.now times origin fault told (ap (earliest_time c.args.spans.now) (sym c.deref.ensures.value) ∙ c.in_ok-origin.ensures)
    (subst (λ z. IsFault fault (intervals_of c.args.unit z c.args.spans.now times)) same
    (subst (λ those. IsFault fault (intervals_of c.args.unit (to_z w128 (of_z w128 origin)) c.args.spans.now those)) c.deref-2.ensures.value c.in_err-intervals.ensures)))

pub returns : goal.returns
returns c =
    let times = c.in_ok-moved.field-0.times.items in
    let origin = c.in_ok-origin.origin in
    let fits : SFits w128 origin = search rules in
    let same = to_z-of_z w128 origin fits in
    let kept = to_z w128 (of_z w128 origin) in
    let told = c.in_ok-intervals.intervals.items in
    let order = c.in_ok-order.order.items in
    let are : times ≡ told_times c.args.as_told c.args.spans.now = c.in_ok-moved.ensures.times in
    record {
      told = told;
      ticks = ticks_are c.args.unit c.args.as_told c.args.spans.now times kept told are
          (subst (λ z. earliest_time c.args.spans.now times ≡ Ok z) (sym same) (ap (earliest_time c.args.spans.now) (sym c.deref.ensures.value) ∙ c.in_ok-origin.ensures))
          (ap (intervals_of c.args.unit kept c.args.spans.now) (sym c.deref-2.ensures.value) ∙ c.in_ok-intervals.ensures);
      by_start = subst (λ those. AreByStart those order) c.deref-3.ensures.value c.in_ok-order.ensures;
      moved = c.in_ok-moved.ensures.moved;
      ended_with = with_items_is c.in_ok-intervals.intervals c.late_ends_of.new.intervals (omega arith) ∙ c.in_ok-late.ensures
          ∙ ap (λ those. ended c.args.as_told c.args.spans.now those c.deref_mut.result.now) c.deref-4.ensures.value ∙ ap (ended c.args.as_told c.args.spans.now order) c.deref_mut.ensures.value;
    }
