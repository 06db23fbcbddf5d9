use Rattle.std.proofs.Common.{◌≡◌}
use Rattle.std.proofs.lemmas.Result.{IfOk-weaker}
use Rattle.trace_relations.specs.LateEnds.{with_callers_ends}
use Rattle.trace_relations.specs.Relations.{ended}
use Rattle.trace_relations.proofs.LeftAsTold.{ends_found, ends_told}
use Rattle.trace_relations.proofs.relations.late_ends_of.Goals as goal

pub returns-then-as_told : goal.returns-then-as_told
returns-then-as_told c = ends_told c.args.as_told c.args.spans.now c.args.order.now c.args.intervals.now c.if-as_told.true

pub returns : goal.returns
returns c =
    IfOk-weaker c.end_with_callers.result (λ late. c.end_with_callers.new.intervals ≡ with_callers_ends c.args.spans.now c.args.references.now c.args.order.now c.args.intervals.now)
    (λ late. c.end_with_callers.new.intervals ≡ ended c.args.as_told c.args.spans.now c.args.order.now c.args.intervals.now)
    (λ late is. ends_found c.args.as_told c.args.spans.now c.args.references.now c.args.order.now c.args.intervals.now c.end_with_callers.new.intervals c.if-as_told.false c.requires is) c.end_with_callers.ensures
