use Rattle.std.proofs.Common.{◌∙◌, ap, sym}
use mir.Syntax.{w128}
use mir.Val.{of_z, to_z}
use Rattle.std.proofs.lemmas.Int.{to_z-of_z}
use Rattle.trace_relations.specs.Ticks.{interval_if}
use Rattle.trace_relations.proofs.Telling.{interval_is}
use Rattle.trace_relations.proofs.ticks.interval_of.Goals as goal

pub returns : goal.returns
returns c =
    interval_is c.args.unit (to_z w128 (of_z w128 c.args.origin)) c.args.times c.told_tick-start.result c.told_tick-end.result c.interval_between.result (sym c.if-is_late.ensures) (sym c.if-is_late-2.ensures) c.told_tick-start.ensures c.told_tick-end.ensures c.interval_between.ensures
    ∙ ap (λ z. interval_if c.args.unit z c.args.times) (to_z-of_z w128 c.args.origin c.ranges.origin)
