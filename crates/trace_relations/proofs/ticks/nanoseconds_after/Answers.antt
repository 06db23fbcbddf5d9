use mir.Syntax.{w128}
use mir.Val.{of_z, to_z}
use Rattle.std.proofs.Common.{◌-ℤ◌, ◌∙◌, ap, arith}
use Rattle.std.specs.Int.RustNames.{unsigned_abs}
use Rattle.std.proofs.lemmas.Int.{ints, to_z-of_z}
use Rattle.trace_relations.proofs.Telling.{gap_after}
use Rattle.trace_relations.proofs.ticks.nanoseconds_after.Goals as goal

pub returns-then-origin-time : goal.returns-then-origin-time
returns-then-origin-time c =
    let origin = to_z-of_z w128 c.args.origin c.ranges.origin in
    let time = to_z-of_z w128 c.args.time c.ranges.time in
    gap_after c.args.origin c.args.time c.abs_diff.result (omega (arith, ints)) (c.abs_diff.ensures ∙ ap (λ z. unsigned_abs (z -ℤ to_z w128 (of_z w128 c.args.origin))) time ∙ ap (λ z. unsigned_abs (c.args.time -ℤ z)) origin)
