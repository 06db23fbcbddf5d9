use Rattle.std.proofs.Common.{◌≡◌, ◌-◌, arith, length, rules}
use Rattle.trace_relations.proofs.ClockFinding.{clock_kept}
use Rattle.trace_relations.proofs.Finding.{got}
use Rattle.trace_relations.proofs.clocks.clock_before.Goals as goal

pub returns-in-Some : goal.returns-in-Some
returns-in-Some c = λ all are.
    let before = c.args.before.now in
    let same : c.index-before-last.result.clock ≡ c.args.span.now.clock = search rules in
    clock_kept all before c.args.clocks.now (length before - 1) c.in-Some.clock.now c.index-before-last.result c.args.span.now are (omega arith) c.index-before-last.is (got c.args.clocks.now (length before - 1) c.in-Some.clock c.in-Some.ensures.lookup) same
