use Rattle.std.proofs.Common.{◌≡◌, ◌∙◌, ◌+◌, ap, arith}
use Rattle.fleet_summary.specs.Histogram.{capped}
use Rattle.fleet_tries.specs.Pieces.{ticks_before, work_ticks}
use Rattle.fleet_tries.proofs.Places.{sum_more}
use Rattle.fleet_tries.proofs.pieces.ticks_before.Goals as goal

pub loop-other-preserved : goal.loop-other-preserved
loop-other-preserved g c =
    let graph = c.args.version.now.graph in
    let work = c.args.work in
    c.saturating_add-sum.ensures
    ∙ ap (λ sum. capped (sum + c.work_ticks.result)) c.loop-other.invariant
    ∙ ap (λ own. capped (ticks_before graph work.stages.now work.time work.span c.loop-other.other + own)) c.work_ticks.ensures
    ∙ sum_more (work_ticks graph work.stages.now work.time work.span) c.loop-other.other

pub returns : goal.returns
returns g c =
    let all : c.loop-other.other ≡ c.args.place = omega (arith, c.loop-other-test.false, c.loop-other.auto.other-end) in
    c.loop-other.invariant ∙ ap (ticks_before c.args.version.now.graph c.args.work.stages.now c.args.work.time c.args.work.span) all
