use Rattle.std.proofs.Common.{◌++◌, arith, drop, ◌+◌, take}
use Rattle.trace_import.specs.Specs.{labelled_stages}
use Rattle.trace_stages.specs.Naming.{plain_stages}
use Rattle.trace_import.proofs.Gaining.{split, stays_too_long}
use Rattle.trace_import.proofs.text.push_stages.Goals as goal

pub returns-then-len-gt-LONGEST-clause-err : goal.returns-then-len-gt-LONGEST-clause-err
returns-then-len-gt-LONGEST-clause-err c = λ head before stood.
    let put = labelled_stages c.args.making.spans.now c.args.making.names.now (plain_stages (take c.loop-stage.stage-index c.args.stages.now)) in
    stays_too_long head before put _ (labelled_stages c.args.making.spans.now c.args.making.names.now (plain_stages (drop (c.loop-stage.stage-index + 1) c.args.stages.now))) _ _
    (c.in_ok-push_stage.ensures head (before ++ put) (c.loop-stage.invariant head before stood))
    (split c.args.making.spans.now c.args.making.names.now c.args.stages.now c.loop-stage.stage-index c.stage-item.result c.stage-item.is c.loop-stage-test.true)
    (omega (arith, c.len.ensures, c.if-len-gt-LONGEST.true))
