use Rattle.version_rows.proofs.Lined.{grows, next_lines}
use Rattle.version_rows.proofs.line.headed.Goals as goal

pub loop-candidate-preserved : goal.loop-candidate-preserved
loop-candidate-preserved c =
    grows _ _ _ _ _ _ c.loop-candidate.invariant
    (next_lines c.loop-candidate.before c.args.grouped.now c.loop-candidate.candidate-index _ c.loop-candidate-test.true)
    c.in_ok-push_lines.ensures
