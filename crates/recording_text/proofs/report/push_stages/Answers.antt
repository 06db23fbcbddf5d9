use Rattle.std.proofs.Common.{arith}
use Rattle.recording_text.proofs.Lines.{next_tokens}
use Rattle.recording_text.proofs.report.push_stages.Goals as goal

pub loop-place-preserved : goal.loop-place-preserved
loop-place-preserved g c =
    let ends = c.loop-place.invariant.ends in
    let before = c.loop-place-test.true in
    record {
      pushed = next_tokens c.args.graph.now.places c.loop-place.place c.loop-place.line c.push_place.new.line _ (omega (arith, ends, before)) c.loop-place.invariant.pushed c.in_ok-push_place.ensures;
      ends = ends;
    }
