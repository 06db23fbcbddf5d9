use Rattle.std.proofs.Common.{arith, refl}
use Rattle.recording_text.proofs.Lines.{next_lines, on_err, stops_in_next, writes_on}
use Rattle.recording_text.proofs.writing.write_stages.Goals as goal

pub returns-in_err-later-clause-err : goal.returns-in_err-later-clause-err
returns-in_err-later-clause-err g c =
    on_err _ (stops_in_next _ _ _ _ _ _ _ c.loop-place.invariant.appended
    (next_lines c.args.graph.now.places c.loop-place.later _ c.loop-place.place (let ends = c.loop-place.invariant.ends in let before = c.loop-place-test.true in omega (arith, ends, before)) refl)
    c.in_err-later.ensures.err)

pub loop-place-preserved : goal.loop-place-preserved
loop-place-preserved g c = record {
  appended = writes_on _ _ _ _ _ _ _ c.loop-place.invariant.appended
      (next_lines c.args.graph.now.places c.loop-place.later _ c.loop-place.place (let ends = c.loop-place.invariant.ends in let before = c.loop-place-test.true in omega (arith, ends, before)) c.in_ok-later.ensures.stood)
      c.in_ok-later.ensures.ok;
  unfailed = let more = c.in_ok-later.ensures.failures in let before = c.loop-place.invariant.unfailed in grind (arith, more, before);
  ends = c.loop-place.invariant.ends;
}
