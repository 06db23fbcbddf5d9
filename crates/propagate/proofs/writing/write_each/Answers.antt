use Rattle.std.proofs.Common.{◌<◌, length, sym, ◌∙◌, arith}
use Rattle.std.proofs.Math.ListN.{length-set}
use Rattle.propagate.proofs.Writes.{drop_set, written_none, written_some, written_end}
use Rattle.propagate.proofs.writing.write_each.Goals as goal
use Rattle.propagate.proofs.writing.write_each.Goals.{in-Some+in_ok-write, in_default}

pub loop-at-preserved : goal.loop-at-preserved
loop-at-preserved g c =
    let items = g.K.Keeps.items in
    let there : c.loop-at.at < length c.loop-at.others = omega (arith, c.requires.each, c.loop-at.auto.others, c.loop-at-test.true) in
    elim c.match-take.branch [
      | in-Some+in_ok-write w ↦ record {
        count = rw (w.list-is, w.in_ok-write.ensures.ok) (length-set _ _ _ ∙ c.loop-at.invariant.count);
        same = rw (w.list-is, w.in_ok-write.ensures.ok, drop_set) (
            written_some (items c.loop-at.list) c.args.places.now c.loop-at.others c.loop-at.at w.in-Some.item c.index-others-at.result c.loop-at-test.true there (sym w.in-Some.is ∙ c.take.ensures.value)
            ∙ c.loop-at.invariant.same
            );
      }
      | in_default w ↦ record {
        count = rw w.list-is c.loop-at.invariant.count;
        same = rw (w.list-is, drop_set) (
            written_none (items c.loop-at.list) c.args.places.now c.loop-at.others c.loop-at.at c.index-others-at.result c.loop-at-test.true there (sym w.in_default.is ∙ c.take.ensures.value)
            ∙ c.loop-at.invariant.same
            );
      }
    ]

pub returns : goal.returns
returns g c =
    sym (written_end _ c.args.places.now c.loop-at.others c.loop-at.at c.loop-at-test.false)
    ∙ c.loop-at.invariant.same
