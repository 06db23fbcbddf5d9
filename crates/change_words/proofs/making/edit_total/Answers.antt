use Rattle.std.proofs.Common.{ap, arith}
use Rattle.std.proofs.lemmas.List.Sums.{sum_by_more}
use Rattle.change_words.specs.Changes.{edit_count}
use Rattle.change_words.proofs.making.edit_total.Goals as goal

pub loop-change-preserved : goal.loop-change-preserved
loop-change-preserved c =
    let more = sum_by_more edit_count c.args.changes.now c.loop-change.change-index c.change-item.result c.loop-change-test.true in
    let same = ap edit_count c.change-item.is in
    omega arith
