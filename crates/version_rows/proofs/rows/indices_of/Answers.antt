use Rattle.version_rows.specs.Drawings.{row_index}
use Rattle.version_rows.proofs.Collecting.{collects, next_item}
use Rattle.version_rows.proofs.rows.indices_of.Goals as goal

pub loop-place-preserved : goal.loop-place-preserved
loop-place-preserved c =
    collects _ _ _ _ _ _ c.loop-place.invariant
    (next_item (row_index c.args.lines.now) c.args.path.now c.loop-place.place-index 0 c.row_index.result c.loop-place-test.true c.row_index.ensures)
    c.in_ok-push_index.ensures
