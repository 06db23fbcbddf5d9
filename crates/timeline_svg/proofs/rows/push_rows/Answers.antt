use Rattle.std.proofs.Common.{◌++◌, ◌∙◌, ap}
use Rattle.std.specs.Prelude.{string_bytes}
use Rattle.timeline_svg.specs.RowTexts.{row_text}
use Rattle.timeline_svg.proofs.RowsLeft.{next_row}
use Rattle.timeline_svg.proofs.Texts.{goes_on}
use Rattle.timeline_svg.proofs.rows.push_rows.Goals as goal

pub loop-index-preserved : goal.loop-index-preserved
loop-index-preserved c =
    goes_on _ _ _ _ _ _ c.loop-index.invariant
    (next_row c.args.scale.now c.args.rows.now c.loop-index.index c.index-rows-index.result c.index-rows-index.is c.loop-index-test.true)
    (c.in_ok-push_row.ensures ∙ ap (λ top. string_bytes c.loop-index.line ++ row_text c.args.scale.now top c.index-rows-index.result) c.row_y.ensures)
