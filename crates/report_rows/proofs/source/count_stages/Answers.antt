use Rattle.std.proofs.Common.{arith, ap, length, sym, ◌∙◌}
use Rattle.report_rows.specs.Listings.{row_at}
use Rattle.report_rows.proofs.Taking.{at_the_end, counts, counts_none}
use Rattle.report_rows.proofs.source.count_stages.Goals as goal
use Rattle.report_rows.proofs.source.count_stages.Goals.{then-has_row, else-has_row}

pub loop-index-preserved : goal.loop-index-preserved
loop-index-preserved g c =
    elim c.if-has_row.branch [
      | then-has_row w ↦ record {
        counted =
            let before = c.loop-index.invariant.counted in
            let more = w.count-is in
            let one = counts (row_at c.args.listing c.args.version.now c.args.against.now) c.args.places.now c.loop-index.index 0 c.loop-index-test.true (sym c.has_row.ensures ∙ w.if-has_row.true) in
            omega (arith, before, more, one);
        bounded = let before = c.loop-index.invariant.bounded in let more = w.count-is in omega (arith, before, more);
      }
      | else-has_row w ↦ record {
        counted =
            let before = c.loop-index.invariant.counted in
            let same = w.count-is in
            let none = counts_none (row_at c.args.listing c.args.version.now c.args.against.now) c.args.places.now c.loop-index.index 0 c.loop-index-test.true (sym c.has_row.ensures ∙ w.if-has_row.false) in
            omega (arith, before, same, none);
        bounded = let before = c.loop-index.invariant.bounded in let same = w.count-is in omega (arith, before, same);
      }
    ]

pub returns : goal.returns
returns g c =
    let before = c.loop-index.invariant.counted in
    let none = ap length (at_the_end (row_at c.args.listing c.args.version.now c.args.against.now) c.args.places.now c.loop-index.index (omega arith)) in
    omega (arith, before, none)
