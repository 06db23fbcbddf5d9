use Rattle.std.proofs.Common.{◌∙◌, arith, sym}
use Rattle.report_rows.specs.Listings.{row_at}
use Rattle.report_rows.proofs.Taking.{at_the_end, passes, takes}
use Rattle.report_rows.proofs.source.next_stage.Goals as goal

pub loop-index-preserved : goal.loop-index-preserved
loop-index-preserved g c =
    c.loop-index.invariant
    ∙ passes (row_at c.args.listing c.args.version.now c.args.against.now) c.args.places.now c.loop-index.index 0 c.loop-index-test.true (sym c.row_at.ensures ∙ c.in-None.is)

pub returns-in-Some : goal.returns-in-Some
returns-in-Some g c =
    c.loop-index.invariant
    ∙ takes (row_at c.args.listing c.args.version.now c.args.against.now) c.args.places.now c.loop-index.index 0 c.loop-index-test.true _ (sym c.row_at.ensures ∙ c.in-Some.is)

pub returns : goal.returns
returns g c = (
  c.loop-index.invariant ∙ at_the_end (row_at c.args.listing c.args.version.now c.args.against.now) c.args.places.now c.loop-index.index (omega arith),
  at_the_end (row_at c.args.listing c.args.version.now c.args.against.now) c.args.places.now _ (omega arith),
)
