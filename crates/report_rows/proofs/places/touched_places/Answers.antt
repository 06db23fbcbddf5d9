use Rattle.std.proofs.Common.{◌∙◌, ap}
use Rattle.std.proofs.lemmas.Result.{IfOk-weaker}
use Rattle.report_rows.specs.declared.listing.Listing.TheVariants.{Shifts}
use Rattle.report_rows.specs.Listings.{rows_at}
use Rattle.report_rows.proofs.Untouched.{rows_of_touched}
use Rattle.report_rows.proofs.places.touched_places.Goals as goal

pub returns : goal.returns
returns g c =
    IfOk-weaker c.touched_by_place.result _ _
    (λ places found. ap (rows_at Shifts c.args.version.now c.args.version.now) found ∙ rows_of_touched c.args.version.now c.touched.ensures.others)
    c.touched_by_place.ensures
