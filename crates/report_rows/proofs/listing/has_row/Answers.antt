use Rattle.std.proofs.Common.{◌∙◌, ap, refl}
use Rattle.std.specs.Prelude.{is_some}
use Rattle.report_rows.specs.Listings.{row_of}
use Rattle.report_rows.proofs.Views.{found_of_the_view}
use Rattle.report_rows.proofs.listing.has_row.Goals as goal

pub returns-in-Some : goal.returns-in-Some
returns-in-Some g c =
    c.has_row_of.ensures
    ∙ ap is_some (found_of_the_view _ _ _ _ _ _ c.in-Some.ensures.version c.in-Some.ensures.place c.in-Some.ensures.stage (λ version place stage. row_of c.args.listing version c.args.against.now place stage) _ refl)
