use Rattle.tried_changes.specs.Last.{final_of}
use Rattle.report_rows.proofs.Views.{found_of_the_view}
use Rattle.tried_changes.proofs.last.final_moment.Goals as goal

pub returns-in-Some : goal.returns-in-Some
returns-in-Some g c =
    found_of_the_view _ _ _ _ _ _ c.in-Some.ensures.version c.in-Some.ensures.place c.in-Some.ensures.stage (λ version place stage. final_of version.graph place) _ c.final_of.ensures
