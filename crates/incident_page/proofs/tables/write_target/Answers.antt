use Rattle.std.proofs.Common.{◌∙◌, ℕ, Option, ap, sym}
use Rattle.incident_page.specs.Escaped.{escaped}
use Rattle.incident_page.specs.Pages.{target_data}
use Rattle.incident_page.proofs.InTurn.{of_the_same}
use Rattle.incident_page.proofs.tables.write_target.Goals as goal

pub returns-in-Some : goal.returns-in-Some
returns-in-Some g c =
    of_the_same g.S.Sink.held g.S.Sink.failures _ _ _ _ _ (ap (λ (target : Option ℕ). escaped (target_data c.args.version.now target)) (sym c.in-Some.is)) c.write_of_stage.ensures

pub returns-in-None : goal.returns-in-None
returns-in-None g c =
    of_the_same g.S.Sink.held g.S.Sink.failures _ _ _ _ _ (ap escaped (c.as_bytes.ensures.value ∙ ap (target_data c.args.version.now) (sym c.in-None.is))) c.write_escaped.ensures.written
