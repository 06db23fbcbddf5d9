use Rattle.std.proofs.Common.{◌∙◌, Option, ap, sym}
use Rattle.incident_page.specs.declared.frame.Script.{Script}
use Rattle.incident_page.specs.Escaped.{escaped}
use Rattle.incident_page.specs.Scripts.{script_data}
use Rattle.incident_page.proofs.InTurn.{of_the_same}
use Rattle.incident_page.proofs.script.write_script.Goals as goal

pub returns-in-Some : goal.returns-in-Some
returns-in-Some g c =
    of_the_same g.S.Sink.held g.S.Sink.failures _ _ _ _ _ (ap (λ (script : Option Script). escaped (script_data script)) (sym c.in-Some.is)) c.write_named_script.ensures

pub returns-in-None : goal.returns-in-None
returns-in-None g c =
    of_the_same g.S.Sink.held g.S.Sink.failures _ _ _ _ _ (ap escaped (c.as_bytes.ensures.value ∙ ap script_data (sym c.in-None.is))) c.write_escaped.ensures.written
