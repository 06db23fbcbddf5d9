use Rattle.std.proofs.Common.{ap, codes}
use Rattle.incident_page.specs.Data.{text_json}
use Rattle.incident_page.proofs.InTurn.{behind_one}
use Rattle.incident_page.proofs.members.write_name.Goals as goal

pub returns : goal.returns
returns g c =
    behind_one g.S.Sink.held g.S.Sink.failures _ _ _ (codes ",\"stage\":") _ _ (ap text_json c.name_of.ensures) c.write_text.ensures
