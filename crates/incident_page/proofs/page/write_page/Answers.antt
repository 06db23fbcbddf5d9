use Rattle.incident_page.proofs.Escaping.{escaped_has_none}
use Rattle.incident_page.proofs.page.write_page.Goals as goal

pub returns-clause-contained : goal.returns-clause-contained
returns-clause-contained g c =
    escaped_has_none _
