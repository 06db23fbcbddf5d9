use Rattle.session_core.specs.MachineView.{Parts}
use Rattle.session_core.proofs.Spans.{stand_at_versions}
use Rattle.session_core.proofs.machine.Machine.standing.Goals as goal

pub returns : goal.returns
returns g c =
    let m : Parts = record { versions = c.self.inside.versions.items; most = c.self.inside.most; spans = c.self.inside.sessions.entries } in
    rw (← c.self.view_is) (stand_at_versions m c.self.invariant)
