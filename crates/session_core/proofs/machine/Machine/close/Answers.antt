use Rattle.std.proofs.Common.{sym}
use Rattle.session_core.specs.MachineView.{Parts}
use Rattle.session_core.proofs.Booked.{close_none, close_some}
use Rattle.session_core.proofs.Spans.{sound_same, sound_removed}
use Rattle.session_core.proofs.machine.Machine.close.Goals as goal

pub returns-clause-booked : goal.returns-clause-booked
returns-clause-booked g c =
    let m : Parts = record { versions = c.self.inside.versions.items; most = c.self.inside.most; spans = c.self.inside.sessions.entries } in
    rw (← c.self.view_is) (close_some m c.remove.new.self.entries c.args.session c.in-Some.field-0 (sym c.in-Some.ensures.value) c.remove.ensures.entries)

pub invariant_of-self-2 : goal.invariant_of-self-2
invariant_of-self-2 g c =
    let m : Parts = record { versions = c.self.inside.versions.items; most = c.self.inside.most; spans = c.self.inside.sessions.entries } in
    sound_removed m c.remove.new.self.entries c.args.session c.self.invariant c.remove.ensures.entries

pub returns-in_default-clause-booked : goal.returns-in_default-clause-booked
returns-in_default-clause-booked g c =
    let m : Parts = record { versions = c.self.inside.versions.items; most = c.self.inside.most; spans = c.self.inside.sessions.entries } in
    rw (← c.self.view_is) (close_none m c.remove.new.self.entries c.args.session (sym c.in_default.ensures.value) c.in_default.ensures.unchanged)

pub invariant_of-self : goal.invariant_of-self
invariant_of-self g c =
    let m : Parts = record { versions = c.self.inside.versions.items; most = c.self.inside.most; spans = c.self.inside.sessions.entries } in
    sound_same m c.remove.new.self.entries c.self.invariant c.in_default.ensures.unchanged
