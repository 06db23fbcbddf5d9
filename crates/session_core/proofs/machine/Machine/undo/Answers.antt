use Rattle.std.proofs.Common.{◌≡◌, ◌==◌, false, Some, slice_get, ap, sym, ◌∙◌, arith, rules}
use Rattle.std.proofs.lemmas.Bool.Decides.{nat_tests}
use Rattle.std.proofs.lemmas.Option.{slice_get-get_or}
use Rattle.session_core.specs.MachineView.{Parts}
use Rattle.session_core.proofs.Spans.{parent_is, falls_below, span_low, sound_put}
use Rattle.session_core.proofs.Booked.{undo_none, undo_bottom, undo_orphan, undo_parent}
use Rattle.session_core.proofs.machine.Machine.undo.Goals as goal

pub returns-in_default-clause-booked : goal.returns-in_default-clause-booked
returns-in_default-clause-booked g c =
    let m : Parts = record { versions = c.self.inside.versions.items; most = c.self.inside.most; spans = c.self.inside.sessions.entries } in
    rw (← c.self.view_is) (undo_none m c.args.session (sym c.in_default.ensures.value))

pub returns-then-span-clause-booked : goal.returns-then-span-clause-booked
returns-then-span-clause-booked g c =
    let m : Parts = record { versions = c.self.inside.versions.items; most = c.self.inside.most; spans = c.self.inside.sessions.entries } in
    rw (← c.self.view_is) (undo_bottom m c.args.session c.in-Some.field-0.now (sym c.in-Some.ensures.value) c.if-span.true)

pub index-requires : goal.index-requires
index-requires g c =
    let m : Parts = record { versions = c.self.inside.versions.items; most = c.self.inside.most; spans = c.self.inside.sessions.entries } in
    let low = (span_low m c.args.session c.in-Some.field-0.now c.self.invariant (sym c.in-Some.ensures.value)).1 in
    search rules

pub returns-in_default-parent-clause-booked : goal.returns-in_default-parent-clause-booked
returns-in_default-parent-clause-booked g c =
    let m : Parts = record { versions = c.self.inside.versions.items; most = c.self.inside.most; spans = c.self.inside.sessions.entries } in
    let at = c.in-Some.field-0.now in
    let low = (span_low m c.args.session at c.self.invariant (sym c.in-Some.ensures.value)).1 in
    let found : slice_get m.versions at.head ≡ Some c.index.result.now = slice_get-get_or m.versions at.head c.index.result.now low ∙ ap Some (sym c.index.ensures) in
    rw (← c.self.view_is)
    (undo_orphan m c.args.session at (sym c.in-Some.ensures.value) (parent_is m at.head c.index.result.now found ∙ sym c.in_default-parent.ensures))

pub returns-clause-booked : goal.returns-clause-booked
returns-clause-booked g c =
    let m : Parts = record { versions = c.self.inside.versions.items; most = c.self.inside.most; spans = c.self.inside.sessions.entries } in
    let at = c.in-Some.field-0.now in
    let low = (span_low m c.args.session at c.self.invariant (sym c.in-Some.ensures.value)).1 in
    let found : slice_get m.versions at.head ≡ Some c.index.result.now = slice_get-get_or m.versions at.head c.index.result.now low ∙ ap Some (sym c.index.ensures) in
    let apart : (at.head == at.bottom) ≡ false = let no = c.if-span.false in grind (arith, nat_tests) in
    rw (← c.self.view_is)
    (undo_parent m c.stand.new.sessions.entries c.args.session at c.in-Some-parent.parent c.self.invariant (sym c.in-Some.ensures.value) apart
    (parent_is m at.head c.index.result.now found ∙ sym c.in-Some-parent.ensures) c.stand.ensures)

pub invariant_of-self : goal.invariant_of-self
invariant_of-self g c =
    let m : Parts = record { versions = c.self.inside.versions.items; most = c.self.inside.most; spans = c.self.inside.sessions.entries } in
    let at = c.in-Some.field-0.now in
    let spans = span_low m c.args.session at c.self.invariant (sym c.in-Some.ensures.value) in
    let found : slice_get m.versions at.head ≡ Some c.index.result.now = slice_get-get_or m.versions at.head c.index.result.now spans.1 ∙ ap Some (sym c.index.ensures) in
    sound_put m c.stand.new.sessions.entries c.args.session (record { bottom = at.bottom; head = c.in-Some-parent.parent }) c.self.invariant spans.0
    (falls_below m at.head c.in-Some-parent.parent c.self.invariant spans.1 (parent_is m at.head c.index.result.now found ∙ sym c.in-Some-parent.ensures)) c.stand.ensures
