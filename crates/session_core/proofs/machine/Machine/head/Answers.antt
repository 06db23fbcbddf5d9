use Rattle.std.proofs.Common.{Some, ap, sym, ◌∙◌, rules}
use Rattle.std.proofs.lemmas.Option.{slice_get-get_or}
use Rattle.session_core.specs.MachineView.{Parts}
use Rattle.session_core.proofs.Booked.{head_none, head_some}
use Rattle.session_core.proofs.Spans.{span_low}
use Rattle.session_core.proofs.machine.Machine.head.Goals as goal

pub index-requires : goal.index-requires
index-requires g c =
    let m : Parts = record { versions = c.self.inside.versions.items; most = c.self.inside.most; spans = c.self.inside.sessions.entries } in
    let low = (span_low m c.args.session c.in-Some.span.now c.self.invariant (sym c.in-Some.ensures.value)).1 in
    search rules

pub returns-in-Some : goal.returns-in-Some
returns-in-Some g c =
    let m : Parts = record { versions = c.self.inside.versions.items; most = c.self.inside.most; spans = c.self.inside.sessions.entries } in
    let low = (span_low m c.args.session c.in-Some.span.now c.self.invariant (sym c.in-Some.ensures.value)).1 in
    rw (← c.self.view_is) (head_some m c.args.session c.in-Some.span.now c.index.result.now c.self.invariant (sym c.in-Some.ensures.value)
    (slice_get-get_or m.versions c.in-Some.span.now.head c.index.result.now low ∙ ap Some (sym c.index.ensures)))

pub returns-in-None : goal.returns-in-None
returns-in-None g c =
    let m : Parts = record { versions = c.self.inside.versions.items; most = c.self.inside.most; spans = c.self.inside.sessions.entries } in
    rw (← c.self.view_is) (head_none m c.args.session (sym c.in-None.ensures.value))
