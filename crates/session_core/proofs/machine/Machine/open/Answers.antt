use Rattle.std.proofs.Common.{◌≡◌, ◌<◌, ◌≤◌, length, true, false, is_some, rules, arith}
use Rattle.session_core.specs.MachineView.{Parts}
use Rattle.session_core.proofs.Spans.{span_at, sound_same, sound_put}
use Rattle.session_core.proofs.Booked.{open_open, open_many, open_nowhere, open_there}
use Rattle.session_core.proofs.machine.Machine.open.Goals as goal

pub returns-then-contains_key-clause-booked : goal.returns-then-contains_key-clause-booked
returns-then-contains_key-clause-booked g c =
    let m : Parts = record { versions = c.self.inside.versions.items; most = c.self.inside.most; spans = c.self.inside.sessions.entries } in
    let some : is_some (span_at m c.args.session) ≡ true = search rules in
    rw (← c.self.view_is)
    (open_open m c.args.session c.args.version (omega (arith, c.if-session-eq0.false)) (omega (arith, c.if-session.false)) some)

pub returns-then-len-ge1024-clause-booked : goal.returns-then-len-ge1024-clause-booked
returns-then-len-ge1024-clause-booked g c =
    let m : Parts = record { versions = c.self.inside.versions.items; most = c.self.inside.most; spans = c.self.inside.sessions.entries } in
    let none : is_some (span_at m c.args.session) ≡ false = search rules in
    rw (← c.self.view_is)
    (open_many m c.args.session c.args.version (omega (arith, c.if-session-eq0.false)) (omega (arith, c.if-session.false)) none (omega (arith, c.if-len-ge1024.true, c.len.ensures.len)))

pub returns-then-version-len-clause-booked : goal.returns-then-version-len-clause-booked
returns-then-version-len-clause-booked g c =
    let m : Parts = record { versions = c.self.inside.versions.items; most = c.self.inside.most; spans = c.self.inside.sessions.entries } in
    let none : is_some (span_at m c.args.session) ≡ false = search rules in
    let high : length m.versions ≤ c.args.version = search rules in
    rw (← c.self.view_is)
    (open_nowhere m c.args.session c.args.version (omega (arith, c.if-session-eq0.false)) (omega (arith, c.if-session.false)) none (omega (arith, c.if-len-ge1024.false, c.len.ensures.len)) high)

pub invariant_of-self : goal.invariant_of-self
invariant_of-self g c =
    let m : Parts = record { versions = c.self.inside.versions.items; most = c.self.inside.most; spans = c.self.inside.sessions.entries } in
    sound_same m c.insert.new.self.entries c.self.invariant c.in_err-insert.ensures.err

pub invariant_of-self-2 : goal.invariant_of-self-2
invariant_of-self-2 g c =
    let m : Parts = record { versions = c.self.inside.versions.items; most = c.self.inside.most; spans = c.self.inside.sessions.entries } in
    let low : c.args.version < length m.versions = search rules in
    sound_put m c.insert.new.self.entries c.args.session (record { bottom = c.args.version; head = c.args.version }) c.self.invariant low low c.in_ok-insert.ensures.entries

pub returns-clause-booked : goal.returns-clause-booked
returns-clause-booked g c =
    let m : Parts = record { versions = c.self.inside.versions.items; most = c.self.inside.most; spans = c.self.inside.sessions.entries } in
    let none : is_some (span_at m c.args.session) ≡ false = search rules in
    let low : c.args.version < length m.versions = search rules in
    rw (← c.self.view_is)
    (open_there m c.args.session c.args.version (omega (arith, c.if-session-eq0.false)) (omega (arith, c.if-session.false)) none (omega (arith, c.if-len-ge1024.false, c.len.ensures.len)) c.insert.new.self.entries low c.in_ok-insert.ensures.entries)
