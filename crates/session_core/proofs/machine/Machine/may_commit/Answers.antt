use Rattle.std.proofs.Common.{◌≡◌, ◌<◌, ◌≤◌, ◌==◌, length, true, false, sym, rules, arith}
use Rattle.std.proofs.lemmas.Bool.Decides.{nat_tests}
use Rattle.session_core.specs.MachineView.{Parts}
use Rattle.session_core.proofs.Booked.{commit_none, commit_nowhere, commit_moved, commit_full, at_base}
use Rattle.session_core.proofs.machine.Machine.may_commit.Goals as goal

pub returns-in_default : goal.returns-in_default
returns-in_default g c =
    let m : Parts = record { versions = c.self.inside.versions.items; most = c.self.inside.most; spans = c.self.inside.sessions.entries } in
    rw (← c.self.view_is) (commit_none m c.args.session c.args.draft.now.origin.number c.args.draft.now.origin.edits (sym c.in_default.ensures.value))

pub returns-then-base-len : goal.returns-then-base-len
returns-then-base-len g c =
    let m : Parts = record { versions = c.self.inside.versions.items; most = c.self.inside.most; spans = c.self.inside.sessions.entries } in
    let high : length m.versions ≤ c.args.draft.now.origin.number = search rules in
    rw (← c.self.view_is) (commit_nowhere m c.args.session c.args.draft.now.origin.number c.args.draft.now.origin.edits c.in-Some.span.now (sym c.in-Some.ensures.value) high)

pub returns-then-span-base : goal.returns-then-span-base
returns-then-span-base g c =
    let m : Parts = record { versions = c.self.inside.versions.items; most = c.self.inside.most; spans = c.self.inside.sessions.entries } in
    let low : c.args.draft.now.origin.number < length m.versions = search rules in
    let apart : (c.in-Some.span.now.head == c.args.draft.now.origin.number) ≡ false = let no = c.if-span-base.true in let e = c.base-2.ensures in grind (arith, nat_tests) in
    rw (← c.self.view_is) (commit_moved m c.args.session c.args.draft.now.origin.number c.args.draft.now.origin.edits c.in-Some.span.now (sym c.in-Some.ensures.value) low apart)

pub returns-then-len-self : goal.returns-then-len-self
returns-then-len-self g c =
    let m : Parts = record { versions = c.self.inside.versions.items; most = c.self.inside.most; spans = c.self.inside.sessions.entries } in
    let low : c.args.draft.now.origin.number < length m.versions = search rules in
    let here : (c.in-Some.span.now.head == c.args.draft.now.origin.number) ≡ true = let is = c.if-span-base.false in let e = c.base-2.ensures in grind (arith, nat_tests) in
    let many : m.most ≤ length m.versions = search rules in
    rw (← c.self.view_is) (commit_full m c.args.session c.args.draft.now.origin.number c.args.draft.now.origin.edits c.in-Some.span.now (sym c.in-Some.ensures.value) low here many)

pub returns : goal.returns
returns g c =
    let m : Parts = record { versions = c.self.inside.versions.items; most = c.self.inside.most; spans = c.self.inside.sessions.entries } in
    let low : c.args.draft.now.origin.number < length m.versions = search rules in
    let here : c.in-Some.span.now.head ≡ c.args.draft.now.origin.number = search rules in
    let few : length m.versions < m.most = search rules in
    rw (← c.self.view_is) (at_base m c.args.session c.args.draft.now.origin.number c.args.draft.now.origin.edits c.in-Some.span.now (sym c.in-Some.ensures.value) low here few)
