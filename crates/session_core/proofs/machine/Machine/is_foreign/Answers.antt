use Rattle.std.proofs.Common.{◌≡◌, ◌<◌, ◌≤◌, ◌↔◌, length, true, false, is_some, Some, slice_get, IsTrue, ap, sym, ◌∙◌, rules}
use Rattle.std.proofs.lemmas.Option.{slice_get-get_or, slice_get_past}
use Rattle.session_core.specs.MachineView.{Parts}
use Rattle.session_core.proofs.Spans.{span_at}
use Rattle.session_core.proofs.Foreign.{foreign_not, foreign_nowhere, foreign_by, no_truth, own_not, own_nowhere, own_by}
use Rattle.session_core.proofs.machine.Machine.is_foreign.Goals as goal

pub returns-then-not-contains_key-clause-foreign : goal.returns-then-not-contains_key-clause-foreign
returns-then-not-contains_key-clause-foreign g c =
    let m : Parts = record { versions = c.self.inside.versions.items; most = c.self.inside.most; spans = c.self.inside.sessions.entries } in
    let none : is_some (span_at m c.args.session) ≡ false = search rules in
    rw (← c.self.view_is) (λ no. absurd (no_truth no), λ f. absurd (foreign_not m c.args.session c.args.draft.now none f))

pub returns-then-not-contains_key-clause-own : goal.returns-then-not-contains_key-clause-own
returns-then-not-contains_key-clause-own g c =
    let m : Parts = record { versions = c.self.inside.versions.items; most = c.self.inside.most; spans = c.self.inside.sessions.entries } in
    let none : is_some (span_at m c.args.session) ≡ false = search rules in
    rw (← c.self.view_is) (λ _. own_not m c.args.session c.args.draft.now none)

pub returns-then-base-len-clause-foreign : goal.returns-then-base-len-clause-foreign
returns-then-base-len-clause-foreign g c =
    let m : Parts = record { versions = c.self.inside.versions.items; most = c.self.inside.most; spans = c.self.inside.sessions.entries } in
    let high : length m.versions ≤ c.args.draft.now.origin.number = search rules in
    rw (← c.self.view_is) (λ no. absurd (no_truth no), λ f. absurd (foreign_nowhere m c.args.session c.args.draft.now (slice_get_past m.versions c.args.draft.now.origin.number high) f))

pub returns-then-base-len-clause-own : goal.returns-then-base-len-clause-own
returns-then-base-len-clause-own g c =
    let m : Parts = record { versions = c.self.inside.versions.items; most = c.self.inside.most; spans = c.self.inside.sessions.entries } in
    let high : length m.versions ≤ c.args.draft.now.origin.number = search rules in
    rw (← c.self.view_is) (λ _. own_nowhere m c.args.session c.args.draft.now (slice_get_past m.versions c.args.draft.now.origin.number high))

pub returns-clause-foreign : goal.returns-clause-foreign
returns-clause-foreign g c =
    let m : Parts = record { versions = c.self.inside.versions.items; most = c.self.inside.most; spans = c.self.inside.sessions.entries } in
    let some : is_some (span_at m c.args.session) ≡ true = search rules in
    let low : c.args.draft.now.origin.number < length m.versions = search rules in
    let at : slice_get m.versions c.args.draft.now.origin.number ≡ Some c.index.result.now =
    slice_get-get_or m.versions c.args.draft.now.origin.number c.index.result.now low ∙ ap Some (sym (rw (sym c.base-base.ensures) c.index.ensures)) in
    let same : IsTrue c.same.result ↔ (c.index.result.now.graph ≡ c.args.draft.now.origin.graph) = rw (sym c.graph.ensures.graph, sym c.base_graph.ensures) c.same.ensures in
    rw (← c.self.view_is) (foreign_by m c.args.session c.args.draft.now c.index.result.now at c.same.result some same)

pub returns-clause-own : goal.returns-clause-own
returns-clause-own g c =
    let m : Parts = record { versions = c.self.inside.versions.items; most = c.self.inside.most; spans = c.self.inside.sessions.entries } in
    let low : c.args.draft.now.origin.number < length m.versions = search rules in
    let at : slice_get m.versions c.args.draft.now.origin.number ≡ Some c.index.result.now =
    slice_get-get_or m.versions c.args.draft.now.origin.number c.index.result.now low ∙ ap Some (sym (rw (sym c.base-base.ensures) c.index.ensures)) in
    let same : IsTrue c.same.result ↔ (c.index.result.now.graph ≡ c.args.draft.now.origin.graph) = rw (sym c.graph.ensures.graph, sym c.base_graph.ensures) c.same.ensures in
    rw (← c.self.view_is) (own_by m c.args.session c.args.draft.now c.index.result.now at c.same.result same)
