use Rattle.std.proofs.Common.{◌≡◌, length, Option, Some, None, refl, sym, ap, ◌∙◌}
use Rattle.std.specs.Option.{option_map}
use Rattle.version_store.specs.Plain.{parent_of}
use Rattle.session_core.specs.Machine.{State, Numbers, numbers_at}
use Rattle.session_core.specs.MachineView.{MachineView, Parts, state_of}
use Rattle.session_core.proofs.Added.{add_some, add_sound}
use Rattle.session_core.proofs.Spans.{numbers}
use Rattle.session_core.proofs.machine.Machine.add.Goals as goal

some_not_none : {X : Type 0} (x : X) → Some x ≡ None → ⊥
some_not_none x e = cc e

pub unreachable-requires : goal.unreachable-requires
unreachable-requires g c =
    let m : Parts = record { versions = c.self.inside.versions.items; most = c.self.inside.most; spans = c.self.inside.sessions.entries } in
    let now : state_of m ≡ c.args.self.now.state = ap (λ (v : MachineView). v.state) c.self.view_is in
    some_not_none c.requires.may.numbers (sym c.requires.may.stands ∙ ap (λ (s : State). numbers_at s c.args.session) (sym now) ∙ numbers m c.args.session None (sym c.in_default.ensures.value))

pub invariant_of-self : goal.invariant_of-self
invariant_of-self g c =
    let m : Parts = record { versions = c.self.inside.versions.items; most = c.self.inside.most; spans = c.self.inside.sessions.entries } in
    let n : Parts = record { versions = c.push_reserved.new.self.items; most = c.self.inside.most; spans = c.stand.new.sessions.entries } in
    let now : state_of m ≡ c.args.self.now.state = ap (λ (v : MachineView). v.state) c.self.view_is in
    let stands : numbers_at (state_of m) c.args.session ≡ Some c.requires.may.numbers = ap (λ (s : State). numbers_at s c.args.session) now ∙ c.requires.may.stands in
    let number : c.args.version.number ≡ length m.versions = c.requires.may.number ∙ ap (λ (s : State). length s.versions) (sym now) in
    add_sound m n c.args.session c.in-Some.field-0.now c.args.version c.requires.may.numbers
    c.self.invariant (sym c.in-Some.ensures.value) stands number c.requires.may.parent c.push_reserved.ensures.items refl (rw (sym c.number-head.ensures) c.stand.ensures)

pub returns : goal.returns
returns g c list is =
    let m : Parts = record { versions = c.self.inside.versions.items; most = c.self.inside.most; spans = c.self.inside.sessions.entries } in
    let n : Parts = record { versions = c.push_reserved.new.self.items; most = c.self.inside.most; spans = c.stand.new.sessions.entries } in
    let now : state_of m ≡ c.args.self.now.state = ap (λ (v : MachineView). v.state) c.self.view_is in
    let parent : parent_of c.args.version ≡ Some list.head = c.requires.may.parent ∙ ap (λ (l : Option Numbers). option_map (λ (n : Numbers). n.head) l) (sym c.requires.may.stands ∙ is) in
    let stands : numbers_at (state_of m) c.args.session ≡ Some list = ap (λ (s : State). numbers_at s c.args.session) now ∙ is in
    let number : c.args.version.number ≡ length m.versions = c.requires.may.number ∙ ap (λ (s : State). length s.versions) (sym now) in
    rw (← c.self.view_is) (add_some m n c.args.session c.in-Some.field-0.now c.args.version list
    c.self.invariant (sym c.in-Some.ensures.value) stands number parent c.push_reserved.ensures.items refl (rw (sym c.number-head.ensures) c.stand.ensures))
