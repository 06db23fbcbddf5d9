use Rattle.std.proofs.Common.{rules, ◌≡◌, ◌<◌, ◌++◌, ◌∷◌, [], Some, refl, inl, ap, ◌∙◌, sym, subst, arith, List, length, slice_get, length-append}
use Rattle.version_store.specs.Plain.{PlainVersion}
use Rattle.session_core.specs.declared.event.Event.TheVariants.{Commit}
use Rattle.session_core.specs.declared.event.Reply.TheVariants.{Committed}
use Rattle.session_core.specs.Machine.{State, book, numbers_at, added}
use Rattle.session_core.specs.Ready.{PlainReady, IsReady}
use Rattle.session_core.specs.TableView.{TableView, IsVersionOf}
use Rattle.session_core.specs.Log.{entry, opening_of}
use Rattle.session_core.proofs.Legal.{keeps}
use Rattle.session_core.proofs.Standing.{slice_get-end}
use Rattle.session_core.proofs.Commits.{opening-added}
use Rattle.session_core.proofs.table.Table.finish.Goals as goal

more : (xs : List PlainVersion) (v : PlainVersion) → 0 < length (xs ++ v ∷ [])
more xs v = omega (arith, length-append xs (v ∷ []))

pub invariant_of-self : goal.invariant_of-self
invariant_of-self g c =
    let r : PlainReady = record { who = c.ready.inside.who; session = c.ready.inside.session; base = c.ready.inside.base; edits = c.ready.inside.edit; version = c.ready.inside.version } in
    let ready : IsReady c.args.self.now r = subst (IsReady c.args.self.now) (sym c.ready.view_is) c.requires in
    let s : State = c.self.inside.machine.state in
    let list = ready.may.numbers in
    let now : s ≡ c.args.self.now.state = ap (λ (t : TableView). t.state) c.self.view_is in
    let stands : numbers_at s r.session ≡ Some list = ap (λ (t : State). numbers_at t r.session) now ∙ ready.may.stands in
    let is : c.add.new.self.state ≡ added s r.session list r.version = c.add.ensures list stands in
    let step : book s (Commit r.session r.base r.edits) ≡ Some (Committed c.number-number.result, c.add.new.self.state) = search rules in
    let opening : opening_of c.add.new.self.state ≡ opening_of s = ap opening_of is ∙ opening-added s r.session list r.version c.self.invariant.some in
    let some : 0 < length c.add.new.self.state.versions = subst (λ (t : State). 0 < length t.versions) (sym is) (more s.versions r.version) in
    keeps s c.add.new.self.state c.self.inside.history.items c.self.inside.history.items c.push_reserved.new.self.items (entry r.who (Commit r.session r.base r.edits) (Committed c.number-number.result))
    c.self.invariant (inl step) some opening refl c.push_reserved.ensures.items

pub returns-clause-gives : goal.returns-clause-gives
returns-clause-gives g c =
    let r : PlainReady = record { who = c.ready.inside.who; session = c.ready.inside.session; base = c.ready.inside.base; edits = c.ready.inside.edit; version = c.ready.inside.version } in
    let ready : IsReady c.args.self.now r = subst (IsReady c.args.self.now) (sym c.ready.view_is) c.requires in
    let s : State = c.self.inside.machine.state in
    let now : s ≡ c.args.self.now.state = ap (λ (t : TableView). t.state) c.self.view_is in
    let list = ready.may.numbers in
    let stands : numbers_at s r.session ≡ Some list = ap (λ (t : State). numbers_at t r.session) now ∙ ready.may.stands in
    let is : c.add.new.self.state ≡ added s r.session list r.version = c.add.ensures list stands in
    let number : r.version.number ≡ length s.versions = ready.may.number ∙ ap (λ (t : State). length t.versions) (sym now) in
    subst (λ (v : PlainReady). IsVersionOf c.add.new.self.state v.version) c.ready.view_is
    (ap (λ (t : State). slice_get t.versions r.version.number) is ∙ ap (slice_get (s.versions ++ r.version ∷ [])) number ∙ slice_get-end s.versions r.version)
