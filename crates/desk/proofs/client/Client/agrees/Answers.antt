use Rattle.std.proofs.Common.{◌≡◌, ◌∷◌, ℕ, get_or, ap, sym, ◌∙◌}
use Rattle.session_core.specs.declared.event.Entry.{Entry}
use Rattle.desk.specs.Clients.{ClientView, entries_of}
use Rattle.desk.proofs.Logs.{disagrees}
use Rattle.desk.proofs.client.Client.agrees.Goals as goal

pub returns-in_default : goal.returns-in_default
returns-in_default g c =
    let calls = ap (λ (v : ClientView). v.calls) c.self.view_is in
    let number = ap (λ (v : ClientView). v.number) c.self.view_is in
    let log = c.args.log.now in
    let i = c.loop-entry.entry-index in
    let e = c.entry-item.result in
    let at : e ≡ get_or log i e = c.entry-item.is in
    let mine : (get_or log i e).who ≡ c.self.inside.number = ap (λ (x : Entry). x.who) (sym at) ∙ c.if-entry-self.true in (
      (λ no. absurd (cc no)),
      (λ same. absurd (disagrees c.self.inside.number log c.self.inside.calls.items c.loop-entry.rest.now i e c.loop-entry-test.true mine c.loop-entry.invariant
          (λ later is. c.in_default.ensures later (is ∙ ap (λ (x : Entry). x ∷ later) (sym at)))
          (calls ∙ (same ∙ ap (λ (n : ℕ). entries_of n log) (sym number))))),
    )
