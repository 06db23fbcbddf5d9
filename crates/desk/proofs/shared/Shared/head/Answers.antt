use Rattle.std.proofs.Common.{rules, ◌≡◌, Some, List, slice_get, sym, ◌∙◌, subst}
use Rattle.session_core.specs.declared.event.Event.TheVariants.{Head}
use Rattle.session_core.specs.declared.event.Reply.TheVariants.{At, Refused}
use Rattle.session_core.specs.TableView.{Books}
use Rattle.version_store.specs.Plain.{PlainVersion}
use Rattle.desk.specs.Clients.{HasSeen}
use Rattle.desk.proofs.Fronts.{prefix_get}
use Rattle.desk.proofs.Locking.{stays, sees_named}
use Rattle.desk.proofs.shared.Shared.head.Goals as goal

pub invariant_of-self : goal.invariant_of-self
invariant_of-self g c =
    let t = c.self.inside.table in
    let u = c.head.new.self in
    let reply = At c.in-Ok.version.number in
    let booked : Books t c.client.inside.number (Head c.args.session) reply u = search rules in
    (stays _ t u _ _ _ _ c.client.inside.number (Head c.args.session) reply c.self.invariant.0 booked c.head.ensures.versions c.keep.ensures.entries, c.self.invariant.1, c.self.invariant.2, c.self.invariant.3)

pub invariant_of-self-in-Err-Refused : goal.invariant_of-self-in-Err-Refused
invariant_of-self-in-Err-Refused g c =
    let t = c.self.inside.table in
    let u = c.head.new.self in
    let reply = Refused c.in-Err-Refused.refusal in
    let booked : Books t c.client.inside.number (Head c.args.session) reply u = search rules in
    (stays _ t u _ _ _ _ c.client.inside.number (Head c.args.session) reply c.self.invariant.0 booked c.head.ensures.versions c.keep-in-Err-Refused.ensures.entries, c.self.invariant.1, c.self.invariant.2, c.self.invariant.3)

pub returns-in-Ok-clause-named : goal.returns-in-Ok-clause-named
returns-in-Ok-clause-named g c =
    let t = c.self.inside.table in
    let u = c.head.new.self in
    let reply = At c.in-Ok.version.number in
    let booked : Books t c.client.inside.number (Head c.args.session) reply u = search rules in
    let seen : HasSeen c.keep.new.client reply = sees_named c.keep.new.client t.state u.state (Head c.args.session) reply c.self.inside.front booked.0 c.history.ensures.standing (c.self.invariant.0.listed_is ∙ sym c.head.ensures.versions) c.keep.ensures.learns in
    rw c.new.ensures seen

pub returns-in-Ok-clause-gives : goal.returns-in-Ok-clause-gives
returns-in-Ok-clause-gives g c =
    let v = c.in-Ok.version in
    let listed = c.self.invariant.0.listed_is ∙ sym c.head.ensures.versions in
    let there : slice_get c.self.inside.front v.number ≡ Some v = subst (λ (vs : List PlainVersion). slice_get vs v.number ≡ Some v) (sym listed) c.in-Ok.ensures.gives in
    rw c.new.ensures (prefix_get c.self.inside.front c.keep.new.client.seen v.number v c.keep.ensures.learns there)
