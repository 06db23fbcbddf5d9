use Rattle.std.proofs.Common.{rules, refl, sym, ◌∙◌}
use Rattle.session_core.specs.declared.event.Reply.TheVariants.{Refused}
use Rattle.session_core.specs.TableView.{Books, commit_of}
use Rattle.desk.proofs.Telling.{told, declines}
use Rattle.desk.proofs.Locking.{stays, same_locked, sees_named}
use Rattle.desk.proofs.shared.Shared.commit.Goals as goal

pub invariant_of-self : goal.invariant_of-self
invariant_of-self g c =
    let t = c.self.inside.table in
    let u = c.prepare.new.self in
    (same_locked _ t u c.self.inside.front _ c.self.inside.entries.total c.self.invariant.0 c.in-Ok.ensures.0.0 c.in-Ok.ensures.0.1, c.self.invariant.1, c.self.invariant.2, c.self.invariant.3)

pub invariant_of-self-in-Err-Refused : goal.invariant_of-self-in-Err-Refused
invariant_of-self-in-Err-Refused g c =
    let t = c.self.inside.table in
    let u = c.prepare.new.self in
    let event = commit_of c.args.session c.args.draft.now in
    let reply = Refused c.in-Err-Refused.refusal in
    let booked : Books t c.client.inside.number event reply u = search rules in
    let same = (told t.state event reply u.state booked.0).keeps c.in-Err-Refused.refusal refl in
    (stays _ t u _ _ _ _ c.client.inside.number event reply c.self.invariant.0 booked same c.keep.ensures.entries, c.self.invariant.1, c.self.invariant.2, c.self.invariant.3)

pub returns-in-Err-Refused-clause-named : goal.returns-in-Err-Refused-clause-named
returns-in-Err-Refused-clause-named g c =
    let t = c.self.inside.table in
    let u = c.prepare.new.self in
    let event = commit_of c.args.session c.args.draft.now in
    let reply = Refused c.in-Err-Refused.refusal in
    let booked : Books t c.client.inside.number event reply u = search rules in
    let same = (told t.state event reply u.state booked.0).keeps c.in-Err-Refused.refusal refl in
    sees_named c.keep.new.client t.state u.state event reply c.self.inside.front booked.0 c.history.ensures.standing (c.self.invariant.0.listed_is ∙ sym same) c.keep.ensures.learns

pub returns-in-Err-Refused-clause-refused : goal.returns-in-Err-Refused-clause-refused
returns-in-Err-Refused-clause-refused g c =
    let t = c.self.inside.table in
    let u = c.prepare.new.self in
    let reply = Refused c.in-Err-Refused.refusal in
    let booked : Books t c.client.inside.number (commit_of c.args.session c.args.draft.now) reply u = search rules in
    declines t.state c.args.session c.args.draft.now.origin.number c.args.draft.now.origin.edits c.in-Err-Refused.refusal u.state booked.0
