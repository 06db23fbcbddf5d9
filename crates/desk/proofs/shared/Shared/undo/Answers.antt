use Rattle.std.proofs.Common.{rules, sym, ◌∙◌}
use Rattle.session_core.specs.declared.event.Event.TheVariants.{Undo}
use Rattle.session_core.specs.TableView.{Books}
use Rattle.desk.specs.Clients.{HasSeen}
use Rattle.desk.proofs.Locking.{stays, sees_named}
use Rattle.desk.proofs.shared.Shared.undo.Goals as goal

pub invariant_of-self-2 : goal.invariant_of-self-2
invariant_of-self-2 g c =
    let t = c.self.inside.table in
    let u = c.undo-answer.new.self in
    let booked : Books t c.client.inside.number (Undo c.args.session) c.match-answer.reply u = search rules in
    (stays _ t u _ _ _ _ c.client.inside.number (Undo c.args.session) c.match-answer.reply c.self.invariant.0 booked c.undo-answer.ensures.versions c.keep.ensures.entries, c.self.invariant.1, c.self.invariant.2, c.self.invariant.3)

pub returns-clause-named : goal.returns-clause-named
returns-clause-named g c =
    let t = c.self.inside.table in
    let u = c.undo-answer.new.self in
    let booked : Books t c.client.inside.number (Undo c.args.session) c.match-answer.reply u = search rules in
    let seen : HasSeen c.keep.new.client c.match-answer.reply = sees_named c.keep.new.client t.state u.state (Undo c.args.session) c.match-answer.reply c.self.inside.front booked.0 c.history.ensures.standing (c.self.invariant.0.listed_is ∙ sym c.undo-answer.ensures.versions) c.keep.ensures.learns in
    search rules
