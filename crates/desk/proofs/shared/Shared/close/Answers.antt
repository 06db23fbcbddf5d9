use Rattle.std.proofs.Common.{rules}
use Rattle.session_core.specs.declared.event.Event.TheVariants.{Close}
use Rattle.session_core.specs.TableView.{Books}
use Rattle.desk.proofs.Locking.{stays}
use Rattle.desk.proofs.shared.Shared.close.Goals as goal

pub invariant_of-self-2 : goal.invariant_of-self-2
invariant_of-self-2 g c =
    let t = c.self.inside.table in
    let u = c.close-answer.new.self in
    let booked : Books t c.client.inside.number (Close c.args.session) c.match-answer.reply u = search rules in
    (stays _ t u _ _ _ _ c.client.inside.number (Close c.args.session) c.match-answer.reply c.self.invariant.0 booked c.close-answer.ensures.versions c.keep.ensures.entries, c.self.invariant.1, c.self.invariant.2, c.self.invariant.3)
