use Rattle.std.proofs.Common.{rules, ◌≡◌, Some}
use Rattle.session_core.specs.declared.event.Event.TheVariants.{Undo}
use Rattle.session_core.specs.Machine.{book}
use Rattle.session_core.proofs.Legal.{keeps_versions}
use Rattle.session_core.proofs.table.Table.undo.Goals as goal

pub invariant_of-self-in_err-answer : goal.invariant_of-self-in_err-answer
invariant_of-self-in_err-answer g c =
    let step : book c.self.inside.machine.state (Undo c.args.session) ≡ Some (c.match-answer.reply, c.undo-answer.new.self.state) = search rules in
    keeps_versions c.self.inside.machine.state c.undo-answer.new.self.state _ _ _ _ c.self.invariant step c.undo-answer.ensures.kept c.reserve.ensures.items c.push_reserved.ensures.items

pub invariant_of-self-2 : goal.invariant_of-self-2
invariant_of-self-2 g c =
    let step : book c.self.inside.machine.state (Undo c.args.session) ≡ Some (c.match-answer.reply, c.undo-answer.new.self.state) = search rules in
    keeps_versions c.self.inside.machine.state c.undo-answer.new.self.state _ _ _ _ c.self.invariant step c.undo-answer.ensures.kept c.reserve.ensures.items c.push_reserved.ensures.items
