use Rattle.std.proofs.Common.{rules, ◌≡◌, Some}
use Rattle.session_core.specs.declared.event.Event.TheVariants.{Open}
use Rattle.session_core.specs.Machine.{book}
use Rattle.session_core.proofs.Legal.{keeps_versions}
use Rattle.session_core.proofs.table.Table.open.Goals as goal

pub invariant_of-self-in_err-answer-2 : goal.invariant_of-self-in_err-answer-2
invariant_of-self-in_err-answer-2 g c =
    let step : book c.self.inside.machine.state (Open c.args.session c.args.version) ≡ Some (c.match-answer.reply, c.open.new.self.state) = search rules in
    keeps_versions c.self.inside.machine.state c.open.new.self.state _ _ _ _ c.self.invariant step c.open.ensures.kept c.reserve.ensures.items c.push_reserved.ensures.items

pub invariant_of-self-2 : goal.invariant_of-self-2
invariant_of-self-2 g c =
    let step : book c.self.inside.machine.state (Open c.args.session c.args.version) ≡ Some (c.match-answer.reply, c.open.new.self.state) = search rules in
    keeps_versions c.self.inside.machine.state c.open.new.self.state _ _ _ _ c.self.invariant step c.open.ensures.kept c.reserve.ensures.items c.push_reserved.ensures.items
