use Rattle.std.proofs.Common.{rules, ◌≡◌, Some, refl}
use Rattle.session_core.specs.declared.event.Event.TheVariants.{Head}
use Rattle.session_core.specs.declared.event.Reply.TheVariants.{At}
use Rattle.session_core.specs.Machine.{book}
use Rattle.session_core.proofs.Legal.{keeps_versions}
use Rattle.session_core.proofs.table.Table.head.Goals as goal

pub invariant_of-self-in-Ok : goal.invariant_of-self-in-Ok
invariant_of-self-in-Ok g c =
    let step : book c.self.inside.machine.state (Head c.args.session) ≡ Some (At c.number.result, c.self.inside.machine.state) = search rules in
    keeps_versions c.self.inside.machine.state c.self.inside.machine.state _ _ _ _ c.self.invariant step (refl, refl) c.reserve.ensures.items c.push_reserved.ensures.items

pub invariant_of-self-in-Err : goal.invariant_of-self-in-Err
invariant_of-self-in-Err g c =
    keeps_versions c.self.inside.machine.state c.self.inside.machine.state _ _ _ _ c.self.invariant c.in-Err.ensures (refl, refl) c.reserve.ensures.items c.push_reserved-in-Err.ensures.items
