use Rattle.std.proofs.Common.{rules, refl}
use Rattle.session_core.specs.declared.event.Reply.TheVariants.{Refused}
use Rattle.session_core.specs.TableView.{IsForeignDraft}
use Rattle.session_core.specs.declared.refusal.Refusal.TheVariants.{Foreign}
use Rattle.session_core.proofs.Legal.{keeps}
use Rattle.session_core.proofs.Commits.{enters_foreign}
use Rattle.session_core.proofs.table.Table.commit.Goals as goal

pub invariant_of-self-then-is_foreign : goal.invariant_of-self-then-is_foreign
invariant_of-self-then-is_foreign g c =
    let s = c.self.inside.machine.state in
    let other : IsForeignDraft s c.args.session c.args.draft.now = c.is_foreign.ensures.foreign.0 (search rules) in
    keeps s s _ _ _ _ c.self.invariant (enters_foreign s c.args.who c.args.session c.base-base.result c.in_ok-again.field-0 (Refused (Foreign c.base-base.result)) c.args.draft.now other c.base-base.ensures refl)
    c.self.invariant.some refl c.reserve.ensures.items c.push_reserved.ensures.items
