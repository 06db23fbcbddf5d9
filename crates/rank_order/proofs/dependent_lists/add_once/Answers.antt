use Rattle.std.proofs.Common.{◌≡◌, false, ◌∙◌, sym}
use Rattle.std.proofs.lemmas.Bool.{true≢false}
use Rattle.rank_order.proofs.DependentSteps.{once_more}
use Rattle.rank_order.proofs.dependent_lists.add_once.Goals as goal

pub returns-in_ok-push : goal.returns-in_ok-push
returns-in_ok-push c uses low are =
    let new : c.ends_with.result ≡ false = c.if-not-ends_with.true in
    let ends = rw c.deref.ensures.value at c.ends_with.ensures in
    rw c.in_ok-push.ensures.items (once_more uses c.args.its_dependents.now.items c.args.dependent low are (λ some last. true≢false (sym (ends.1 (some, last)) ∙ new)))
