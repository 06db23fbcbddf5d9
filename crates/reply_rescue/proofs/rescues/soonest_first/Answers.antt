use Rattle.std.proofs.Common.{rules}
use Rattle.std.proofs.lemmas.List.Sorted.{IsNonDecreasingBy-from_sort_by_key, answers_always}
use Rattle.reply_rescue.specs.Rescues.{rescue_moment}
use Rattle.reply_rescue.proofs.rescues.soonest_first.Goals as goal

pub returns-clause-ordered : goal.returns-clause-ordered
returns-clause-ordered c = IsNonDecreasingBy-from_sort_by_key rescue_moment _ c.in_ok-sort_by_key.ensures.sorted (λ a r q k. search rules)

pub returns-clause-by_trial : goal.returns-clause-by_trial
returns-clause-by_trial c = c.in_ok-sort_by_key.ensures.stable rescue_moment (answers_always _ _ _ (λ f a r q k. search rules))
