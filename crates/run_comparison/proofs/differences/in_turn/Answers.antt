use Rattle.std.proofs.Common.{rules}
use Rattle.std.proofs.lemmas.List.Sorted.{IsNonDecreasingBy-from_sort_by_key, answers_always}
use Rattle.run_comparison.specs.Differences.{order_in}
use Rattle.run_comparison.proofs.differences.in_turn.Goals as goal

pub returns-clause-ordered : goal.returns-clause-ordered
returns-clause-ordered c = IsNonDecreasingBy-from_sort_by_key order_in _ c.in_ok-sort_by_key.ensures.sorted (λ a r q k. search rules)

pub returns-clause-by_place : goal.returns-clause-by_place
returns-clause-by_place c = c.in_ok-sort_by_key.ensures.stable order_in (answers_always _ _ _ (λ f a r q k. search rules))
