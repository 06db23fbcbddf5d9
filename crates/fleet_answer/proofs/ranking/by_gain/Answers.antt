use Rattle.std.proofs.Common.{rules}
use Rattle.std.proofs.lemmas.List.Sorted.{IsNonDecreasingBy-from_sort_by_key, answers_always}
use Rattle.fleet_answer.specs.Rows.{order_of}
use Rattle.fleet_answer.proofs.ranking.by_gain.Goals as goal

pub returns-clause-ordered : goal.returns-clause-ordered
returns-clause-ordered c = IsNonDecreasingBy-from_sort_by_key order_of _ c.in_ok-sort_by_key.ensures.sorted (λ a r q k. search rules)

pub returns-clause-stable : goal.returns-clause-stable
returns-clause-stable c = c.in_ok-sort_by_key.ensures.stable order_of (answers_always _ _ _ (λ f a r q k. search rules))
