use Rattle.std.proofs.Common.{rules}
use Rattle.std.proofs.lemmas.List.Sorted.{IsNonDecreasingBy-from_sort_by_key, answers_always}
use Rattle.version_rows.specs.Lines.{service_in}
use Rattle.version_rows.proofs.line.grouped.Goals as goal

pub returns-clause-by_service : goal.returns-clause-by_service
returns-clause-by_service c = IsNonDecreasingBy-from_sort_by_key service_in _ c.in_ok-sort_by_key.ensures.sorted (λ a r q k. search rules)

pub returns-clause-in_order : goal.returns-clause-in_order
returns-clause-in_order c = c.in_ok-sort_by_key.ensures.stable service_in (answers_always _ _ _ (λ f a r q k. search rules))
