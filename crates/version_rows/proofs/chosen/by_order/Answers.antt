use Rattle.std.proofs.Common.{rules}
use Rattle.std.proofs.lemmas.List.Sorted.{IsNonDecreasingBy-from_sort_by_key}
use Rattle.version_rows.specs.Candidates.{order_in}
use Rattle.version_rows.proofs.chosen.by_order.Goals as goal

pub returns-clause-by_start : goal.returns-clause-by_start
returns-clause-by_start c = IsNonDecreasingBy-from_sort_by_key order_in _ c.in_ok-sort_by_key.ensures.sorted (λ a r q k. search rules)
