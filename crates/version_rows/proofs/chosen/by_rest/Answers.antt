use Rattle.std.proofs.Common.{rules}
use Rattle.std.proofs.lemmas.List.Sorted.{IsNonDecreasingBy-from_sort_by_key, answers_always}
use Rattle.version_rows.specs.Candidates.{rest_in}
use Rattle.version_rows.proofs.chosen.by_rest.Goals as goal

pub returns-clause-by_rest : goal.returns-clause-by_rest
returns-clause-by_rest c = IsNonDecreasingBy-from_sort_by_key rest_in _ c.in_ok-sort_by_key.ensures.sorted (λ a r q k. search rules)

pub returns-clause-by_place : goal.returns-clause-by_place
returns-clause-by_place c = c.in_ok-sort_by_key.ensures.stable rest_in (answers_always _ _ _ (λ f a r q k. search rules))
