use Rattle.std.proofs.Common.{rules}
use Rattle.std.proofs.lemmas.List.Sorted.{answers_always}
use Rattle.trace_spans.specs.Listing.{start_in}
use Rattle.trace_spans.proofs.listing.by_start.Goals as goal

pub returns : goal.returns
returns c = (
  c.sort_by_key.ensures.permutation,
  c.in_ok-sort_by_key.ensures.sorted start_in (answers_always _ _ _ (λ f a r q k. search rules)),
  c.in_ok-sort_by_key.ensures.stable start_in (answers_always _ _ _ (λ f a r q k. search rules)),
)
