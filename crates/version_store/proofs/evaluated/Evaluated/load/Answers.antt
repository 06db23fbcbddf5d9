use Rattle.std.proofs.Common.{ap, sym, subst, map, ◌∙◌}
use Rattle.stage_graph.specs.Plain.{PlainGraph, all_places}
use Rattle.stage_graph.specs.Walk.{IsRanked, rank}
use Rattle.stage_ops.specs.Java.{java_step}
use Rattle.rank_order.specs.Orders.{PlainOrder}
use Rattle.propagate.specs.Reach.{AreStates}
use Rattle.version_store.proofs.Ranking.{ranks_told}
use Rattle.version_store.proofs.evaluated.Evaluated.load.Goals as goal

pub with_ranks-requires-clause-ranks : goal.with_ranks-requires-clause-ranks
with_ranks-requires-clause-ranks g c κs within =
    c.as_slice.ensures.value ∙ c.in_ok-ranks.ensures
    ∙ ranks_told (java_step c.args.graph.mode) c.args.graph.places c.in_ok-answers.answers c.in_ok-answers.ensures.answers
    ∙ ap (λ (graph : PlainGraph). map (rank graph.places) (all_places graph.places)) (sym c.in_ok-graph.ensures)

pub invariant_of-result : goal.invariant_of-result
invariant_of-result g c = record {
  ranked = subst (λ (graph : PlainGraph). IsRanked graph.places) (sym c.in_ok-graph.ensures) c.requires;
  ordered = ap (λ (order : PlainOrder). order.graph) c.in_ok-order.ensures;
  evaluated =
      subst (λ (graph : PlainGraph). AreStates (java_step graph.mode) graph.places c.in_ok-states.states) (sym c.in_ok-graph.ensures)
      (c.in_ok-states.ensures (java_step c.args.graph.mode) c.in_ok-answers.ensures.answers);
}
