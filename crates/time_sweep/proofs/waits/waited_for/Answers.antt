use Rattle.std.proofs.Common.{◌≡◌, ◌∙◌, ℕ, List, Option, ap, length}
use Rattle.std.specs.Prelude.{filter, is_some}
use Rattle.std.specs.List.{range_with_len}
use Rattle.std.proofs.lemmas.List.Elements.{filter_agree}
use Rattle.stage_graph.specs.Plain.{PlainGraph}
use Rattle.time_sweep.specs.Known.{rank_in}
use Rattle.time_sweep.specs.Waits.{can_wait_for}
use Rattle.time_sweep.proofs.Waiting.{found_waits}
use Rattle.time_sweep.proofs.waits.waited_for.Goals as goal

pub returns-clause-places : goal.returns-clause-places
returns-clause-places g c =
    let stages = c.args.version.now.graph.places in
    let ranks = c.in_ok-ranks.ranks.items in
    let size : c.len-count.result ≡ length stages = c.len-count.ensures.len ∙ ap (λ (graph : PlainGraph). length graph.places) c.graph-graph.ensures.graph in
    c.in_ok-places.ensures
    ∙ ap (λ (ranks : List (Option ℕ)). filter (λ (place : ℕ). is_some (rank_in ranks place)) (range_with_len 0 c.len-count.result)) c.as_slice.ensures.value
    ∙ ap (λ (count : ℕ). filter (λ (place : ℕ). is_some (rank_in ranks place)) (range_with_len 0 count)) size
    ∙ filter_agree (λ (place : ℕ). is_some (rank_in ranks place)) (can_wait_for stages c.args.target)
    (found_waits stages c.graph-graph.ensures.ranked c.args.target ranks c.in_ok-ranks.ensures.ranks c.in_ok-ranks.ensures.exact) (range_with_len 0 (length stages))
