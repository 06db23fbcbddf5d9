use Rattle.std.proofs.Common.{◌≡◌, ◌∙◌, ℕ, length, ap, subst, arith}
use Rattle.std.specs.Prelude.{map}
use Rattle.std.specs.List.{range_with_len}
use Rattle.stage_graph.specs.Plain.{PlainGraph}
use Rattle.stage_graph.specs.Sound.{IsSound}
use Rattle.time_sweep.proofs.Knowing.{all_ranks, by_place_more, live_rank}
use Rattle.time_sweep.proofs.ancestors.all_ranks.Goals as goal

pub loop-place-preserved : goal.loop-place-preserved
loop-place-preserved g c =
    by_place_more (live_rank c.args.version.now.graph.places) c.loop-place.place c.loop-place.ranks.items _ c.rank_at.result c.loop-place.invariant c.in_ok-push.ensures.items c.rank_at.ensures

pub returns : goal.returns
returns g c =
    let graph = c.args.version.now.graph in
    let size = ap (λ (graph : PlainGraph). length graph.places) c.graph-graph.ensures.graph in
    let all : c.loop-place.place ≡ length graph.places = omega (arith, size, c.len-count.ensures.len, c.loop-place-test.false, c.loop-place.auto.place-end) in
    all_ranks graph (subst IsSound c.graph-graph.ensures.graph c.len-count.ensures.sound) c.loop-place.ranks.items
    (c.loop-place.invariant ∙ ap (λ (count : ℕ). map (live_rank graph.places) (range_with_len 0 count)) all)
