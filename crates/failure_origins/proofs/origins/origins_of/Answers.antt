use Rattle.std.proofs.Common.{◌≡◌, ◌∙◌, ℕ, List, Option, None, ap, length, subst, get_or, rules}
use Rattle.std.specs.Prelude.{replicate}
use Rattle.stage_graph.specs.Plain.{PlainGraph}
use Rattle.stage_graph.specs.Order.{IsFeedsFirst}
use Rattle.stage_graph.specs.Sound.{IsSound}
use Rattle.stage_ops.specs.declared.state.Done.{Done}
use Rattle.version_store.specs.Queries.{state_of}
use Rattle.failure_origins.specs.Origins.{origin_by}
use Rattle.failure_origins.proofs.Arising.{found_all, found_more, found_none}
use Rattle.failure_origins.proofs.origins.origins_of.Goals as goal

pub loop-place-init : goal.loop-place-init
loop-place-init g c =
    let graph = c.args.version.now.graph in
    let made : c.in_ok-origins.origins.items ≡ replicate c.len.result None = search rules in
    found_none graph c.in_ok-origins.origins.items
    (made ∙ ap (λ (count : ℕ). replicate count None) (c.len.ensures.len ∙ ap (λ (graph : PlainGraph). length graph.places) c.graph-graph.ensures.graph))

pub loop-place-preserved : goal.loop-place-preserved
loop-place-preserved g c =
    let graph = c.args.version.now.graph in
    let order = c.as_slice-place-items.result.now in
    let k = c.loop-place.place-index in
    let place = get_or order k 0 in
    let ordered : IsFeedsFirst c.graph-graph.result.now.places order = rw c.as_slice-place-items.ensures c.in_ok-order.ensures in
    let first : IsFeedsFirst graph.places order = subst (λ (graph : PlainGraph). IsFeedsFirst graph.places order) c.graph-graph.ensures.graph ordered in
    let sound : IsSound graph = subst IsSound c.graph-graph.ensures.graph c.len.ensures.sound in
    found_more graph sound c.graph-graph.ensures.ranked order k c.loop-place.origins.items c.origin_by-origin.result first c.loop-place-test.true c.loop-place.invariant
    (c.origin_by-origin.ensures ∙ ap (λ (done : Option Done). origin_by c.as_slice.result.now place done) c.done_at-done.ensures
    ∙ ap (λ (origins : List (Option ℕ)). origin_by origins place (state_of graph place).done) c.as_slice.ensures.value)

pub returns : goal.returns
returns g c =
    let graph = c.args.version.now.graph in
    let order = c.as_slice-place-items.result.now in
    let ordered : IsFeedsFirst c.graph-graph.result.now.places order = rw c.as_slice-place-items.ensures c.in_ok-order.ensures in
    let first : IsFeedsFirst graph.places order = subst (λ (graph : PlainGraph). IsFeedsFirst graph.places order) c.graph-graph.ensures.graph ordered in
    found_all graph order c.loop-place.place-index c.loop-place.origins.items first c.loop-place-test.false c.loop-place.invariant
