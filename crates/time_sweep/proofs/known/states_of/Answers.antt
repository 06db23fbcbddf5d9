use Rattle.std.proofs.Common.{◌≡◌, ◌∙◌, ℕ, length, ap, arith}
use Rattle.std.specs.Prelude.{map}
use Rattle.std.specs.List.{range_with_len}
use Rattle.stage_graph.specs.Plain.{PlainGraph}
use Rattle.stage_ops.specs.JavaLaws.{java_reads_decide}
use Rattle.version_store.specs.Queries.{state_of}
use Rattle.time_sweep.proofs.Knowing.{all_states, by_place_more}
use Rattle.time_sweep.proofs.known.states_of.Goals as goal

pub loop-place-preserved : goal.loop-place-preserved
loop-place-preserved g c =
    by_place_more (state_of c.args.version.now.graph) c.loop-place.place c.loop-place.states.items _ c.in_ok-new.field-0 c.loop-place.invariant c.in_ok-push.ensures.items (c.in_ok-new.ensures ∙ c.state_at.ensures)

pub returns : goal.returns
returns g c =
    let graph = c.args.version.now.graph in
    let size = ap (λ (graph : PlainGraph). length graph.places) c.graph-graph.ensures.graph in
    let all : c.loop-place.place ≡ length graph.places = omega (arith, size, c.len-count.ensures.len, c.loop-place-test.false, c.loop-place.auto.place-end) in
    all_states (java_reads_decide graph.mode) graph.places c.graph-graph.ensures.ranked c.loop-place.states.items
    (c.loop-place.invariant ∙ ap (λ (count : ℕ). map (state_of graph) (range_with_len 0 count)) all)
