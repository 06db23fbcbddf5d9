use Rattle.std.proofs.Common.{◌≡◌, ◌<◌, ◌+◌, ◌-◌, length, Some, None, ap, sym, ◌∙◌, arith}
use Rattle.stage_graph.specs.Plain.{PlainGraph, stage_at}
use Rattle.scratch_eval.specs.Path.{next_feed, path, state_in}
use Rattle.scratch_eval.proofs.Pathing.{path_out, path_to_nothing, path_to_origin, path_on}
use Rattle.version_store.proofs.evaluated.Evaluated.follow_causes.Goals as goal
use Rattle.version_store.proofs.evaluated.Evaluated.follow_causes.Goals.{else-loop-test, then-loop-test+in_default, then-loop-test+in-Some+in_ok-push+in_default-next_feed}

pub loop-preserved : goal.loop-preserved
loop-preserved g c =
    let graph = c.args.self.now in
    let count = length graph.places in
    let ends : c.len-end.result ≡ count = c.len-end.ensures.len ∙ ap (λ (graph : PlainGraph). length graph.places) c.graph.ensures.graph in
    let within : 0 < count - c.loop.counter = omega (arith, c.loop-test.true, ends) in
    let fewer : count - (c.loop.counter + 1) ≡ count - c.loop.counter - 1 = omega arith in
    let here : stage_at graph.places c.loop.next ≡ Some c.in-Some.stage.now =
    ap (λ (graph : PlainGraph). stage_at graph.places c.loop.next) (sym c.graph-in-loop.ensures.graph) ∙ sym c.in-Some.ensures.stage in
    let next : next_feed graph.mode (state_in graph) c.in-Some.stage.now ≡ Some c.in-Some-next_feed.feed = sym c.in-Some-next_feed.ensures in
    rw (c.in_ok-push.ensures.items, fewer)
    (path_on graph.mode (state_in graph) graph.places c.loop.path.items (path graph c.args.place) (count - c.loop.counter) c.loop.next c.loop.invariant
    c.in-Some.stage.now c.in-Some-next_feed.feed within here next)

pub returns : goal.returns
returns g c =
    let graph = c.args.self.now in
    let count = length graph.places in
    let ends : c.len-end.result ≡ count = c.len-end.ensures.len ∙ ap (λ (graph : PlainGraph). length graph.places) c.graph.ensures.graph in
    elim c.loop-test.branch [
      | else-loop-test w ↦
          let none : count - c.loop.counter ≡ 0 = omega (arith, w.loop-test.false, ends) in
          rw (c.from_vec.ensures, w.path-is)
          (path_out graph.mode (state_in graph) graph.places c.loop.path.items (path graph c.args.place) (count - c.loop.counter) c.loop.next c.loop.invariant none)
      | then-loop-test+in_default w ↦
          let nothing : stage_at graph.places c.loop.next ≡ None =
          ap (λ (graph : PlainGraph). stage_at graph.places c.loop.next) (sym w.graph-in-loop.ensures.graph) ∙ sym w.in_default.ensures.stage in
          rw (c.from_vec.ensures, w.path-is)
          (path_to_nothing graph.mode (state_in graph) graph.places c.loop.path.items (path graph c.args.place) (count - c.loop.counter) c.loop.next c.loop.invariant nothing)
      | then-loop-test+in-Some+in_ok-push+in_default-next_feed w ↦
          let within : 0 < count - c.loop.counter = omega (arith, w.loop-test.true, ends) in
          let here : stage_at graph.places c.loop.next ≡ Some w.in-Some.stage.now =
          ap (λ (graph : PlainGraph). stage_at graph.places c.loop.next) (sym w.graph-in-loop.ensures.graph) ∙ sym w.in-Some.ensures.stage in
          let origin : next_feed graph.mode (state_in graph) w.in-Some.stage.now ≡ None = sym w.in_default-next_feed.ensures in
          rw (c.from_vec.ensures, w.path-is, w.in_ok-push.ensures.items)
          (path_to_origin graph.mode (state_in graph) graph.places c.loop.path.items (path graph c.args.place) (count - c.loop.counter) c.loop.next c.loop.invariant
          w.in-Some.stage.now within here origin)
    ]
