use Rattle.std.proofs.Common.{◌≡◌, ◌∙◌, length, ap, arith}
use Rattle.stage_graph.specs.Plain.{PlainGraph}
use Rattle.tried_changes.specs.Last.{final_moment}
use Rattle.tried_changes.proofs.Latest.{latest_ended, latest_more}
use Rattle.tried_changes.proofs.last.latest_of_all.Goals as goal

pub loop-place-preserved : goal.loop-place-preserved
loop-place-preserved g c =
    latest_more (final_moment c.args.version.now.graph) c.loop-place.place c.loop-place.latest c.later-latest.result c.final_moment.result c.loop-place.invariant c.final_moment.ensures c.later-latest.ensures

pub returns : goal.returns
returns g c =
    let long = c.len-place-end.ensures.len ∙ ap (λ (graph : PlainGraph). length graph.places) c.graph.ensures.graph in
    let few = c.len-place-end.ensures.sound.few in
    let all : c.loop-place.place ≡ length c.args.version.now.graph.places = omega (arith, c.len-place-end.ensures.len, c.loop-place-test.false, c.loop-place.auto.place-end) in
    latest_ended (final_moment c.args.version.now.graph) c.loop-place.place (length c.args.version.now.graph.places) c.loop-place.latest c.loop-place.invariant all
