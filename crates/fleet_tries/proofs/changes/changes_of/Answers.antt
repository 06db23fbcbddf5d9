use Rattle.std.proofs.Common.{◌≡◌, ◌∙◌, length, ap, arith}
use Rattle.std.specs.Prelude.{filter_map}
use Rattle.std.specs.List.{range_with_len}
use Rattle.stage_graph.specs.Plain.{PlainGraph}
use Rattle.fleet_tries.specs.Changes.{change_at}
use Rattle.fleet_tries.proofs.Places.{found_more}
use Rattle.fleet_tries.proofs.changes.changes_of.Goals as goal

pub loop-place-preserved : goal.loop-place-preserved
loop-place-preserved g c =
    c.in_ok-push_if.ensures
    ∙ found_more (change_at c.args.version.now.graph c.args.grouping.now c.args.change.now) c.loop-place.place c.loop-place.changes.items c.in_ok-change_at.field-0 c.loop-place.invariant c.in_ok-change_at.ensures

pub returns : goal.returns
returns g c =
    let graph = c.args.version.now.graph in
    let all : c.loop-place.place ≡ length graph.places = omega (arith, c.loop-place-test.false, c.loop-place.auto.place-end, c.len-place-end.ensures, ap (λ (graph : PlainGraph). length graph.places) c.graph.ensures.graph) in
    c.loop-place.invariant ∙ ap (λ count. filter_map (change_at graph c.args.grouping.now c.args.change.now) (range_with_len 0 count)) all
