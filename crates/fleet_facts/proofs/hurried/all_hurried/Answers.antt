use Rattle.std.proofs.Common.{◌≡◌, ◌∙◌, length, ap, arith}
use Rattle.std.specs.Prelude.{filter_map}
use Rattle.std.specs.List.{range_with_len}
use Rattle.stage_graph.specs.Plain.{PlainGraph}
use Rattle.fleet_facts.specs.Hurried.{hurried_at}
use Rattle.fleet_facts.proofs.Hurrying.{hurried_more, none_hurried}
use Rattle.fleet_facts.proofs.hurried.all_hurried.Goals as goal

pub loop-place-init : goal.loop-place-init
loop-place-init g c = none_hurried c.args.version.now.graph c.args.stages.now c.args.group c.new-hurried.result.items c.new-hurried.ensures.items

pub loop-place-preserved : goal.loop-place-preserved
loop-place-preserved g c =
    let made = c.in_ok-hurried_at.ensures in
    hurried_more c.args.version.now.graph c.args.stages.now c.args.group c.loop-place.place c.loop-place.hurried.items c.push_if.new.hurried.items c.in_ok-hurried_at.field-0
    c.loop-place.invariant c.in_ok-push_if.ensures made.made made.fits made.own

pub returns-clause-hurried : goal.returns-clause-hurried
returns-clause-hurried g c =
    let graph = c.args.version.now.graph in
    let all : c.loop-place.place ≡ length graph.places = omega (arith, c.loop-place-test.false, c.loop-place.auto.place-end, c.len-place-end.ensures, ap (λ (graph : PlainGraph). length graph.places) c.graph.ensures.graph) in
    c.loop-place.invariant.are ∙ ap (λ count. filter_map (hurried_at graph c.args.stages.now c.args.group) (range_with_len 0 count)) all

pub returns-clause-fit : goal.returns-clause-fit
returns-clause-fit g c = c.loop-place.invariant.fit
