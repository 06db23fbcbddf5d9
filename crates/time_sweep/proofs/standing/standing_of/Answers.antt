use Rattle.std.proofs.Common.{ap, arith, length}
use Rattle.stage_graph.specs.Plain.{PlainGraph}
use Rattle.time_sweep.proofs.Stands.{all_places, none_first, one_more}
use Rattle.time_sweep.proofs.standing.standing_of.Goals as goal

pub loop-place-init : goal.loop-place-init
loop-place-init g c = record {
  count = ap length c.in_ok-standing.ensures.items;
  first = none_first c.args.version.now.graph.places c.args.ranks.now c.in_ok-standing.standing.items;
}

pub loop-place-preserved : goal.loop-place-preserved
loop-place-preserved g c =
    let inv = c.loop-place.invariant in
    record {
      count = omega (arith, inv.count, c.in_ok-push.ensures.len);
      first = one_more c.args.version.now.graph.places c.args.ranks.now c.loop-place.place c.loop-place.standing.items c.push.new.self.items c.found_at.result inv.count inv.first c.in_ok-push.ensures.items c.found_at.ensures;
    }

pub returns : goal.returns
returns g c =
    let graph = c.args.version.now.graph in
    let size = ap (λ (graph : PlainGraph). length graph.places) c.graph.ensures.graph in
    all_places graph.places c.args.ranks.now c.loop-place.place c.loop-place.standing.items (omega (arith, size, c.requires.count, c.len-count.ensures.len, c.loop-place-test.false)) c.loop-place.invariant.first
