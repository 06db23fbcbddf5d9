use Rattle.std.proofs.Common.{◌≡◌, ◌≤◌, length, ap, ◌∙◌, arith}
use Rattle.std.proofs.lemmas.List.FromFn.{length-map-range_with_len}
use Rattle.stage_graph.specs.Walk.{rank}
use Rattle.rank_order.proofs.order.Order.with_ranks.Goals as goal

pub list_of_ranks-requires-after_bounds : goal.list_of_ranks-requires-after_bounds
list_of_ranks-requires-after_bounds g c κs inside =
    let places = c.args.graph.now.places in
    let count : length c.args.ranks.now ≡ length places = ap length c.requires.ranks ∙ length-map-range_with_len (rank places) 0 (length places) in
    let few : length places ≤ 65536 = rw c.deref.ensures at c.len.ensures.sound.few in
    omega (arith, count, few)
