use Rattle.std.proofs.Common.{◌∙◌, ℕ, List, Option, None, Some, sym, ap, refl, subst, length, arith}
use Rattle.std.proofs.Math.ListN.{length-set}
use Rattle.std.proofs.lemmas.List.{length-replicate}
use Rattle.stage_graph.specs.Plain.{PlainGraph}
use Rattle.stage_ops.specs.Java.{java_step}
use Rattle.propagate.proofs.Ranks.{live_within}
use Rattle.time_sweep.specs.HandedOn.{AreHandedOn, Reaches}
use Rattle.time_sweep.proofs.Further.{handed_below, handed_feed, none_handed, one_handed, reaches_further}
use Rattle.time_sweep.proofs.handed.handed_on.Goals as goal

pub loop-last-init : goal.loop-last-init
loop-last-init g c =
    let count = c.len-count.result in
    record {
      known = c.requires.ranks.own;
      count = ap (λ (items : List (Option ℕ)). length items) c.in_ok-handed.ensures ∙ length-replicate count None ∙ c.len-count.ensures.len
          ∙ ap (λ (graph : PlainGraph). length graph.places) c.graph-graph.ensures.graph;
      reached = refl;
      handed = none_handed count c.in_ok-handed.handed.items c.in_ok-handed.ensures;
    }

pub know-requires : goal.know-requires
know-requires g c =
    let graph = c.args.version.now.graph in
    let inv = c.loop-last.invariant in
    let within = live_within graph.places c.in-Some.last.feed (c.requires.ranks.live c.in-Some.last.feed (c.requires.ranks.feeds c.loop-last.place c.in-Some.last.feed inv.known (handed_feed c.in-Some.ensures))) in
    omega (arith, within, inv.count)

pub loop-last-preserved : goal.loop-last-preserved
loop-last-preserved g c =
    let graph = c.args.version.now.graph in
    let ranks = c.args.ranks.now in
    let inv = c.loop-last.invariant in
    let feed = c.in-Some.last.feed in
    let known = c.requires.ranks.feeds c.loop-last.place feed inv.known (handed_feed c.in-Some.ensures) in
    let within = live_within graph.places feed (c.requires.ranks.live feed known) in
    let reaches = subst (Reaches (java_step graph.mode) graph.places ranks c.args.target feed) (sym c.through-most.ensures) (reaches_further c.loop-last.later c.in-Some.ensures inv.reached) in
    record {
      known = known;
      count = ap (λ (items : List (Option ℕ)). length items) c.know.ensures ∙ length-set c.loop-last.handed.items feed (Some c.through-most.result) ∙ inv.count;
      reached = reaches;
      handed = subst (AreHandedOn (java_step graph.mode) graph.places ranks c.args.target) (sym c.know.ensures)
          (one_handed c.loop-last.handed.items feed c.through-most.result (omega (arith, within, inv.count)) inv.handed reaches);
    }

pub loop-last-smaller : goal.loop-last-smaller
loop-last-smaller g c = handed_below c.graph-graph.ensures.ranked c.in-Some.ensures
