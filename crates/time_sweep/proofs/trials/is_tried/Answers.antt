use Rattle.std.proofs.Common.{◌≡◌, ◌∙◌, Bool, true, false, Some, Option, ℕ, refl, sym, ap, subst}
use Rattle.std.specs.Prelude.{is_some, not}
use Rattle.stage_graph.specs.Plain.{PlainGraph, stage_at}
use Rattle.stage_graph.specs.Sound.{IsSound}
use Rattle.time_sweep.specs.Sweep.{trial_of}
use Rattle.time_sweep.proofs.Hurrying.{unhastened}
use Rattle.time_sweep.proofs.Unreached.{unreached_at}
use Rattle.time_sweep.proofs.trials.is_tried.Goals as goal

positive : (b : Bool) → not b ≡ false → b ≡ true
positive true is = refl
positive false is = cc

pub returns-then-is_none : goal.returns-then-is_none
returns-then-is_none g c none =
    let graph = c.args.version.now.graph in
    unreached_at graph c.graph-graph.ensures.ranked (subst IsSound c.graph-graph.ensures.graph c.len.ensures.sound) c.args.haste c.args.target c.args.ranks.now c.requires c.args.place
    (ap (λ (rank : Option ℕ). is_some rank) (sym c.known_rank.ensures) ∙ c.is_none.ensures ∙ ap not c.if-is_none.true)

pub returns : goal.returns
returns g c none =
    let graph = c.args.version.now.graph in
    let stage = c.in-Some.stage.now in
    let here : stage_at graph.places c.args.place ≡ Some stage =
    ap (λ (graph : PlainGraph). stage_at graph.places c.args.place) (sym c.graph-graph.ensures.graph) ∙ sym c.in-Some.ensures.stage in
    let own : stage.place ≡ c.args.place = c.in-Some.ensures.sound.own_place in
    let times = c.keeps.ensures.0 (positive c.keeps.result none) in
    ap (trial_of graph c.args.haste c.args.target c.args.place) here ∙ unhastened graph c.args.haste stage c.args.target c.args.place (ap (stage_at graph.places) own ∙ here) times.0 times.1
