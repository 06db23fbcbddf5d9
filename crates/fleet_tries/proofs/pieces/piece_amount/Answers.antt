use Rattle.std.proofs.Common.{◌∙◌, ap, length, sym}
use Rattle.stage_graph.specs.Plain.{PlainGraph}
use Rattle.fleet_tries.specs.Pieces.{piece_amount, ticks_before}
use Rattle.fleet_tries.proofs.Sharing.{shared}
use Rattle.fleet_tries.proofs.pieces.piece_amount.Goals as goal

pub returns-then-own-gt0 : goal.returns-then-own-gt0
returns-then-own-gt0 g c =
    let graph = c.args.version.now.graph in
    let work = c.args.work in
    shared graph work.stages.now work.time work.span c.args.place c.in_ok-amount.amount c.ticks_before-before.result c.work_ticks-own.result c.saturating_add.result c.ticks_before-whole.result c.amount_of.result
    c.ticks_before-before.ensures c.work_ticks-own.ensures c.saturating_add.ensures
    (c.ticks_before-whole.ensures ∙ ap (ticks_before graph work.stages.now work.time work.span) (c.len.ensures.len ∙ ap (λ (graph : PlainGraph). length graph.places) c.graph.ensures.graph))
    c.if-own-gt0.true c.amount_of.ensures
    ∙ ap (piece_amount graph work.stages.now work.time work.span c.args.place) (sym c.in_ok-amount.was)
