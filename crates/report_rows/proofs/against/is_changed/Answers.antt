use Rattle.std.proofs.Common.{ap, ◌∙◌}
use Rattle.stage_graph.specs.Plain.{PlainGraph}
use Rattle.stage_ops.specs.declared.state.State.{State}
use Rattle.version_store.specs.Queries.{state_of}
use Rattle.report_rows.specs.Against.{is_unlike}
use Rattle.report_rows.specs.Standings.{done_of}
use Rattle.report_rows.proofs.against.is_changed.Goals as goal

pub returns : goal.returns
returns g c =
    let here = c.args.view.now.version.now.graph in
    let there = c.args.against.now.graph in
    let done = c.state-done.result.done in
    let met = c.done_of-there.result in
    c.is_unlike.ensures
    ∙ ap (λ (graph : PlainGraph). is_unlike graph done c.graph-2.result.now met) c.graph.ensures.graph
    ∙ ap (λ (graph : PlainGraph). is_unlike here done graph met) c.graph-2.ensures.graph
    ∙ ap (λ (state : State). is_unlike here state.done there met) c.state-done.ensures
    ∙ ap (λ met. is_unlike here (state_of here c.args.view.now.place).done there met) (c.done_of-there.ensures ∙ ap (done_of there) c.as_str.ensures)
