use Rattle.std.proofs.Common.{sym, ◌∙◌}
use Rattle.stage_graph.specs.Walk.{rank}
use Rattle.stage_ops.specs.States.{state_at}
use Rattle.rank_order.specs.Marks.{is_marked}
use Rattle.rank_order.proofs.Marking.{marked_by}
use Rattle.propagate.specs.Reach.{has_read}
use Rattle.propagate.proofs.Reading.{marked_already}
use Rattle.propagate.proofs.readers.mark_reader.Goals as goal

-- a place that is marked, with any rank, is marked with its own
pub returns-then-has-clause-marked : goal.returns-then-has-clause-marked
returns-then-has-clause-marked g c = λ other.
    let stages = c.args.graph.now.places in
    let place = c.args.place in
    marked_already (is_marked (rank stages) c.args.marks.now) (has_read stages (state_at c.args.states.now) c.args.feed place) place other
    (marked_by (rank stages) c.args.marks.now c.requires.marks place (sym c.has.ensures ∙ c.if-has.true))
