use Rattle.std.proofs.Common.{◌≡◌}
use Rattle.std.proofs.lemmas.Result.{IfOk-weaker}
use Rattle.trace_relations.specs.Moves.{all_moves, moved_clocks}
use Rattle.trace_relations.specs.Relations.{moved_of, told_times}
use Rattle.trace_relations.specs.Times.{times_of}
use Rattle.trace_relations.proofs.LeftAsTold.{moved_found, moved_told, times_found, times_told}
use Rattle.trace_relations.proofs.relations.times_of.Goals as goal

pub returns-then-as_told-clause-times : goal.returns-then-as_told-clause-times
returns-then-as_told-clause-times c = times_told c.args.as_told c.args.spans.now c.in_ok-times.times.items c.if-as_told.true c.in_ok-times.ensures

pub returns-then-as_told-clause-moved : goal.returns-then-as_told-clause-moved
returns-then-as_told-clause-moved c = moved_told c.args.as_told c.args.spans.now c.new.result.items c.if-as_told.true c.new.ensures.items

pub returns-clause-times : goal.returns-clause-times
returns-clause-times c =
    IfOk-weaker c.placed_times.result (λ placed. placed.times.items ≡ times_of (all_moves c.args.spans.now) c.args.spans.now) (λ placed. placed.times.items ≡ told_times c.args.as_told c.args.spans.now)
    (λ placed is. times_found c.args.as_told c.args.spans.now placed.times.items c.if-as_told.false is) c.placed_times.ensures.times

pub returns-clause-moved : goal.returns-clause-moved
returns-clause-moved c =
    IfOk-weaker c.placed_times.result (λ placed. placed.moved.items ≡ moved_clocks c.args.spans.now (all_moves c.args.spans.now)) (λ placed. placed.moved.items ≡ moved_of c.args.as_told c.args.spans.now)
    (λ placed is. moved_found c.args.as_told c.args.spans.now placed.moved.items c.if-as_told.false is) c.placed_times.ensures.moved
