use mir.Syntax.{w128}
use mir.Val.{of_z, to_z}
use Rattle.std.proofs.Common.{◌≡◌, ◌++◌, ◌∙◌, ap, arith, rules, get_or}
use Rattle.trace_relations.specs.KeptMoves.{moved_if}
use Rattle.trace_relations.proofs.Clocked.{all_moved_are, moved_by, moved_more}
use Rattle.trace_relations.proofs.placing.all_moved.Goals as goal

pub loop-place-init : goal.loop-place-init
loop-place-init c = λ spans are. search rules

pub loop-place-preserved : goal.loop-place-preserved
loop-place-preserved c = λ spans are.
    let clock = get_or c.args.clocks.now c.loop-place.place 0 in
    let same : to_z w128 (of_z w128 c.unwrap_or-by.result) ≡ c.unwrap_or-by.result = search rules in
    moved_more spans c.args.clocks.now c.args.moves.now c.loop-place.place clock c.unwrap_or-by.result c.loop-place.moved.items c.push_moved.new.moved.items are (omega arith) (search rules) (search rules) (c.loop-place.invariant spans are)
    (c.in_ok-push_moved.ensures ∙ ap (λ z. c.loop-place.moved.items ++ moved_if c.loop-place.place clock z) same)

pub returns : goal.returns
returns c = λ spans are. all_moved_are spans c.args.clocks.now (moved_by spans c.args.moves.now) c.loop-place.place c.loop-place.moved.items are (omega arith) (c.loop-place.invariant spans are)
