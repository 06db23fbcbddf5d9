use Rattle.std.proofs.Common.{◌∙◌}
use Rattle.change_words.specs.Making.{Made, made_of}
use Rattle.change_words.proofs.MakingLemmas.{change_on, change_refused, changes_done}
use Rattle.change_words.proofs.making.made_of.Goals as goal

pub loop-change-preserved : goal.loop-change-preserved
loop-change-preserved g c =
    let made : Made = record { edits = c.loop-change.edits.items; graph = c.loop-change.graph } in
    let next : Made = record { edits = c.made_by.new.edits.items; graph = c.in-Ok.graph } in
    c.loop-change.invariant ∙ change_on c.args.changes.now c.loop-change.change-index c.change-item.result made next c.loop-change-test.true c.change-item.is c.in-Ok.ensures

pub returns-in-Err : goal.returns-in-Err
returns-in-Err g c =
    let made : Made = record { edits = c.loop-change.edits.items; graph = c.loop-change.graph } in
    let first : Made = record { edits = c.args.edits.items; graph = c.args.made } in
    change_refused (made_of c.args.changes.now first) c.args.changes.now c.loop-change.change-index c.change-item.result made c.in-Err.fault c.made_by.new.edits.items
    c.loop-change.invariant c.loop-change-test.true c.change-item.is c.in-Err.ensures

pub returns : goal.returns
returns g c =
    let made : Made = record { edits = c.loop-change.edits.items; graph = c.loop-change.graph } in
    (c.loop-change.graph, c.loop-change.invariant ∙ changes_done c.args.changes.now c.loop-change.change-index made c.loop-change-test.false)
