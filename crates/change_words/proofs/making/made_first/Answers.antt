use Rattle.change_words.specs.Making.{Made}
use Rattle.change_words.proofs.MakingLemmas.{first_on, first_told}
use Rattle.change_words.proofs.making.made_first.Goals as goal

pub returns-in-Ok : goal.returns-in-Ok
returns-in-Ok g c =
    let next : Made = record { edits = c.made_by.new.edits.items; graph = c.in-Ok.made } in
    first_on c.made_of.result c.args.first.now c.args.others.now c.args.graph.now c.new-edits.result.items next c.new-edits.ensures.items c.in-Ok.ensures c.made_of.ensures

pub returns-in-Err : goal.returns-in-Err
returns-in-Err g c =
    first_told c.in-Err.fault c.args.first.now c.args.others.now c.args.graph.now c.new-edits.result.items c.made_by.new.edits.items c.new-edits.ensures.items c.in-Err.ensures
