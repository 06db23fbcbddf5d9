use Rattle.std.proofs.Common.{◌∙◌, []}
use Rattle.change_words.specs.Making.{Made, listed_of, made_of}
use Rattle.change_words.specs.Results.{then_on}
use Rattle.change_words.proofs.MakingLemmas.{is_itself, none_listed, split_listed, split_refused}
use Rattle.change_words.proofs.making.edits_of_few.Goals as goal

pub returns-in-Ok : goal.returns-in-Ok
returns-in-Ok g c =
    let first : Made = record { edits = []; graph = c.args.graph.now } in
    is_itself c.listed.result (then_on (made_of c.args.changes.now first) listed_of)
    (c.listed.ensures ∙ split_listed c.args.changes.now c.in-Some.first.now c.in-Some.others.now c.args.graph.now c.in-Ok.edits.items c.in-Some.ensures.cases.0 c.in-Ok.ensures)

pub returns-in-Err : goal.returns-in-Err
returns-in-Err g c = split_refused c.in-Err.fault c.args.changes.now c.in-Some.first.now c.in-Some.others.now c.args.graph.now c.in-Some.ensures.cases.0 c.in-Err.ensures

pub returns-in-None : goal.returns-in-None
returns-in-None g c = none_listed c.args.changes.now c.args.graph.now c.in-None.ensures.cases
