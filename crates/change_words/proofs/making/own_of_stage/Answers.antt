use Rattle.std.proofs.Common.{◌∙◌, ◌+◌, ℕ, List, Some, ◌++◌, length, sym, ap, arith}
use Rattle.stage_graph.specs.declared.edit.Edit.{Edit}
use Rattle.change_words.specs.Making.{listed, own_edits}
use Rattle.change_words.specs.OwnEdits.{ends_edits, own_before_ends}
use Rattle.change_words.specs.Results.{then_on}
use Rattle.change_words.proofs.MakingLemmas.{is_itself, own_listed, own_short, timeouts_counted, timeouts_told}
use Rattle.change_words.proofs.making.own_of_stage.Goals as goal

pub returns-in-Ok : goal.returns-in-Ok
returns-in-Ok c =
    is_itself c.listed.result (then_on (own_edits c.args.change.now c.args.before (Some c.args.stage.now)) listed)
    (c.listed.ensures ∙ sym (own_listed c.args.before c.args.change.now c.args.stage.now c.new-own.result.items c.push_edits.new.edits.items c.new-own.ensures.items c.in-Ok.ensures))

pub overflow_add-at : goal.overflow_add-at
overflow_add-at c =
    let front : List Edit = own_before_ends c.args.change.now c.args.stage.now in
    let told = timeouts_counted c.in-Err-Timeouts.field-0 c.in-Err-Timeouts.count (ends_edits c.args.change.now c.args.stage.now) (c.new-own.result.items ++ own_before_ends c.args.change.now c.args.stage.now) c.push_edits.new.edits.items c.in-Err-Timeouts.field-0-is c.in-Err-Timeouts.ensures in
    let long = c.len.ensures ∙ c.push_edits.new.edits.ok.0 ∙ ap length (told.1 ∙ ap (λ (first : List Edit). first ++ front) c.new-own.ensures.items) in
    let short = own_short c.args.change.now c.args.stage.now in
    let few = c.requires.few in
    omega arith

pub returns-in-Err-Timeouts : goal.returns-in-Err-Timeouts
returns-in-Err-Timeouts c =
    timeouts_told c.args.before c.in-Err-Timeouts.count (c.args.before + c.len.result) c.args.change.now c.args.stage.now c.new-own.result.items c.push_edits.new.edits.items c.new-own.ensures.items
    (timeouts_counted c.in-Err-Timeouts.field-0 c.in-Err-Timeouts.count (ends_edits c.args.change.now c.args.stage.now) (c.new-own.result.items ++ own_before_ends c.args.change.now c.args.stage.now) c.push_edits.new.edits.items c.in-Err-Timeouts.field-0-is c.in-Err-Timeouts.ensures)
    (ap (λ (n : ℕ). c.args.before + n) (c.len.ensures ∙ c.push_edits.new.edits.ok.0))
