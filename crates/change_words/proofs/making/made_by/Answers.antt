use Rattle.std.proofs.Common.{◌∙◌, List, Ok, Err}
use Rattle.std.specs.Prelude.{option_copied}
use Rattle.stage_graph.specs.declared.edit.Edit.{Edit}
use Rattle.change_words.specs.Making.{Made, made_with}
use Rattle.change_words.proofs.MakingLemmas.{own_at, own_before_listed, step_made, step_not_taken, step_refused, taken_at}
use Rattle.change_words.proofs.making.made_by.Goals as goal

pub returns-in-Err : goal.returns-in-Err
returns-in-Err g c =
    let edits : List Edit = c.args.edits.now.items in
    let graph = c.args.graph.now in
    let made : Made = record { edits = edits; graph = graph } in
    let counted = c.len-before.ensures ∙ c.args.edits.now.ok.0 in
    step_refused c.in-Err.fault _ (made_with made) _
    (own_at (Err c.in-Err.fault) c.args.change.now graph edits c.len-before.result (option_copied c.named-stage.result) c.as_str.result.now counted c.named-stage.ensures.stage c.as_str.ensures c.in-Err.ensures)

pub returns-in-Err-changed_by : goal.returns-in-Err-changed_by
returns-in-Err-changed_by g c =
    let edits : List Edit = c.args.edits.now.items in
    let graph = c.args.graph.now in
    let made : Made = record { edits = edits; graph = graph } in
    let counted = c.len-before.ensures ∙ c.args.edits.now.ok.0 in
    step_not_taken c.in-Err-changed_by.fault c.args.change.now made c.in-Ok.own _
    (own_at (Ok c.in-Ok.own) c.args.change.now graph edits c.len-before.result (option_copied c.named-stage.result) c.as_str.result.now counted c.named-stage.ensures.stage c.as_str.ensures c.in-Ok.ensures)
    (taken_at (Err c.in-Err-changed_by.fault) graph c.in-Ok.own edits c.len-before.result counted c.in-Err-changed_by.ensures)

pub returns-in-Ok-push_own : goal.returns-in-Ok-push_own
returns-in-Ok-push_own g c =
    let edits : List Edit = c.args.edits.now.items in
    let graph = c.args.graph.now in
    let made : Made = record { edits = edits; graph = graph } in
    let counted = c.len-before.ensures ∙ c.args.edits.now.ok.0 in
    step_made c.args.change.now made c.in-Ok.own c.push_own.new.edits.items c.in-Ok-changed_by.made
    (own_at (Ok c.in-Ok.own) c.args.change.now graph edits c.len-before.result (option_copied c.named-stage.result) c.as_str.result.now counted c.named-stage.ensures.stage c.as_str.ensures c.in-Ok.ensures)
    (taken_at (Ok c.in-Ok-changed_by.made) graph c.in-Ok.own edits c.len-before.result counted c.in-Ok-changed_by.ensures)
    (c.in-Ok-push_own.ensures c.len-before.result c.in-Ok.own (own_before_listed c.args.change.now c.len-before.result (option_copied c.named-stage.result) c.in-Ok.own c.in-Ok.ensures))
