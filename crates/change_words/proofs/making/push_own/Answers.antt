use Rattle.std.proofs.Common.{◌++◌, Option, sym, ap, ◌∙◌, Bor}
use Rattle.std.specs.Prelude.{option_copied}
use Rattle.stage_graph.specs.declared.stage.Stage.{Stage}
use Rattle.change_words.specs.Making.{own_edits}
use Rattle.change_words.specs.OwnEdits.{ends_edits, own_before_ends}
use Rattle.change_words.proofs.MakingLemmas.{never_again, pushed_again, timeouts_counted}
use Rattle.change_words.proofs.making.push_own.Goals as goal

pub returns-in-Ok : goal.returns-in-Ok
returns-in-Ok c = λ before own is.
    pushed_again c.args.change.now c.in-Some.stage.now before own c.args.edits.now.items c.push_edits.new.edits.items
    (sym (ap (λ (stage : Option (Bor Stage)). own_edits c.args.change.now before (option_copied stage)) c.in-Some.is) ∙ is) c.in-Ok.ensures

pub returns-in-Err-Timeouts : goal.returns-in-Err-Timeouts
returns-in-Err-Timeouts c = λ before own is.
    absurd (never_again c.args.change.now c.in-Some.stage.now before _ own
    (sym (ap (λ (stage : Option (Bor Stage)). own_edits c.args.change.now before (option_copied stage)) c.in-Some.is) ∙ is)
    (timeouts_counted c.in-Err-Timeouts.field-0 _ (ends_edits c.args.change.now c.in-Some.stage.now) (c.args.edits.now.items ++ own_before_ends c.args.change.now c.in-Some.stage.now) c.push_edits.new.edits.items c.in-Err-Timeouts.field-0-is c.in-Err-Timeouts.ensures).0)
