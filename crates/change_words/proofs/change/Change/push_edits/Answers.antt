use Rattle.change_words.specs.OwnEdits.{ends_edits}
use Rattle.change_words.proofs.Pushed.{behind}
use Rattle.change_words.proofs.change.Change.push_edits.Goals as goal

pub returns : goal.returns
returns c =
    behind c.push_ends_edits.result (ends_edits c.args.self.now c.args.stage.now) c.push_before_ends.new.edits.items _ c.push_ends_edits.new.edits.items c.in_ok-push_before_ends.ensures c.push_ends_edits.ensures
