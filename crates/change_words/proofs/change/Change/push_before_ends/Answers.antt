use Rattle.change_words.specs.OwnEdits.{moment_edits, outcome_edits, times_edits}
use Rattle.change_words.proofs.Pushed.{three_pushed}
use Rattle.change_words.proofs.change.Change.push_before_ends.Goals as goal

pub returns : goal.returns
returns c =
    three_pushed c.push_moment.result c.args.edits.now.items c.push_times.new.edits.items c.push_outcome.new.edits.items c.push_moment.new.edits.items
    (times_edits c.args.self.now c.args.stage.now) (outcome_edits c.args.self.now) (moment_edits c.args.self.now)
    c.in_ok-push_times.ensures c.in_ok-push_outcome.ensures c.push_moment.ensures
