use Rattle.change_words.specs.Timeouts.{limited}
use Rattle.change_words.proofs.Pushed.{ends_pushed, ends_refused}
use Rattle.change_words.proofs.change.Change.push_limited.Goals as goal

pub returns-in-Ok : goal.returns-in-Ok
returns-in-Ok c =
    rw (← c.as_slice.ensures) (ends_pushed c.push_ends.result c.args.self.now.name c.in-Ok.ends (limited c.args.limit c.as_slice.result.now) c.args.edits.now.items c.push_ends.new.edits.items c.in-Ok.ensures c.push_ends.ensures)

pub returns-in-Err : goal.returns-in-Err
returns-in-Err c =
    rw (← c.as_slice.ensures) (ends_refused c.args.self.now.name c.in-Err.fault (limited c.args.limit c.as_slice.result.now) c.args.edits.now.items c.in-Err.ensures)
