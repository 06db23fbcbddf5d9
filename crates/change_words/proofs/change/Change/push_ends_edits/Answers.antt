use Rattle.std.proofs.Common.{refl}
use Rattle.change_words.proofs.Pushed.{none_pushed, some_pushed}
use Rattle.change_words.proofs.change.Change.push_ends_edits.Goals as goal

pub returns-in-Some : goal.returns-in-Some
returns-in-Some c =
    some_pushed c.push_limited.result c.args.self.now.name c.args.self.now.limit c.in-Some.limit c.args.stage.now.ends c.args.edits.now.items c.push_limited.new.edits.items c.in-Some.is c.push_limited.ensures

pub returns-in-None : goal.returns-in-None
returns-in-None c = none_pushed c.args.self.now.name c.args.self.now.limit c.args.stage.now.ends c.args.edits.now.items c.args.edits.now.items c.in-None.is refl
