use Rattle.json_trees.proofs.Texts.{text_there, text_past}
use Rattle.json_trees.proofs.node.text_at.Goals as goal

pub returns-in-Some : goal.returns-in-Some
returns-in-Some c = text_there c.args.texts.now c.args.place c.in-Some.text.now c.in-Some.ensures.lookup.3.0 c.in-Some.ensures.lookup.1

pub returns-in-None : goal.returns-in-None
returns-in-None c = text_past c.args.texts.now c.args.place c.in-None.ensures.lookup.3
