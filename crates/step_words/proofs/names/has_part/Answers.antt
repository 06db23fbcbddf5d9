use Rattle.std.proofs.lemmas.Str.Pattern.{contains_text}
use Rattle.step_words.proofs.Parts.{part_told}
use Rattle.step_words.proofs.names.has_part.Goals as goal

pub returns : goal.returns
returns c = part_told c.contains.result c.args.name.now c.args.text.now (contains_text c.contains.result c.args.text.now c.args.name.now c.contains.ensures.cases)
