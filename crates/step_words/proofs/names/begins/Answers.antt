use Rattle.std.proofs.lemmas.Str.Pattern.{starts_text}
use Rattle.step_words.proofs.names.begins.Goals as goal

pub returns : goal.returns
returns c = starts_text c.starts_with.result c.args.text.now c.args.name.now c.starts_with.ensures.cases
