use Rattle.trace_relations.proofs.GivingUp.{contains_is}
use Rattle.trace_relations.proofs.given_up.has_word.Goals as goal

pub returns : goal.returns
returns c = contains_is c.contains.result c.args.name.now c.args.word.now c.contains.ensures.cases
