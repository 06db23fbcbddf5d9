use Rattle.trace_relations.proofs.Finding.{got}
use Rattle.trace_relations.proofs.Reaching.{said_at}
use Rattle.trace_relations.proofs.placing.narrowed_at.Goals as goal

pub says_of-requires-clause-pair : goal.says_of-requires-clause-pair
says_of-requires-clause-pair c = said_at c.args.pairs.now c.args.number c.in-Some.pair.now c.requires.pairs (got c.args.pairs.now c.args.number c.in-Some.pair c.in-Some.ensures.lookup)
