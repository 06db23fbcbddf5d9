use Rattle.std.proofs.Common.{rules}
use Rattle.trace_relations.proofs.FreeRows.{one_more_free}
use Rattle.trace_relations.proofs.free_places.FreePlaces.add.Goals as goal

pub returns : goal.returns
returns c = λ count free are. one_more_free c.args.self.now _ c.len-place.result count free (search rules) c.in_ok-push.ensures.items are
