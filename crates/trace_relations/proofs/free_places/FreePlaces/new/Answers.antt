use Rattle.trace_relations.proofs.FreeRows.{none_free}
use Rattle.trace_relations.proofs.free_places.FreePlaces.new.Goals as goal

pub returns : goal.returns
returns c = none_free _ c.new.ensures.items
