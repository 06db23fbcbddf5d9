use Rattle.std.proofs.Common.{arith}
use Rattle.trace_relations.proofs.FreeRows.{one_shortened}
use Rattle.trace_relations.proofs.free_places.FreePlaces.shorten.Goals as goal

pub way-preserved : goal.way-preserved
way-preserved c = record {
  from = omega arith;
  free = λ count free are first. one_shortened c.way.self _ c.way.place c.args.from c.args.to count free c.way.invariant.from (omega arith) c.set_at.ensures first (c.way.invariant.free count free are first);
}

pub returns-then-after-place : goal.returns-then-after-place
returns-then-after-place c = λ count free are first. one_shortened c.way.self _ c.way.place c.args.from c.args.to count free c.way.invariant.from (omega arith) c.set_at.ensures first (c.way.invariant.free count free are first)
