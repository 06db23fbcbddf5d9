use Rattle.std.proofs.Common.{◌&&◌, take}
use Rattle.std.specs.Prelude.{is_some}
use Rattle.stage_ops.specs.States.{state_at}
use Rattle.propagate.specs.Reach.{has_read}
use Rattle.time_sweep.specs.Known.{rank_in}
use Rattle.time_sweep.proofs.Further.{IsOnlyOf}
use Rattle.time_sweep.proofs.handed.is_only_reader.Given as goal

abbrev pub invariant-loop-dependent : goal.invariant-loop-dependent
invariant-loop-dependent g l = IsOnlyOf (λ s. is_some (rank_in l.ranks s) && has_read l.version.graph.places (state_at l.before) l.feed s) l.reader (take l.dependent-index l.dependents)
