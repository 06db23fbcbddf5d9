use Rattle.std.proofs.Common.{◌≡◌, drop}
use Rattle.stage_graph.specs.Names.{found}
use Rattle.stage_graph.specs.Loading.{first_refused}
use Rattle.stage_graph.proofs.name_table.NameTable.first_refused.Given as goal

-- the first refusal is that of the stages that are left
abbrev pub invariant-loop-at : goal.invariant-loop-at
invariant-loop-at l = first_refused (found l.self) 0 l.specs ≡ first_refused (found l.self) l.at (drop l.at l.specs)
