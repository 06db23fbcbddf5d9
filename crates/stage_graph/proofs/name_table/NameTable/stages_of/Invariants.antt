use Rattle.std.proofs.Common.{◌≡◌, ◌++◌, drop, length, true}
use Rattle.stage_graph.specs.Names.{found}
use Rattle.stage_graph.specs.Loading.{AreFirst, first_refused, stages_from}
use Rattle.stage_graph.proofs.name_table.NameTable.stages_of.Given as goal

-- the stages so far, and then those that are left, of which the first refusal is, each with its own name if they are distinct
abbrev pub invariant-loop-place : goal.invariant-loop-place
invariant-loop-place g l = record {
  made : stages_from (found l.self) 0 l.specs ≡ g.R.Stages.Keeps.items l.stages ++ stages_from (found l.self) l.place (drop l.place l.specs);
  refused : first_refused (found l.self) 0 l.specs ≡ first_refused (found l.self) l.place (drop l.place l.specs);
  own : l.are_distinct ≡ true → AreFirst (found l.self) l.place (drop l.place l.specs);
  each : length (g.R.Stages.Keeps.items l.stages) ≡ l.place;
}
