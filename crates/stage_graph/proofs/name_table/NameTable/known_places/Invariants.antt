use Rattle.std.proofs.Common.{◌≡◌, ◌++◌, drop}
use Rattle.stage_graph.specs.Checks.{are_known}
use Rattle.stage_graph.specs.Names.{found, places_of}
use Rattle.stage_graph.proofs.name_table.NameTable.known_places.Given as goal

-- the places so far, and then those of the names that are left
abbrev pub invariant-loop-name : goal.invariant-loop-name
invariant-loop-name l = record {
  made : places_of (found l.self) l.name-items ≡ l.places ++ places_of (found l.self) (drop l.name-index l.name-items);
  known : are_known (found l.self) l.name-items ≡ are_known (found l.self) (drop l.name-index l.name-items);
}
