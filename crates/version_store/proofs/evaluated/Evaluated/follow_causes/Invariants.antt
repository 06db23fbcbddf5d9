use Rattle.std.proofs.Common.{◌≡◌, ◌-◌, ◌++◌, [], length}
use Rattle.stage_graph.specs.Walk.{from_feeds}
use Rattle.scratch_eval.specs.Path.{path, path_step, state_in}
use Rattle.version_store.proofs.evaluated.Evaluated.follow_causes.Given as goal

abbrev pub invariant-loop : goal.invariant-loop
invariant-loop g l =
    l.path.items ++ from_feeds [] (path_step l.self.mode (state_in l.self)) l.self.places (length l.self.places - l.counter) l.next ≡ path l.self l.place
