use Rattle.std.proofs.Common.{◌≡◌, ◌<◌, ℕ, false}
use Rattle.std.specs.Prelude.{slice_index}
use Rattle.stage_graph.specs.Plain.{stage_at}
use Rattle.stage_graph.specs.Changes.{is_moved}
use Rattle.stage_graph.proofs.graph.Graph.new_cycle.Given as goal

-- no stage so far is added or rewired
abbrev pub invariant-loop-begin : goal.invariant-loop-begin
invariant-loop-begin g l = (k : ℕ) → k < l.begin → is_moved l.edits (stage_at l.self.places (slice_index l.path k)) ≡ false
