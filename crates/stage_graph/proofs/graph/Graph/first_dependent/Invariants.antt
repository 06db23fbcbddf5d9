use Rattle.std.proofs.Common.{◌≡◌, ◌<◌, ℕ, false}
use Rattle.stage_graph.specs.Plain.{stage_at, uses}
use Rattle.stage_graph.proofs.graph.Graph.first_dependent.Given as goal

-- no stage so far uses the place
abbrev pub invariant-loop-dependent : goal.invariant-loop-dependent
invariant-loop-dependent g l = (dependent : ℕ) → dependent < l.dependent → uses l.place (stage_at l.self.places dependent) ≡ false
