use Rattle.std.proofs.Common.{option_map}
use Rattle.json_names.proofs.Along.{IsSoFar}
use Rattle.json_names.proofs.circle.circle_of.Given as goal

abbrev pub invariant-loop-place : goal.invariant-loop-place
invariant-loop-place l = IsSoFar l.stages l.places l.place-index (option_map (λ stage. stage.now) l.before) l.names.items
