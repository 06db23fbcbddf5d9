use Rattle.std.proofs.Common.{◌≡◌, ◌||◌, ℕ, take}
use Rattle.std.specs.Prelude.{nat_eq}
use Rattle.std.specs.HashSet.{contains_by}
use Rattle.std.specs.List.{list_any}
use Rattle.trace_stages.specs.TwoStages.{waits}
use Rattle.trace_stages.proofs.two_stages.add_waiting.Given as goal

-- with those so far
abbrev pub invariant-loop-parent : goal.invariant-loop-parent
invariant-loop-parent l = (place : ℕ) → contains_by (nat_eq place) l.places ≡ contains_by (nat_eq place) l.fn.places || list_any (waits place) (take l.parent-index l.all)
