use Rattle.std.proofs.Common.{◌≡◌, ◌||◌, ℕ, take}
use Rattle.std.specs.Prelude.{nat_eq}
use Rattle.std.specs.HashSet.{contains_by}
use Rattle.std.specs.List.{list_any}
use Rattle.trace_stages.specs.TwoStages.{hosts}
use Rattle.trace_stages.proofs.two_stages.add_hosts.Given as goal

-- with those so far
abbrev pub invariant-loop-host : goal.invariant-loop-host
invariant-loop-host l = (place : ℕ) → contains_by (nat_eq place) l.places ≡ contains_by (nat_eq place) l.fn.places || list_any (hosts place) (take l.host-index l.all)
