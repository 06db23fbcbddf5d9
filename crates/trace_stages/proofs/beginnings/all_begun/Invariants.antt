use Rattle.std.proofs.Common.{◌≡◌, ℕ, take}
use Rattle.std.specs.Prelude.{nat_eq}
use Rattle.std.specs.HashMap.{get_by}
use Rattle.trace_stages.specs.Beginnings.{all_begins, begun_from}
use Rattle.trace_stages.specs.Known.{plain_hads}
use Rattle.trace_stages.proofs.beginnings.all_begun.Given as goal

-- those so far
abbrev pub invariant-loop-holding : goal.invariant-loop-holding
invariant-loop-holding l = (place : ℕ) → get_by (nat_eq place) l.begun ≡ begun_from (all_begins (plain_hads (take l.holding-index l.holdings))) place
