use Rattle.std.proofs.Common.{◌≡◌, map}
use Rattle.std.specs.Prelude.{nat_eq}
use Rattle.std.specs.HashMap.{get_by}
use Rattle.std.specs.List.{range_with_len}
use Rattle.trace_stages.specs.Beginnings.{entry}
use Rattle.trace_stages.specs.Known.{plain_known}
use Rattle.trace_stages.specs.Joins.{plain_joined}
use Rattle.trace_stages.proofs.beginnings.all_entries.Given as goal

-- those so far
abbrev pub invariant-loop-place : goal.invariant-loop-place
invariant-loop-place l = map plain_joined l.entries.items ≡ map (entry (plain_known l.known) (λ other. get_by (nat_eq other) l.begun)) (range_with_len 0 l.place)
