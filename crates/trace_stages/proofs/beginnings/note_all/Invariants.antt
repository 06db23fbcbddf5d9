use Rattle.std.proofs.Common.{◌≡◌, ℕ, take}
use Rattle.std.specs.Prelude.{nat_eq}
use Rattle.std.specs.HashMap.{get_by}
use Rattle.std.specs.Option.{option_or}
use Rattle.trace_stages.specs.Beginnings.{begun_from}
use Rattle.trace_stages.proofs.beginnings.note_all.Given as goal

-- with those so far
abbrev pub invariant-loop-begin : goal.invariant-loop-begin
invariant-loop-begin l = (place : ℕ) → get_by (nat_eq place) l.begun ≡ option_or (get_by (nat_eq place) l.fn.begun) (begun_from (take l.begin-index l.begins) place)
