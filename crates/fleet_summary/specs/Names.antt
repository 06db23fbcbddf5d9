-- The order of names, and that of failures.
use Rattle.std.specs.Prelude.{ℕ, List}
use Rattle.std.specs.Cmp.Lexicographic.{slice_cmp}
use Rattle.std.specs.Ordering.{nat_cmp, ordering_then}
use Rattle.std.specs.declared.cmp.Ordering.{Ordering}
use Rattle.fleet_summary.specs.declared.facts.Failure.{Failure}

-- by bytes
abbrev pub name_cmp : List ℕ → List ℕ → Ordering
name_cmp x y = slice_cmp nat_cmp x y

-- by exception, and then by group
abbrev pub failure_cmp : Failure → Failure → Ordering
failure_cmp x y = ordering_then (name_cmp x.exception y.exception) (name_cmp x.group y.group)
