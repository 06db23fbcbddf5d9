use Rattle.std.proofs.Common.{◌≡◌, ◌++◌, drop}
use Rattle.trace_stages.specs.Names.{names_from}
use Rattle.trace_stages.proofs.span_names.naming.names.Given as goal

-- those so far, and those of the spans that are left
abbrev pub invariant-loop-place : goal.invariant-loop-place
invariant-loop-place l = names_from l.base-items l.order 0 l.base-items ≡ l.names ++ names_from l.base-items l.order l.place (drop l.place l.base-items)
