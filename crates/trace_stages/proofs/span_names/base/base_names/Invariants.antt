use Rattle.std.proofs.Common.{◌≡◌, map, take}
use Rattle.trace_stages.specs.Names.{base_name}
use Rattle.trace_stages.proofs.span_names.base.base_names.Given as goal

-- those so far
abbrev pub invariant-loop-span : goal.invariant-loop-span
invariant-loop-span l = l.names ≡ map base_name (take l.span-index l.spans)
