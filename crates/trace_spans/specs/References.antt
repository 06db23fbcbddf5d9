-- References after others.
use Rattle.std.specs.Prelude.{◌++◌, Result, Ok}
use Rattle.trace_spans.specs.declared.fault.Fault.{Fault}
use Rattle.trace_spans.specs.declared.jaeger.references.References.{References}
use Rattle.trace_spans.specs.Members.{then_on}

abbrev pub joined : References → References → References
joined before after = record { parents = before.parents ++ after.parents; links = before.links ++ after.links }

-- what was read, with what is still to read after it
abbrev pub with_more : References → Result References Fault → Result References Fault
with_more before after = then_on after (λ more. Ok (joined before more))
