use Rattle.std.proofs.Common.{◌≡◌, [], Err, List, Ok, Result, refl, sym, ℕ}
use Rattle.trace_spans.specs.Jaeger.{references_of}
use Rattle.trace_spans.specs.References.{with_more}
use Rattle.trace_spans.specs.declared.fault.Fault.{Fault}
use Rattle.trace_spans.specs.declared.jaeger.references.References.{References}
use Rattle.trace_spans.proofs.jaeger.references.listed_references.Goals as goal

-- nothing before what is read
none_before : (after : Result References Fault) → with_more (record { parents = []; links = [] }) after ≡ after
none_before (Ok more) = refl
none_before (Err fault) = refl

begun : (parents links : List (List ℕ)) → parents ≡ [] → links ≡ [] → (after : Result References Fault) → after ≡ with_more (record { parents = parents; links = links }) after
begun parents links p q after = rw (p, q) (sym (none_before after))

pub loop-reference-init : goal.loop-reference-init
loop-reference-init c = begun c.new.result c.new-2.result c.new.ensures c.new-2.ensures (references_of c.args.trace.now c.args.list)
