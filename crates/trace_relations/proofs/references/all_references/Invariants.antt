use Rattle.std.proofs.Common.{◌≡◌, ◌++◌, drop}
use Rattle.trace_relations.specs.Parents.{all_references, references_from}
use Rattle.trace_relations.proofs.references.all_references.Given as goal

-- those so far, and those of the spans that are left
abbrev pub invariant-loop-place : goal.invariant-loop-place
invariant-loop-place l = all_references l.spans ≡ l.all.items ++ references_from l.spans l.place (drop l.place l.spans)
