-- What the edits of a version leave as it was.
use Rattle.std.proofs.Common.{◌≡◌, ℕ, List, Option, IfSome, subst, sym}
use Rattle.stage_graph.specs.declared.edit.Edit.{Edit}
use Rattle.stage_graph.specs.Plain.{PlainGraph}
use Rattle.stage_ops.specs.Evaluation.{at}
use Rattle.stage_ops.specs.Java.{java_step}
use Rattle.propagate.specs.Patched.{touched_by}
use Rattle.propagate.specs.Reach.{StaysUntouched}
use Rattle.version_store.specs.Plain.{Origin}
use Rattle.version_store.specs.Queries.{KeepsOthers}

-- for an origin and a graph that are the same
pub keeps_same : (origin other : Option Origin) (graph same : PlainGraph) → other ≡ origin → same ≡ graph → IfSome origin (λ origin. KeepsOthers origin graph) → IfSome other (λ origin. KeepsOthers origin same)
keeps_same origin other graph same is are kept =
    subst (λ (origin : Option Origin). IfSome origin (λ origin. KeepsOthers origin same)) (sym is)
    (subst (λ (graph : PlainGraph). IfSome origin (λ origin. KeepsOthers origin graph)) (sym are) kept)

-- what an edited graph leaves as it was, for the origin that its version has
pub keeps_edited : (origin : Origin) (old graph made : PlainGraph) (edits : List Edit) (found : List ℕ) → origin.graph ≡ old → origin.edits ≡ edits → made ≡ graph
    → found ≡ touched_by (java_step graph.mode) edits old.places graph.places
    → StaysUntouched (at (java_step old.mode)) (at (java_step graph.mode)) old.places graph.places found → KeepsOthers origin made
keeps_edited origin old graph made edits found same_graph same_edits are listed stays =
    subst (λ (graph : PlainGraph). KeepsOthers origin graph) (sym are)
    (subst (λ (edits : List Edit). StaysUntouched (at (java_step origin.graph.mode)) (at (java_step graph.mode)) origin.graph.places graph.places (touched_by (java_step graph.mode) edits origin.graph.places graph.places)) (sym same_edits)
    (subst (λ (old : PlainGraph). StaysUntouched (at (java_step old.mode)) (at (java_step graph.mode)) old.places graph.places (touched_by (java_step graph.mode) edits old.places graph.places)) (sym same_graph)
    (subst (λ found. StaysUntouched (at (java_step old.mode)) (at (java_step graph.mode)) old.places graph.places found) listed stays)))
