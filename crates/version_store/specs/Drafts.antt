-- The results of drafting a version.
use Rattle.std.specs.Prelude.{ℕ, ◌≡◌, List, Result, Ok, Err}
use Rattle.stage_graph.specs.declared.edit.Edit.{Edit}
use Rattle.stage_graph.specs.declared.fault.Fault.{Fault}
use Rattle.stage_graph.specs.declared.fault.Fault.TheVariants.{Refused, Cycle, Memory}
use Rattle.stage_graph.specs.Plain.{PlainGraph}
use Rattle.stage_graph.specs.Walk.{IsRanked}
use Rattle.stage_graph.specs.Changes.{changed, IsNewCycle}
use Rattle.stage_ops.specs.Java.{java_step}
use Rattle.propagate.specs.Patched.{touched_by, IsCountOf}
use Rattle.version_store.specs.Plain.{Origin, PlainVersion, PlainDraft}

-- the edits make this graph of the origin's, and it has no cycle
pub record IsMadeBy (origin : Origin) (graph : PlainGraph) : Type 0 where
  pub changed : changed origin.edits origin.graph ≡ Ok graph
  pub ranked : IsRanked graph.places

-- the version is the one that was edited
abbrev pub origin_at : PlainVersion → List Edit → Origin
origin_at version edits = record { number = version.number; graph = version.graph; edits = edits }

-- a draft of the version by these edits
pub record IsDraftOf (version : PlainVersion) (edits : List Edit) (draft : PlainDraft) : Type 0 where
  pub origin : draft.origin ≡ origin_at version edits
  pub made : IsMadeBy draft.origin draft.graph

-- a draft; or the refusal of the edits; or out of memory
abbrev pub Drafts : PlainVersion → List Edit → Result PlainDraft Fault → Type 0
Drafts version edits (Ok draft) = IsDraftOf version edits draft
Drafts version edits (Err (Refused refused)) = changed edits version.graph ≡ Err refused
Drafts version edits (Err (Cycle path)) = (graph : PlainGraph) × (changed edits version.graph ≡ Ok graph) × IsNewCycle edits graph.places path
Drafts version edits (Err Memory) = Unit {0}

-- the change of the count of computed stages if there is no draft: none if the edits are refused; else no more than they touch
abbrev pub IsCountAfter : List Edit → PlainGraph → ℕ → ℕ → Type 0
IsCountAfter edits graph before after = IsCountOf (λ made. touched_by (java_step made.mode) edits graph.places made.places) (changed edits graph) before after
