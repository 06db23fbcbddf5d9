-- The results of drafting a version, in the table's terms.
use Rattle.std.proofs.Common.{◌≡◌, List, ap, sym, ◌∙◌, Ok, Err}
use Rattle.stage_graph.specs.declared.edit.Edit.{Edit}
use Rattle.stage_graph.specs.declared.fault.Fault.{Fault}
use Rattle.stage_graph.specs.declared.fault.Fault.TheVariants.{Refused, Cycle, Memory}
use Rattle.stage_graph.specs.Changes.{changed}
use Rattle.version_store.specs.Plain.{Origin, PlainVersion, PlainDraft}
use Rattle.version_store.specs.Drafts.{IsDraftOf, Drafts}
use Rattle.session_core.specs.Refusals.{of_fault}
use Rattle.session_core.specs.Applied.{IsDrafted, DraftsOrRefuses}
use Rattle.session_core.proofs.Cycles.{applied_ok, applied_refused, applied_cycle}

module _ (version : PlainVersion) (edits : List Edit) where
  pub refuses : (fault : Fault) → Drafts version edits (Err fault) → DraftsOrRefuses version edits (Err (of_fault fault))
  refuses (Refused refused) is = applied_refused edits version.graph refused is
  refuses (Cycle path) is = applied_cycle edits version.graph is.0 path is.1 is.2.0
  refuses Memory is = tt

  pub drafts : (draft : PlainDraft) → IsDraftOf version edits draft → IsDrafted version edits draft
  drafts draft is =
      let made : changed edits version.graph ≡ Ok draft.graph = ap (λ (o : Origin). changed o.edits o.graph) (sym is.origin) ∙ is.made.changed in
      record { origin = is.origin; applied = applied_ok edits version.graph draft.graph made is.made.ranked }
