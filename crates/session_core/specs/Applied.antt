-- The graph that a list of edits makes, or the refusal.
use Rattle.std.specs.Prelude.{ℕ, zero, suc, ◌≡◌, Bool, nat_lt, if◌then◌else◌, List, length, Option, Result, Ok, Err}
use Rattle.std.specs.List.{list_any}
use Rattle.stage_graph.specs.declared.stage.Stage.{Stage}
use Rattle.stage_graph.specs.declared.edit.Edit.{Edit}
use Rattle.stage_graph.specs.declared.fault.Refused.{Refused}
use Rattle.stage_graph.specs.Plain.{PlainGraph, feeds_at, all_places}
use Rattle.stage_graph.specs.Changes.{changed}
use Rattle.version_store.specs.Plain.{PlainVersion, PlainDraft}
use Rattle.version_store.specs.Drafts.{origin_at}
use Rattle.session_core.specs.declared.refusal.Refusal.TheVariants.{Cycle, Edits}
use Rattle.session_core.specs.declared.refusal.Refusal.{Refusal}
use Rattle.session_core.specs.declared.refusal.TableFault.{TableFault}
use Rattle.session_core.specs.declared.refusal.TableFault.TheVariants as table

-- whether a walk of this many steps begins at the place, each step from a place to one of its feeds
abbrev pub has_walk : List (Option Stage) → ℕ → ℕ → Bool
has_walk places zero place = nat_lt place (length places)
has_walk places (suc steps) place = list_any (has_walk places steps) (feeds_at places place)

-- whether some walk makes as many steps as there are places, and so visits a place twice
abbrev pub has_cycle : List (Option Stage) → Bool
has_cycle places = list_any (has_walk places (length places)) (all_places places)

-- the check for cycles, which comes last
abbrev pub settled : Result PlainGraph Refused → Result PlainGraph Refusal
settled (Ok graph) = if has_cycle graph.places then Err Cycle else Ok graph
settled (Err refused) = Err (Edits refused)

-- the graph that the edits make, or the refusal of the first edit that is refused, or else that of a cycle
abbrev pub applied : List Edit → PlainGraph → Result PlainGraph Refusal
applied edits graph = settled (changed edits graph)

-- the draft is of the version, and the edits make its graph
pub record IsDrafted (version : PlainVersion) (edits : List Edit) (draft : PlainDraft) : Type 0 where
  pub origin : draft.origin ≡ origin_at version edits
  pub applied : applied edits version.graph ≡ Ok draft.graph

-- a draft of the version; or the refusal of the edits; or out of memory
abbrev pub DraftsOrRefuses : PlainVersion → List Edit → Result PlainDraft TableFault → Type 0
DraftsOrRefuses version edits (Ok draft) = IsDrafted version edits draft
DraftsOrRefuses version edits (Err (table.Refused refusal)) = applied edits version.graph ≡ Err refusal
DraftsOrRefuses version edits (Err table.Memory) = Unit {0}
