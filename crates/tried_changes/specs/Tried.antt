-- The version that changes make of one.
use Rattle.std.specs.Prelude.{◌≡◌, List, Result, Ok, Err}
use Rattle.stage_graph.specs.declared.edit.Edit.{Edit}
use Rattle.change_words.specs.declared.change.Change.{Change}
use Rattle.change_words.specs.declared.fault.MakingFault.{MakingFault}
use Rattle.change_words.specs.Making.{IsMade, edits_of}
use Rattle.version_store.specs.Drafts.{IsDraftOf}
use Rattle.version_store.specs.Plain.{PlainDraft, PlainVersion, numbered}

-- version 1, as these edits make it
pub record IsDrafted (version : PlainVersion) (edits : List Edit) (made : PlainVersion) : Type 0 where
  pub draft : PlainDraft
  pub of : IsDraftOf version edits draft
  pub is : made ≡ numbered draft 1

-- version 1, as the edits make it that the changes are
pub record IsMadeByAll (version : PlainVersion) (changes : List Change) (made : PlainVersion) : Type 0 where
  pub edits : List Edit
  pub are : edits_of changes version.graph ≡ Ok edits
  pub drafted : IsDrafted version edits made

-- that version, or why the changes are no edits; or memory is out
abbrev pub IsTried : PlainVersion → List Change → Result PlainVersion MakingFault → Type 0
IsTried version changes (Ok made) = IsMadeByAll version changes made
IsTried version changes (Err fault) = IsMade (Err fault) (edits_of changes version.graph)
