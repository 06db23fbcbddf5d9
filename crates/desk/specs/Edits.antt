-- The result of an edit, and what its client keeps of it.
use Rattle.std.specs.Prelude.{◌≡◌, ◌≤◌, ◌≢◌, ℕ, List, length, Some, IsSomeAnd, slice_get, Result, Ok, Err}
use Rattle.stage_graph.specs.declared.edit.Edit.{Edit}
use Rattle.version_store.specs.Plain.{PlainVersion}
use Rattle.version_store.specs.Drafts.{origin_at}
use Rattle.session_core.specs.Applied.{applied}
use Rattle.session_core.specs.declared.event.Event.TheVariants.{Commit}
use Rattle.session_core.specs.declared.event.Reply.TheVariants.{Committed, Refused}
use Rattle.session_core.specs.declared.refusal.Refusal.{Refusal}
use Rattle.desk.specs.declared.fault.EditFault.{EditFault}
use Rattle.desk.specs.declared.fault.EditFault.TheVariants as fault
use Rattle.desk.specs.Clients.{ClientView, Keeps, IsSameClient, HasSeen, IsSeen}
use Rattle.desk.specs.Committing.{RefusesCommit}

-- the version comes from the base by these edits: its parent is the base, and its graph is the base's with the edits applied
pub record IsEditOf (base : PlainVersion) (edits : List Edit) (version : PlainVersion) : Type 0 where
  pub origin : version.origin ≡ Some (origin_at base edits)
  pub applied : applied edits base.graph ≡ Ok version.graph

-- made: the edit of the base, whose commit the client keeps, and which it has seen under its number.
-- A refusal of the table is kept as the commit's reply. Any other fault leaves the calls as they were:
-- no such version has been seen, the version of that number has another graph, the edits are refused, or memory ran out
abbrev pub Edits : ClientView → ℕ → PlainVersion → List Edit → Result PlainVersion EditFault → ClientView → Type 0
Edits c session base edits (Ok made) d =
    Keeps c (Commit session base.number edits) (Committed made.number) d × IsSeen d made × IsEditOf base edits made
Edits c session base edits (Err (fault.Table refusal)) d =
    Keeps c (Commit session base.number edits) (Refused refusal) d × HasSeen d (Refused refusal) × RefusesCommit base.number refusal
Edits c session base edits (Err (fault.Edits refusal)) d = IsSameClient c d × (applied edits base.graph ≡ Err refusal)
Edits c session base edits (Err fault.NoVersion) d = IsSameClient c d × (length d.seen ≤ base.number)
Edits c session base edits (Err (fault.Foreign number)) d =
    IsSameClient c d × (number ≡ base.number) × IsSomeAnd (slice_get d.seen base.number) (λ known. known.graph ≢ base.graph)
Edits c session base edits (Err fault.Memory) d = IsSameClient c d

-- the fault is not a refusal of the base
abbrev pub IsOfKnown : EditFault → Type 0
IsOfKnown fault.NoVersion = ⊥
IsOfKnown (fault.Foreign number) = ⊥
IsOfKnown (fault.Table refusal) = Unit {0}
IsOfKnown (fault.Edits refusal) = Unit {0}
IsOfKnown fault.Memory = Unit {0}
