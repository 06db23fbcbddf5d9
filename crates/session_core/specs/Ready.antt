-- A commit that is prepared.
use Rattle.std.specs.Prelude.{◌≡◌, ℕ, ◌<◌, List, length, Some, Result, Ok, Err}
use Rattle.stage_graph.specs.declared.edit.Edit.{Edit}
use Rattle.version_store.specs.Plain.{PlainVersion, PlainDraft, numbered}
use Rattle.session_core.specs.Adding.{MayAdd}
use Rattle.session_core.specs.Machine.{book_commit, added}
use Rattle.session_core.specs.TableView.{TableView, Books, IsSame, commit_of}
use Rattle.session_core.specs.declared.event.Reply.TheVariants as replied
use Rattle.session_core.specs.declared.refusal.TableFault.{TableFault}
use Rattle.session_core.specs.declared.refusal.TableFault.TheVariants.{Refused, Memory}

-- whose commit, of which session, base and edits, and the version to come
pub record PlainReady : Type 0 where
  pub who : ℕ
  pub session : ℕ
  pub base : ℕ
  pub edits : List Edit
  pub version : PlainVersion

-- the table may finish this commit: there is capacity, its version may be added, and the machine records just this
pub record IsReady (t : TableView) (ready : PlainReady) : Type 0 where
  pub room : 0 < t.room
  pub may : MayAdd t.state ready.session ready.version
  pub booked : book_commit t.state ready.session ready.base ready.edits ≡ Some (replied.Committed (length t.state.versions), added t.state ready.session may.numbers ready.version)

-- the commit that is ready is of this session and this draft
pub record IsCommitOf (who session : ℕ) (draft : PlainDraft) (ready : PlainReady) : Type 0 where
  pub by_whom : ready.who ≡ who
  pub same_session : ready.session ≡ session
  pub same_base : ready.base ≡ draft.origin.number
  pub same_edits : ready.edits ≡ draft.origin.edits
  pub version : ready.version ≡ numbered draft ready.version.number

-- the commit is ready and nothing is recorded; or a refusal is recorded; or memory ran out and nothing changed
abbrev pub Prepares : TableView → ℕ → ℕ → PlainDraft → Result PlainReady TableFault → TableView → Type 0
Prepares t who session draft (Ok ready) u = IsSame t u × IsReady u ready × IsCommitOf who session draft ready
Prepares t who session draft (Err (Refused refusal)) u = Books t who (commit_of session draft) (replied.Refused refusal) u
Prepares t who session draft (Err Memory) u = IsSame t u
