-- What a table is to its callers.
use Rattle.std.specs.Prelude.{◌≡◌, ◌≢◌, ℕ, ◌⊎◌, List, [], ◌∷◌, ◌++◌, Option, Some, None, IsSome, MatchOption, slice_get, Result, Ok, Err}
use Rattle.version_store.specs.Plain.{PlainVersion, PlainDraft}
use Rattle.session_core.specs.Machine.{State, book, numbers_at}
use Rattle.session_core.specs.Log.{entry}
use Rattle.session_core.specs.declared.refusal.Refusal.TheVariants.{Foreign}
use Rattle.session_core.specs.declared.event.Entry.{Entry}
use Rattle.session_core.specs.declared.event.Event.{Event}
use Rattle.session_core.specs.declared.event.Event.TheVariants.{Commit}
use Rattle.session_core.specs.declared.event.Reply.{Reply}
use Rattle.session_core.specs.declared.event.Reply.TheVariants as replied
use Rattle.session_core.specs.declared.refusal.TableFault.{TableFault}
use Rattle.session_core.specs.declared.refusal.TableFault.TheVariants.{Refused, Memory}

-- the machine's state, the history, and how many commits there is capacity for
pub record TableView : Type 0 where
  pub state : State
  pub history : List Entry
  pub room : ℕ

-- state and history stay
abbrev pub IsSame : TableView → TableView → Type 0
IsSame t u = (u.state ≡ t.state) × (u.history ≡ t.history)

-- the reply is the machine's, and the history has one entry more, which says so
abbrev pub Books : TableView → ℕ → Event → Reply → TableView → Type 0
Books t who event reply u = (book t.state event ≡ Some (reply, u.state)) × (u.history ≡ t.history ++ entry who event reply ∷ [])

-- the reply of a result, where `Ok` has this reply; out of memory has none
abbrev pub reply_of : {A : Type 0} → (A → Reply) → Result A TableFault → Option Reply
reply_of name (Ok x) = Some (name x)
reply_of name (Err (Refused refusal)) = Some (replied.Refused refusal)
reply_of name (Err Memory) = None

-- the event was recorded with this reply; or there is none, and nothing changed
abbrev pub Answers : TableView → ℕ → Event → Option Reply → TableView → Type 0
Answers t who event reply u = MatchOption reply (IsSame t u) (λ r. Books t who event r u)

-- the session is open, and the version of the draft's base has another graph
abbrev pub IsForeignDraft : State → ℕ → PlainDraft → Type 0
IsForeignDraft s session draft = IsSome (numbers_at s session) × (version : PlainVersion) × (slice_get s.versions draft.origin.number ≡ Some version) × (version.graph ≢ draft.origin.graph)

abbrev pub commit_of : ℕ → PlainDraft → Event
commit_of session draft = Commit session draft.origin.number draft.origin.edits

-- the draft is foreign, which is the reply and is in the history, and the state stays
abbrev pub RefusesForeign : TableView → ℕ → ℕ → PlainDraft → Reply → TableView → Type 0
RefusesForeign t who session draft reply u =
    (reply ≡ replied.Refused (Foreign draft.origin.number)) × (u.state ≡ t.state) × (u.history ≡ t.history ++ entry who (commit_of session draft) reply ∷ [])

-- a foreign draft is refused, and any other one is recorded
abbrev pub BooksDraft : TableView → ℕ → ℕ → PlainDraft → Reply → TableView → Type 0
BooksDraft t who session draft reply u =
    (IsForeignDraft t.state session draft × RefusesForeign t who session draft reply u)
    ⊎ ((IsForeignDraft t.state session draft → ⊥) × Books t who (commit_of session draft) reply u)

abbrev pub AnswersDraft : TableView → ℕ → ℕ → PlainDraft → Option Reply → TableView → Type 0
AnswersDraft t who session draft reply u = MatchOption reply (IsSame t u) (λ r. BooksDraft t who session draft r u)

-- the version is the state's under its number
abbrev pub IsVersionOf : State → PlainVersion → Type 0
IsVersionOf s version = slice_get s.versions version.number ≡ Some version
