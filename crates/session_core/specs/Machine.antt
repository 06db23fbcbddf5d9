-- The machine: versions, and the sessions that stand at them.
use Rattle.std.specs.Prelude.{ℕ, ◌^◌, ◌==◌, not, ◌&&◌, nat_le, nat_lt, if◌then◌else◌, List, [], ◌∷◌, ◌++◌, length, Option, Some, None, is_some, slice_get, Result, Ok, Err}
use Rattle.std.specs.Ordering.{nat_cmp}
use Rattle.std.specs.Map.{lookup, remove_entry}
use Rattle.std.specs.BTreeMap.{is_at, insert_entry}
use Rattle.stage_graph.specs.declared.edit.Edit.{Edit}
use Rattle.stage_graph.specs.Plain.{PlainGraph}
use Rattle.version_store.specs.Plain.{Origin, PlainVersion}
use Rattle.session_core.specs.Applied.{applied}
use Rattle.session_core.specs.declared.refusal.Refusal.TheVariants.{SessionOpen, NoSession, NoVersion, Moved, AtBottom, Full, BadSession, TooManySessions}
use Rattle.session_core.specs.declared.refusal.Refusal.{Refusal}
use Rattle.session_core.specs.declared.event.Reply.{Reply}
use Rattle.session_core.specs.declared.event.Reply.TheVariants.{Opened, At, Committed, Undone, Closed, Refused}
use Rattle.session_core.specs.declared.event.Event.{Event}
use Rattle.session_core.specs.declared.event.Event.TheVariants.{Open, Head, Commit, Undo, Close}

-- a session's list of version numbers, which is never empty: the last one is its head, and the others lie below it, the nearest first
pub record Numbers : Type 0 where
  pub head : ℕ
  pub below : List ℕ

-- the versions, the greatest number of versions, and the open sessions with their lists
pub record State : Type 0 where
  pub versions : List PlainVersion
  pub most : ℕ
  pub sessions : List (ℕ × Numbers)

-- one version, and no session
abbrev pub opening : PlainVersion → ℕ → State
opening first most = record { versions = first ∷ []; most = most; sessions = [] }

-- the list of an open session
abbrev pub numbers_at : State → ℕ → Option Numbers
numbers_at s session = lookup (is_at (nat_cmp session)) s.sessions

-- the session has this list
abbrev pub put : State → ℕ → Numbers → State
put s session numbers = record s { sessions = insert_entry nat_cmp s.sessions session numbers }

-- the list of one number
abbrev pub alone : ℕ → Numbers
alone number = record { head = number; below = [] }

-- the list with one more number, which is then its head
abbrev pub with_head : ℕ → Numbers → Numbers
with_head number numbers = record { head = number; below = numbers.head ∷ numbers.below }

-- a reply and the state after it, or None where the machine gives no reply
abbrev pub Booked : Type 0
Booked = Option (Reply × State)

-- a refusal keeps the state
abbrev pub refuse : Refusal → State → Booked
refuse refusal s = Some (Refused refusal, s)

abbrev pub in_session : Option Numbers → State → (Numbers → Booked) → Booked
in_session None s go = refuse NoSession s
in_session (Some numbers) s go = go numbers

abbrev pub at_version : Option PlainVersion → State → (PlainVersion → Booked) → Booked
at_version None s go = refuse NoVersion s
at_version (Some version) s go = go version

abbrev pub book_open : State → ℕ → ℕ → Booked
book_open s session version =
    if not (nat_le 1 session && nat_lt session (2 ^ 16)) then refuse BadSession s else
    if is_some (numbers_at s session) then refuse SessionOpen s else
    if nat_le 1024 (length s.sessions) then refuse TooManySessions s else
    if nat_le (length s.versions) version then refuse NoVersion s else
    Some (Opened version, put s session (alone version))

abbrev pub book_head : State → ℕ → Booked
book_head s session = in_session (numbers_at s session) s (λ numbers. Some (At numbers.head, s))

-- the version is the next one, on top of the session's list
abbrev pub added : State → ℕ → Numbers → PlainVersion → State
added s session numbers version = put (record s { versions = s.versions ++ version ∷ [] }) session (with_head (length s.versions) numbers)

-- where the next version comes from: the base, whose graph this is, and the edits
abbrev pub from_base : ℕ → PlainGraph → List Edit → Origin
from_base base graph edits = record { number = base; graph = graph; edits = edits }

-- the version of the next number
abbrev pub next : State → Origin → PlainGraph → PlainVersion
next s origin graph = record { number = length s.versions; graph = graph; origin = Some origin }

-- the next version, or no reply where the edits are refused
abbrev pub commit_applied : State → ℕ → Numbers → Origin → Result PlainGraph Refusal → Booked
commit_applied s session numbers origin (Ok graph) = Some (Committed (length s.versions), added s session numbers (next s origin graph))
commit_applied s session numbers origin (Err refusal) = None

abbrev pub commit_at : State → ℕ → Numbers → ℕ → List Edit → PlainVersion → Booked
commit_at s session numbers base edits version =
    if not (numbers.head == base) then refuse (Moved numbers.head) s else
    if nat_le s.most (length s.versions) then refuse Full s else
    commit_applied s session numbers (from_base base version.graph edits) (applied edits version.graph)

abbrev pub book_commit : State → ℕ → ℕ → List Edit → Booked
book_commit s session base edits = in_session (numbers_at s session) s (λ numbers. at_version (slice_get s.versions base) s (λ version. commit_at s session numbers base edits version))

-- the numbers below stand without the head; the last one of a list stays
abbrev pub without_head : State → ℕ → List ℕ → Booked
without_head s session [] = refuse AtBottom s
without_head s session (number ∷ below) = Some (Undone number, put s session (record { head = number; below = below }))

abbrev pub book_undo : State → ℕ → Booked
book_undo s session = in_session (numbers_at s session) s (λ numbers. without_head s session numbers.below)

abbrev pub book_close : State → ℕ → Booked
book_close s session = in_session (numbers_at s session) s (λ _. Some (Closed, record s { sessions = remove_entry (is_at (nat_cmp session)) s.sessions }))

-- the machine's reply to an event, and the state after it
abbrev pub book : State → Event → Booked
book s (Open session version) = book_open s session version
book s (Head session) = book_head s session
book s (Commit session base edits) = book_commit s session base edits
book s (Undo session) = book_undo s session
book s (Close session) = book_close s session

-- the refusal, where there is one
abbrev pub refusal_in : Result PlainGraph Refusal → Option Refusal
refusal_in (Ok graph) = None
refusal_in (Err refusal) = Some refusal

abbrev pub rejected_at : Option PlainVersion → List Edit → Option Refusal
rejected_at None edits = Some NoVersion
rejected_at (Some version) edits = refusal_in (applied edits version.graph)

-- why a run doesn't pass a commit to the table: there is no such base, or its graph refuses the edits
abbrev pub rejection : State → Event → Option Refusal
rejection s (Commit session base edits) = rejected_at (slice_get s.versions base) edits
rejection s event = None

abbrev pub unless_rejected : Option Refusal → State → Booked → Booked
unless_rejected None s booked = booked
unless_rejected (Some refusal) s booked = refuse refusal s

-- one step of a run: for a commit, the base and the edits are checked first
abbrev pub step : State → Event → Booked
step s event = unless_rejected (rejection s event) s (book s event)
