-- What a client is to its callers.
use Rattle.std.specs.Prelude.{◌≡◌, ◌==◌, ◌<◌, ◌+◌, ℕ, List, [], ◌∷◌, ◌++◌, length, filter, Option, Some, None, IfSome, IsSomeAnd, MatchOption, slice_get}
use mathlib.Core.List.{IsPrefix}
use Rattle.version_store.specs.Plain.{PlainVersion}
use Rattle.session_core.specs.Log.{entry}
use Rattle.session_core.specs.declared.event.Entry.{Entry}
use Rattle.session_core.specs.declared.event.Event.{Event}
use Rattle.session_core.specs.declared.event.Reply.{Reply}
use Rattle.session_core.specs.declared.event.Reply.TheVariants.{Opened, At, Committed, Undone, Closed, Refused, Memory}
use Rattle.session_core.specs.declared.refusal.Refusal.{Refusal}
use Rattle.session_core.specs.declared.refusal.Refusal.TheVariants.{Moved}

-- a client's number, its calls of the table with their replies, the capacity for more calls, and the published versions that it has seen
pub record ClientView : Type 0 where
  pub number : ℕ
  pub calls : List Entry
  pub room : ℕ
  pub seen : List PlainVersion

-- the entries of one client, in the order of the log
abbrev pub entries_of : ℕ → List Entry → List Entry
entries_of who log = filter (λ e. e.who == who) log

-- number and calls stay
abbrev pub IsSameClient : ClientView → ClientView → Type 0
IsSameClient c d = (d.number ≡ c.number) × (d.calls ≡ c.calls)

-- the client has one call more, this one with its reply
abbrev pub Keeps : ClientView → Event → Reply → ClientView → Type 0
Keeps c event reply d = (d.number ≡ c.number) × (d.calls ≡ c.calls ++ entry c.number event reply ∷ [])

-- the client keeps the call with its reply; or there is none, and its calls stay
abbrev pub KeepsCall : ClientView → Event → Option Reply → ClientView → Type 0
KeepsCall c event reply d = MatchOption reply (IsSameClient c d) (λ r. Keeps c event r d)

-- what was seen before is a prefix of what is seen now
abbrev pub SeesOn : ClientView → ClientView → Type 0
SeesOn c d = IsPrefix c.seen d.seen

-- the head that a refusal carries
abbrev pub head_in : Refusal → Option ℕ
head_in (Moved head) = Some head
head_in others = None

-- the version that a reply names
abbrev pub named : Reply → Option ℕ
named (Opened number) = Some number
named (At number) = Some number
named (Committed number) = Some number
named (Undone number) = Some number
named Closed = None
named (Refused refusal) = head_in refusal
named Memory = None

-- the version that a reply names has been seen
abbrev pub HasSeen : ClientView → Reply → Type 0
HasSeen c reply = IfSome (named reply) (λ k. k < length c.seen)

-- the version that the reply names, if there is a reply, has been seen
abbrev pub HasSeenIn : ClientView → Option Reply → Type 0
HasSeenIn c reply = IfSome reply (HasSeen c)

-- the version has been seen under its number
abbrev pub IsSeen : ClientView → PlainVersion → Type 0
IsSeen c version = slice_get c.seen version.number ≡ Some version

-- the client has this number, has made no call, and has seen these versions
abbrev pub IsNew : ℕ → List PlainVersion → ClientView → Type 0
IsNew number seen c = (c.number ≡ number) × (c.calls ≡ []) × (c.seen ≡ seen)

-- this many clients, with the numbers from 1 on
abbrev pub AreNew : List PlainVersion → ℕ → List ClientView → Type 0
AreNew seen count clients = (length clients ≡ count) × ((i : ℕ) → i < count → IsSomeAnd (slice_get clients i) (IsNew (i + 1) seen))
