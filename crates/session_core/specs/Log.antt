-- Logs: what was asked, by whom, and what was answered.
use Rattle.std.specs.Prelude.{◌≡◌, ℕ, ◌<◌, ◌⊎◌, List, [], ◌∷◌, length, take, Some, IsSome}
use Rattle.session_core.specs.Machine.{State, book, numbers_at}
use Rattle.session_core.specs.declared.refusal.Refusal.TheVariants.{Foreign}
use Rattle.session_core.specs.declared.event.Event.{Event}
use Rattle.session_core.specs.declared.event.Event.TheVariants.{Commit}
use Rattle.session_core.specs.declared.event.Reply.{Reply}
use Rattle.session_core.specs.declared.event.Reply.TheVariants.{Refused}
use Rattle.session_core.specs.declared.event.Entry.{Entry}

abbrev pub entry : ℕ → Event → Reply → Entry
entry who event reply = record { who = who; event = event; reply = reply }

-- a commit of an open session on a version of the machine, answered "of another graph"
abbrev pub IsForeign : State → Event → Reply → Type 0
IsForeign s (Commit session base edits) reply = IsSome (numbers_at s session) × (base < length s.versions) × (reply ≡ Refused (Foreign base))
IsForeign s event reply = ⊥

-- the reply is the machine's, and leads from s to t; or it is "of another graph", and keeps the state
abbrev pub Enters : State → Entry → State → Type 0
Enters s e t = (book s e.event ≡ Some (e.reply, t)) ⊎ (IsForeign s e.event e.reply × (t ≡ s))

-- each entry is the machine's at its point, and the last state is t: the log is legal, and t is its replay
abbrev pub Leads : State → List Entry → State → Type 0
Leads s [] t = s ≡ t
Leads s (e ∷ es) t = (u : State) × Enters s e u × Leads u es t

-- the state that these versions began with: the first of them, and no session
abbrev pub opening_of : State → State
opening_of s = record { versions = take 1 s.versions; most = s.most; sessions = [] }

-- the log is legal, and its replay from the opening gives this state
abbrev pub IsLegal : List Entry → State → Type 0
IsLegal log s = Leads (opening_of s) log s
