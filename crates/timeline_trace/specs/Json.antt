-- The parts of an event, and the line that one is written as.
use Rattle.std.specs.Prelude.{ℕ, List, [], ◌∷◌, ◌++◌, codes}
use Rattle.serde_json.specs.Data as tree
use Rattle.serde_json.specs.Data.{Data, number, string, unsigned, Members, no_members, put}
use Rattle.serde_json.specs.Written.{compact_text}
use Rattle.timeline_trace.specs.declared.labels.Track.{Track}

abbrev pub text : List ℕ → Data
text bytes = string bytes

abbrev pub count : ℕ → Data
count amount = number (unsigned amount)

-- values by the names that they have as members of an object
abbrev pub NamedValues : Type 0
NamedValues = List (List ℕ × Data)

-- the members, with these as well
abbrev pub with : Members → NamedValues → Members
with members [] = members
with members (named ∷ others) = with (put named.0 named.1 members) others

-- the object of these members
abbrev pub object : NamedValues → Data
object named = tree.object (with no_members named)

-- the phase, the process, the row's number from 1 on, and the name
abbrev pub event_members : List ℕ → Track → List ℕ → NamedValues
event_members phase track name = (codes "ph", text phase) ∷ (codes "pid", count track.process) ∷ (codes "tid", count track.row) ∷ (codes "name", text name) ∷ []

-- an event of these and other members
abbrev pub event : List ℕ → Track → List ℕ → NamedValues → Data
event phase track name members = object (event_members phase track name ++ members)

-- an event that names a thread or a process
abbrev pub naming_event : Track → List ℕ → List ℕ → Data
naming_event track kind name = event (codes "M") track kind ((codes "args", object ((codes "name", text name) ∷ [])) ∷ [])

-- an event behind others
abbrev pub line_of : Data → List ℕ
line_of event = codes ",\n" ++ compact_text event
