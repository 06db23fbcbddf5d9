-- What the lock guards.
use Rattle.std.specs.Prelude.{◌≡◌, ◌<◌, ℕ, List, [], ◌∷◌, length, Some}
use Rattle.version_store.specs.Plain.{PlainVersion}
use Rattle.session_core.specs.Log.{opening_of}
use Rattle.session_core.specs.Machine.{State, book}
use Rattle.session_core.specs.TableView.{TableView}
use Rattle.session_core.specs.declared.event.Entry.{Entry}

-- each entry's reply is the machine's at its point, and the last state is t
abbrev pub Replays : State → List Entry → State → Type 0
Replays s [] t = s ≡ t
Replays s (e ∷ es) t = (u : State) × (book s e.event ≡ Some (e.reply, u)) × Replays u es t

-- the log's replay from the opening gives this state, and no entry is of a foreign draft
abbrev pub IsReplayed : List Entry → State → Type 0
IsReplayed log s = Replays (opening_of s) log s

-- the table began with this state and is the replay of its history, the archive lists the table's versions, as many are published, and as many entries were counted as the history has
pub record IsLocked (opening : State) (table : TableView) (listed : List PlainVersion) (published counted : ℕ) : Type 0 where
  pub some : 0 < length table.state.versions
  pub begins : opening_of table.state ≡ opening
  pub replayed : IsReplayed table.history table.state
  pub listed_is : listed ≡ table.state.versions
  pub published_is : published ≡ length table.state.versions
  pub counted_is : counted ≡ length table.history
