-- What a table keeps.
use Rattle.std.specs.Prelude.{ℕ, ◌<◌, List, length, IfSome, All}
use Rattle.session_core.specs.Log.{IsLegal}
use Rattle.session_core.specs.Machine.{State, numbers_at}
use Rattle.session_core.specs.declared.event.Entry.{Entry}

-- the history is a legal log, and the state is its replay
pub record IsKept (s : State) (log : List Entry) : Type 0 where
  pub some : 0 < length s.versions
  pub legal : IsLegal log s

-- each number of a session's list is that of a version
abbrev pub StandAtVersions : State → Type 0
StandAtVersions s = (session : ℕ) → IfSome (numbers_at s session) (λ numbers. (numbers.head < length s.versions) × All (λ number. number < length s.versions) numbers.below)
