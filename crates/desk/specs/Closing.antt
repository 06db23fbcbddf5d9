-- The result of closing a desk.
use Rattle.std.specs.Prelude.{◌≡◌, ◌≢◌, ◌<◌, ◌⊎◌, ◌==◌, ℕ, List, [], ◌∷◌, All, length}
use Rattle.std.specs.List.{sum_by, count_by}
use mathlib.Core.List.{IsPrefix}
use Rattle.version_store.specs.Plain.{PlainVersion}
use Rattle.session_core.specs.declared.event.Entry.{Entry}
use Rattle.session_core.specs.Log.{opening_of}
use Rattle.session_core.specs.Machine.{State}
use Rattle.session_core.specs.TableView.{TableView}
use Rattle.desk.specs.Clients.{ClientView, entries_of}
use Rattle.desk.specs.Locked.{IsReplayed}

-- the client's calls are what the log has of it
abbrev pub Agrees : List Entry → ClientView → Type 0
Agrees log c = c.calls ≡ entries_of c.number log

-- no two clients have one number
abbrev pub HaveOwnNumbers : List ClientView → Type 0
HaveOwnNumbers [] = Unit {0}
HaveOwnNumbers (c ∷ cs) = All (λ d. d.number ≢ c.number) cs × HaveOwnNumbers cs

-- of these versions and what the client has seen, one is a prefix of the other
pub record GoesWith (versions : List PlainVersion) (c : ClientView) : Type 0 where
  pub one_begins : IsPrefix c.seen versions ⊎ IsPrefix versions c.seen

-- the entry is of exactly one of the clients
abbrev pub IsOfOne : List ClientView → Entry → Type 0
IsOfOne clients e = count_by (λ c. e.who == c.number) clients ≡ 1

-- The log is legal and has no entry of a foreign draft. Each client's calls are what the log has of it, each entry is of
-- exactly one client, and the calls are as many as the entries: so each entry is kept once. What each client has seen of
-- the versions agrees with the log's
pub record IsClosed (log : TableView) (clients : List ClientView) : Type 0 where
  pub replayed : IsReplayed log.history log.state
  pub agree : All (Agrees log.history) clients
  pub one : All (IsOfOne clients) log.history
  pub counted : sum_by (λ c. length c.calls) clients ≡ length log.history
  pub seen : All (GoesWith log.state.versions) clients

-- there is a log that is legal from this opening on, with as many entries as the clients have calls, of which some client's
-- calls are not what the log has of it
pub record IsOtherLog (opening : State) (clients : List ClientView) : Type 0 where
  pub log : TableView
  pub replayed : IsReplayed log.history log.state
  pub begins : opening_of log.state ≡ opening
  pub counted : sum_by (λ c. length c.calls) clients ≡ length log.history
  pub disagrees : All (Agrees log.history) clients → ⊥

-- there are more clients than were started, or two of them have one number, or the log has other calls
abbrev pub IsTorn : State → ℕ → List ClientView → Type 0
IsTorn opening started clients = (started < length clients) ⊎ (HaveOwnNumbers clients → ⊥) ⊎ IsOtherLog opening clients
