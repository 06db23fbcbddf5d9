-- What the comparison of clients with the log comes to, when the desk is to be closed.
use Rattle.std.proofs.Common.{◌≡◌, ◌↔◌, ℕ, Bool, true, false, List, length, refl, inr}
use Rattle.std.specs.Prelude.{All, IsTrue, MatchBool}
use Rattle.std.specs.List.{sum_by}
use Rattle.session_core.specs.Log.{opening_of}
use Rattle.session_core.specs.Machine.{State}
use Rattle.session_core.specs.TableView.{TableView}
use Rattle.desk.specs.Clients.{ClientView}
use Rattle.desk.specs.Closing.{IsClosed, IsTorn, Agrees, HaveOwnNumbers, GoesWith}
use Rattle.desk.specs.Locked.{IsReplayed}
use Rattle.desk.proofs.Counting.{each_of_one}

pub ends : (opening : State) (started : ℕ) (log : TableView) (clients : List ClientView) (agree : Bool)
    → IsReplayed log.history log.state → opening_of log.state ≡ opening → HaveOwnNumbers clients
    → sum_by (λ c. length c.calls) clients ≡ length log.history → All (GoesWith log.state.versions) clients
    → (IsTrue agree ↔ All (Agrees log.history) clients)
    → MatchBool agree (IsClosed log clients) (IsTorn opening started clients)
ends opening started log clients true replayed begins own counted seen same =
    let agree : All (Agrees log.history) clients = same.0 refl in
    record { replayed = replayed; agree = agree; one = each_of_one log.history clients agree own counted; counted = counted; seen = seen }
ends opening started log clients false replayed begins own counted seen same =
    inr (inr (record { log = log; replayed = replayed; begins = begins; counted = counted; disagrees = λ all. absurd (cc (same.1 all)) }))
