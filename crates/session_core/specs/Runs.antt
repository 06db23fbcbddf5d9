-- Runs over lists of events.
use Rattle.std.specs.Prelude.{◌≡◌, ◌⊎◌, List, [], ◌∷◌, Option, Some, None, MatchOption}
use Rattle.session_core.specs.Machine.{rejection}
use Rattle.session_core.specs.TableView.{TableView, IsSame, Books}
use Rattle.session_core.specs.declared.event.Event.{Event}
use Rattle.session_core.specs.declared.event.Reply.{Reply}
use Rattle.session_core.specs.declared.event.Reply.TheVariants.{Refused, Memory}
use Rattle.session_core.specs.declared.refusal.Refusal.{Refusal}

-- the event is rejected with this reply, and nothing changed; or else it is recorded, as asked by client 0
abbrev pub Takes : Option Refusal → TableView → Event → Reply → TableView → Type 0
Takes (Some refusal) t event reply u = (reply ≡ Refused refusal) × IsSame t u
Takes None t event reply u = Books t 0 event reply u

-- the event is processed with this reply; or memory ran out, and nothing changed
abbrev pub Replies : TableView → Event → Reply → TableView → Type 0
Replies t event reply u = Takes (rejection t.state event) t event reply u ⊎ ((reply ≡ Memory) × IsSame t u)

-- the replies to the events, in order, lead from one table to the other
abbrev pub Runs : TableView → List Event → List Reply → TableView → Type 0
Runs t [] [] u = IsSame t u
Runs t (event ∷ events) (reply ∷ replies) u = (between : TableView) × Replies t event reply between × Runs between events replies u
Runs t events replies u = ⊥

-- the event is processed with the reply, if there is one; or else nothing changed
abbrev pub TakesOrStays : TableView → Event → Option Reply → TableView → Type 0
TakesOrStays t event reply u = MatchOption reply (IsSame t u) (λ r. Takes (rejection t.state event) t event r u)
