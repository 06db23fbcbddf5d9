-- Runs, one step longer, and what a step of a run is to the machine.
use Rattle.std.proofs.Common.{◌≡◌, ◌≢◌, ◌⊎◌, inl, inr, List, [], ◌∷◌, ◌++◌, Option, Some, None, refl, ap, sym, subst, ◌∙◌}
use Rattle.session_core.specs.declared.event.Event.{Event}
use Rattle.session_core.specs.declared.event.Reply.{Reply}
use Rattle.session_core.specs.declared.event.Reply.TheVariants.{Memory}
use Rattle.session_core.specs.declared.event.Entry.{Entry}
use Rattle.session_core.specs.declared.refusal.Refusal.{Refusal}
use Rattle.session_core.specs.Machine.{State, rejection, unless_rejected, book, step}
use Rattle.session_core.specs.TableView.{TableView, IsSame}
use Rattle.session_core.specs.Runs.{Takes, Replies, Runs}

-- what comes from a table comes from one with the same state and history
Takes-from : (r : Option Refusal) (t same : TableView) (event : Event) (reply : Reply) (u : TableView) → IsSame t same → Takes r same event reply u → Takes r t event reply u
Takes-from (Some refusal) t same event reply u is takes = (takes.0, (takes.1.0 ∙ is.0, takes.1.1 ∙ is.1))
Takes-from None t same event reply u is takes =
    (ap (λ (s : State). book s event) (sym is.0) ∙ takes.0, takes.1 ∙ ap (λ (log : List Entry). log ++ record { who = 0; event = event; reply = reply } ∷ []) is.1)

Replies-from : (t same : TableView) (event : Event) (reply : Reply) (u : TableView) → IsSame t same → Replies same event reply u → Replies t event reply u
Replies-from t same event reply u is (inl takes) = inl (Takes-from (rejection t.state event) t same event reply u is (subst (λ (s : State). Takes (rejection s event) same event reply u) is.0 takes))
Replies-from t same event reply u is (inr none) = inr (none.0, (none.1.0 ∙ is.0, none.1.1 ∙ is.1))

pub Runs-snoc : (s : TableView) (events : List Event) (replies : List Reply) (t : TableView) (event : Event) (reply : Reply) (u : TableView)
    → Runs s events replies t → Replies t event reply u → Runs s (events ++ event ∷ []) (replies ++ reply ∷ []) u
Runs-snoc s [] [] t event reply u is replied = (u, Replies-from s t event reply u is replied, (refl, refl))
Runs-snoc s [] (r ∷ replies) t event reply u is replied = absurd is
Runs-snoc s (e ∷ events) [] t event reply u is replied = absurd is
Runs-snoc s (e ∷ events) (r ∷ replies) t event reply u is replied = (is.0, is.1, Runs-snoc is.0 events replies t event reply u is.2 replied)

takes_step : (r : Option Refusal) (t : TableView) (event : Event) (reply : Reply) (u : TableView) → Takes r t event reply u → unless_rejected r t.state (book t.state event) ≡ Some (reply, u.state)
takes_step (Some refusal) t event reply u takes = ap (λ (x : Reply). Some (x, t.state)) (sym takes.0) ∙ ap (λ (s : State). Some (reply, s)) (sym takes.1.0)
takes_step None t event reply u takes = takes.0

-- the reply is the machine's, or memory ran out and the state stays
pub replies_step : (t : TableView) (event : Event) (reply : Reply) (u : TableView) → Replies t event reply u → (step t.state event ≡ Some (reply, u.state)) ⊎ ((reply ≡ Memory) × (u.state ≡ t.state))
replies_step t event reply u (inl takes) = inl (takes_step (rejection t.state event) t event reply u takes)
replies_step t event reply u (inr none) = inr (none.0, none.1.0)

step_taken : (t : TableView) (event : Event) (reply : Reply) (u : TableView) → (step t.state event ≡ Some (reply, u.state)) ⊎ ((reply ≡ Memory) × (u.state ≡ t.state)) → reply ≢ Memory
    → step t.state event ≡ Some (reply, u.state)
step_taken t event reply u (inl is) apart = is
step_taken t event reply u (inr none) apart = absurd (apart none.0)

-- a reply that is not `Memory` is the machine's
pub steps_where_taken : (t : TableView) (event : Event) (reply : Reply) (u : TableView) → Replies t event reply u → reply ≢ Memory → step t.state event ≡ Some (reply, u.state)
steps_where_taken t event reply u is apart = step_taken t event reply u (replies_step t event reply u is) apart
