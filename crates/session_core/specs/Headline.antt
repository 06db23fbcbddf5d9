-- What a run leads to, in terms of the sessions and the versions.
use Rattle.std.specs.Prelude.{◌≡◌, ℕ, suc, ◌+◌, ◌<◌, ◌==◌, ◌⊎◌, if◌then◌else◌, List, [], ◌∷◌, length, take, Option, Some, None, slice_get, Ok}
use Rattle.std.specs.Option.{option_map}
use Rattle.stage_graph.specs.declared.edit.Edit.{Edit}
use Rattle.stage_graph.specs.declared.stage.Stage.{Stage}
use Rattle.stage_graph.specs.Plain.{PlainGraph, stage_at}
use Rattle.stage_graph.specs.Sound.{IsSound}
use Rattle.stage_graph.specs.Walk.{IsRanked, MeetsEach, rank, rank_step}
use Rattle.stage_ops.specs.declared.state.State.{State as StageState}
use Rattle.stage_ops.specs.States.{pending}
use Rattle.stage_ops.specs.Evaluation.{on_states}
use Rattle.stage_ops.specs.Java.{java_step}
use Rattle.version_store.specs.Plain.{Origin, PlainVersion, opening_version}
use Rattle.scratch_eval.specs.Blame.{chain, chain_of}
use Rattle.scratch_eval.specs.Path.{next_feed, path, path_after}
use Rattle.version_store.specs.Queries.{state_of}
use Rattle.session_core.specs.Applied.{applied}
use Rattle.session_core.specs.Machine.{State, Numbers, opening, alone, with_head, numbers_at, from_base}
use Rattle.session_core.specs.TableView.{TableView}
use Rattle.session_core.specs.declared.event.Event.{Event}
use Rattle.session_core.specs.declared.event.Event.TheVariants.{Open, Head, Commit, Undo, Close}
use Rattle.session_core.specs.declared.event.Reply.{Reply}
use Rattle.session_core.specs.declared.event.Reply.TheVariants.{Opened, At, Committed, Undone, Closed, Refused, Memory}

abbrev pub session_of : Event → ℕ
session_of (Open session version) = session
session_of (Head session) = session
session_of (Commit session base edits) = session
session_of (Undo session) = session
session_of (Close session) = session

abbrev pub headed : List ℕ → Numbers → Numbers
headed [] numbers = numbers
headed (number ∷ below) numbers = record { head = number; below = below }

-- the list without its head; the last number stays
abbrev pub without : Numbers → Numbers
without numbers = headed numbers.below numbers

-- a session's list after a reply to it: an open begins it, a commit puts its number on top, an undo takes the top away, a close ends it, and nothing else changes it
abbrev pub after : Reply → Option Numbers → Option Numbers
after (Opened number) list = Some (alone number)
after (Committed number) list = option_map (with_head number) list
after (Undone number) list = option_map without list
after Closed list = None
after (At number) list = list
after (Refused refusal) list = list
after Memory list = list

-- only its own session's list is changed by a step
abbrev pub after_step : ℕ → Event → Reply → Option Numbers → Option Numbers
after_step session event reply list = if session == session_of event then after reply list else list

-- the list that a session's own accepted steps lead to
abbrev pub led_to : ℕ → List Event → List Reply → Option Numbers → Option Numbers
led_to session [] replies list = list
led_to session (event ∷ events) [] list = list
led_to session (event ∷ events) (reply ∷ replies) list = led_to session events replies (after_step session event reply list)

-- the version comes from an earlier one: its graph is its parent's with one list of edits applied
pub record IsEdited (versions : List PlainVersion) (number : ℕ) (version : PlainVersion) : Type 0 where
  pub origin : Origin
  pub parent : PlainVersion
  pub from : version.origin ≡ Some origin
  pub earlier : origin.number < number
  pub there : slice_get versions origin.number ≡ Some parent
  pub graph : origin.graph ≡ parent.graph
  pub edited : applied origin.edits parent.graph ≡ Ok version.graph

-- the version has its place as its number, a sound graph without a cycle, and, if it is not the first, a parent
pub record IsInOrder (versions : List PlainVersion) (number : ℕ) (version : PlainVersion) : Type 0 where
  pub numbered : version.number ≡ number
  pub sound : IsSound version.graph
  pub ranked : IsRanked version.graph.places
  pub edited : (number ≡ 0) ⊎ IsEdited versions number version

abbrev pub AreInOrder : List PlainVersion → Type 0
AreInOrder versions = (number : ℕ) (version : PlainVersion) → slice_get versions number ≡ Some version → IsInOrder versions number version

-- the event is a commit whose base was the head of its session's list, as the lists stood before it, and the version of this number is what it made: the base's graph with exactly these edits applied
pub record IsMade (event : Option Event) (before : ℕ → Option Numbers) (versions : List PlainVersion) (number : ℕ) : Type 0 where
  pub session : ℕ
  pub base : ℕ
  pub edits : List Edit
  pub list : Numbers
  pub version : PlainVersion
  pub parent : PlainVersion
  pub asked : event ≡ Some (Commit session base edits)
  pub stood : before session ≡ Some list
  pub at_head : list.head ≡ base
  pub stands : slice_get versions number ≡ Some version
  pub there : slice_get versions base ≡ Some parent
  pub from : version.origin ≡ Some (from_base base parent.graph edits)
  pub edited : applied edits parent.graph ≡ Ok version.graph

-- a commit that is accepted makes one version, and no other reply names one
abbrev pub made : Reply → ℕ
made (Committed number) = 1
made (Opened number) = 0
made (At number) = 0
made (Undone number) = 0
made Closed = 0
made (Refused refusal) = 0
made Memory = 0

-- how many versions the replies name
abbrev pub all_made : List Reply → ℕ
all_made [] = 0
all_made (reply ∷ replies) = made reply + all_made replies

-- whatever meets each stage's equation is what the graph answers: states by the operations on the states of the feeds, ranks by the ranks of the feeds, and chains of blame, which go on with the chain of the blamed source; and a path goes on with the path of the feed that the stage's cause names
pub record HasOneAnswer (graph : PlainGraph) : Type 0 where
  pub states : (states : ℕ → StageState) → MeetsEach pending (on_states (java_step graph.mode)) graph.places states → (place : ℕ) → state_of graph place ≡ states place
  pub ranks : (ranks : ℕ → ℕ) → MeetsEach 0 rank_step graph.places ranks → (place : ℕ) → rank graph.places place ≡ ranks place
  pub chains : (place : ℕ) → chain (java_step graph.mode) graph.places place ≡ chain_of place (state_of graph place).done (chain (java_step graph.mode) graph.places)
  pub chains_alone : (chains : ℕ → List ℕ) → ((place : ℕ) → chains place ≡ chain_of place (state_of graph place).done chains)
      → (place : ℕ) → chain (java_step graph.mode) graph.places place ≡ chains place
  pub paths : (place : ℕ) (stage : Stage) → stage_at graph.places place ≡ Some stage → path graph place ≡ place ∷ path_after (path graph) (next_feed graph.mode (state_of graph) stage)

-- where the events lead, by the replies; the accepted commits make the versions 1, 2 and so on in turn, each by its own event, on the head that the events before it led its session to, and there are no others
pub record LeadsTo (graph : PlainGraph) (events : List Event) (replies : List Reply) (t : State) : Type 0 where
  pub sessions : (session : ℕ) → numbers_at t session ≡ led_to session events replies None
  pub versions : AreInOrder t.versions
  pub answers : (number : ℕ) (version : PlainVersion) → slice_get t.versions number ≡ Some version → HasOneAnswer version.graph
  pub opening : slice_get t.versions 0 ≡ Some (opening_version graph)
  pub committed : (i number : ℕ) → slice_get replies i ≡ Some (Committed number) → IsMade (slice_get events i) (λ session. led_to session (take i events) (take i replies) None) t.versions number
  pub numbers : (i number : ℕ) → slice_get replies i ≡ Some (Committed number) → number ≡ suc (all_made (take i replies))
  pub count : length t.versions ≡ suc (all_made replies)

-- from a table at its opening state, the events and the replies to them lead there
abbrev pub LeadsFromOpening : TableView → List Event → List Reply → TableView → Type 0
LeadsFromOpening t events replies u = (graph : PlainGraph) (most : ℕ) → t.state ≡ opening (opening_version graph) most → LeadsTo graph events replies u.state
