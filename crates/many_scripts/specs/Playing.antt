-- What a client has done and printed.
use Rattle.std.specs.Prelude.{◌≡◌, ◌<◌, ◌⊎◌, ℕ, List, ◌++◌, All, Option, length, Err}
use Rattle.std.specs.Io.KnownBytes.{Appends, Consumes, IsAtEnd}
use Rattle.stage_graph.specs.declared.edit.Edit.{Edit}
use Rattle.version_store.specs.Plain.{PlainVersion}
use Rattle.session_core.specs.Applied.{applied}
use Rattle.session_core.specs.declared.event.Entry.{Entry}
use Rattle.session_core.specs.declared.event.Event.{Event}
use Rattle.session_core.specs.declared.event.Event.TheVariants.{Commit}
use Rattle.session_core.specs.declared.event.Reply.{Reply}
use Rattle.session_core.specs.declared.event.Reply.TheVariants.{Refused}
use Rattle.session_core.specs.declared.refusal.Refusal.{Refusal}
use Rattle.report_form.specs.declared.form.Format.{Format}
use Rattle.script_lines.specs.Lines.{lines_of}
use Rattle.desk.specs.Clients.{ClientView, HasSeen, IsSameClient, Keeps, SeesOn}
use Rattle.many_scripts.specs.Played.{IsPlayed}

-- the client has seen some version, and each that its replies name
pub record HasHeard (c : ClientView) : Type 0 where
  pub some : 0 < length c.seen
  pub named : All (λ e. HasSeen c e.reply) c.calls

-- the event is no commit
abbrev pub IsAskedAlone : Event → Type 0
IsAskedAlone (Commit session base edits) = ⊥
IsAskedAlone others = Unit {0}

-- the client kept an event with its reply, and has seen the version that the reply names
abbrev pub Books : ClientView → Event → Reply → ClientView → Type 0
Books c event reply d = Keeps c event reply d × HasSeen d reply

-- the edits are refused, and the client's calls stay; or the commit was recorded
abbrev pub Commits : ClientView → ℕ → PlainVersion → List Edit → Reply → ClientView → Type 0
Commits c session version edits reply d =
    (IsSameClient c d × (refusal : Refusal) × (applied edits version.graph ≡ Err refusal) × (reply ≡ Refused refusal))
    ⊎ Books c (Commit session version.number edits) reply d

-- some calls of a client, and what was printed, satisfy this, for the versions that are then seen and the calls that were there
pub record Answers (Holds : List PlainVersion → List Entry → List Entry → List ℕ → Type 0) (c d : ClientView) (held holds : Option (List ℕ)) : Type 0 where
  pub entries : List Entry
  pub text : List ℕ
  pub number : d.number ≡ c.number
  pub calls : d.calls ≡ c.calls ++ entries
  pub later : SeesOn c d
  pub heard : HasHeard d
  pub printed : Appends held holds text
  pub answers : Holds d.seen c.calls entries text

-- the script was read to its end, less than the most of it, with no failure, and the client did and printed what its lines say
pub record PlaysScript (format : Format) (most : ℕ) (c d : ClientView) (had left : Option (List ℕ)) (failures_before failures_after : ℕ) (held holds : Option (List ℕ)) : Type 0 where
  pub read : List ℕ
  pub consumed : Consumes had left read
  pub to_the_end : IsAtEnd left
  pub below_the_most : length read < most
  pub no_failure : failures_after ≡ failures_before
  pub plays : Answers (λ seen earlier. IsPlayed format 1 c.number seen earlier (lines_of read)) c d held holds
