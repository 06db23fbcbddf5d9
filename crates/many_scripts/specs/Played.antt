-- What a script does at a desk that others use too: the entries that its lines make in the log, and what is printed for them,
-- in the form that is asked for.
--
-- A script belongs to a client, by its number, which `who` is in its entries. `seen` are the versions that the client has
-- seen, and `earlier` the entries of the lines that came before.
use Rattle.std.specs.Prelude.{◌≡◌, ◌<◌, ◌⊎◌, ◌+◌, ℕ, Bool, false, List, [], ◌∷◌, ◌++◌, All, Option, Some, None, IfSome, slice_get, Result, Ok, Err}
use Rattle.stage_graph.specs.declared.edit.Edit.{Edit}
use Rattle.version_store.specs.Plain.{PlainVersion}
use Rattle.recording.specs.StepOf.{step_of}
use Rattle.recording.specs.declared.fault.Fault.{Fault}
use Rattle.recording.specs.declared.fault.Fault.TheVariants.{TooLong}
use Rattle.recording.specs.declared.step.Asked.{Asked}
use Rattle.recording.specs.declared.step.Subject.{Subject}
use Rattle.recording.specs.declared.step.Subject.TheVariants as subject
use Rattle.recording.specs.declared.step.Step.{Step}
use Rattle.recording.specs.declared.step.Step.TheVariants as step
use Rattle.script_lines.specs.Lines.{ScriptLine, kept, too_long}
use Rattle.session_core.specs.Applied.{applied}
use Rattle.session_core.specs.Log.{entry}
use Rattle.session_core.specs.declared.event.Entry.{Entry}
use Rattle.session_core.specs.declared.event.Event.{Event}
use Rattle.session_core.specs.declared.event.Event.TheVariants.{Open, Head, Commit, Undo, Close}
use Rattle.session_core.specs.declared.event.Reply.{Reply}
use Rattle.session_core.specs.declared.event.Reply.TheVariants.{At, Refused}
use Rattle.session_core.specs.declared.refusal.Refusal.{Refusal}
use Rattle.report_form.specs.Forms.{form_of}
use Rattle.report_form.specs.declared.form.Form.{Form}
use Rattle.report_form.specs.declared.form.Format.{Format}
use Rattle.serve_script.specs.Answers.{against_in, report_asked}
use Rattle.serve_script.specs.Told.{fault_told, no_version_told, reply_told}
use Rattle.desk.specs.Clients.{named}

-- ---- versions

-- the number is not that of version 0, and is above all that the earlier replies name
pub record IsUnheardOf (earlier : List Entry) (number : ℕ) : Type 0 where
  pub above_the_first : 0 < number
  pub above_all : All (λ e. IfSome (named e.reply) (λ k. k < number)) earlier

-- the client has seen the version of this number, of which this holds; or it answers that there is none, which it may of
-- versions that it has not heard of
abbrev pub AtVersion : List PlainVersion → List Entry → ℕ → (PlainVersion → Type 0) → Type 0 → Type 0
AtVersion seen earlier number Found Missing =
    ((version : PlainVersion) × (slice_get seen number ≡ Some version) × Found version)
    ⊎ (IsUnheardOf earlier number × Missing)

-- ---- what a line comes to: its entries, and what is printed

-- the event has an entry, and its reply is printed
pub record IsBooked (form : Form) (who : ℕ) (base : Option PlainVersion) (event : Event) (listed : Bool) (entries : List Entry) (text : List ℕ) : Type 0 where
  pub reply : Reply
  pub entry : entries ≡ entry who event reply ∷ []
  pub printed : text ≡ reply_told form base event listed reply

-- there is no entry, and this is printed
abbrev pub IsPrinted : List ℕ → List Entry → List ℕ → Type 0
IsPrinted line entries text = (entries ≡ []) × (text ≡ line)

-- the version's graph refuses the edits, which is printed
pub record IsRefused (form : Form) (session base : ℕ) (edits : List Edit) (listed : Bool) (version : PlainVersion) (entries : List Entry) (text : List ℕ) : Type 0 where
  pub refusal : Refusal
  pub refused : applied edits version.graph ≡ Err refusal
  pub printed : IsPrinted (reply_told form (Some version) (Commit session base edits) listed (Refused refusal)) entries text

-- edits of a version: its graph refuses them, or their commit is booked
abbrev pub IsCommit : Form → ℕ → ℕ → ℕ → List Edit → Bool → PlainVersion → List Entry → List ℕ → Type 0
IsCommit form who session base edits listed version entries text =
    IsRefused form session base edits listed version entries text
    ⊎ IsBooked form who (Some version) (Commit session base edits) listed entries text

-- the head was refused, which is printed
pub record IsHeadRefused (form : Form) (who session : ℕ) (listed : Bool) (entries : List Entry) (text : List ℕ) : Type 0 where
  pub refusal : Refusal
  pub entry : entries ≡ entry who (Head session) (Refused refusal) ∷ []
  pub printed : text ≡ reply_told form None (Head session) listed (Refused refusal)

-- the head was answered, and the edits are of that version
pub record IsHeadCommit (form : Form) (who : ℕ) (seen : List PlainVersion) (session : ℕ) (edits : List Edit) (listed : Bool) (entries : List Entry) (text : List ℕ) : Type 0 where
  pub head : ℕ
  pub version : PlainVersion
  pub found : slice_get seen head ≡ Some version
  pub later : List Entry
  pub entry : entries ≡ entry who (Head session) (At head) ∷ later
  pub commit : IsCommit form who session head edits listed version later text

-- edits of a version, or of the session's head
abbrev pub IsChange : Form → ℕ → List PlainVersion → List Entry → ℕ → Option ℕ → List Edit → Bool → List Entry → List ℕ → Type 0
IsChange form who seen earlier session None edits listed entries text =
    IsHeadRefused form who session listed entries text
    ⊎ IsHeadCommit form who seen session edits listed entries text
IsChange form who seen earlier session (Some base) edits listed entries text =
    AtVersion seen earlier base
    (λ version. IsCommit form who session base edits listed version entries text)
    (IsPrinted (no_version_told form) entries text)

-- the report of a version, against the one of this number if there is a number
abbrev pub IsReportAgainst : Form → List PlainVersion → List Entry → PlainVersion → Asked → Option ℕ → List Entry → List ℕ → Type 0
IsReportAgainst form seen earlier version asked None entries text = IsPrinted (report_asked form version None asked) entries text
IsReportAgainst form seen earlier version asked (Some number) entries text =
    AtVersion seen earlier number
    (λ against. IsPrinted (report_asked form version (Some against) asked) entries text)
    (IsPrinted (no_version_told form) entries text)

abbrev pub IsReportOf : Form → List PlainVersion → List Entry → PlainVersion → Asked → List Entry → List ℕ → Type 0
IsReportOf form seen earlier version asked entries text = IsReportAgainst form seen earlier version asked (against_in asked) entries text

-- the head was answered, and the report is of that version
pub record IsHeadReport (form : Form) (who : ℕ) (seen : List PlainVersion) (earlier : List Entry) (session : ℕ) (asked : Asked) (entries : List Entry) (text : List ℕ) : Type 0 where
  pub head : ℕ
  pub version : PlainVersion
  pub found : slice_get seen head ≡ Some version
  pub later : List Entry
  pub report : IsReportOf form seen (earlier ++ entry who (Head session) (At head) ∷ []) version asked later text
  pub entry : entries ≡ entry who (Head session) (At head) ∷ later

-- the report of the version of a number, or of the one at which a session stands
abbrev pub IsReport : Form → ℕ → List PlainVersion → List Entry → Subject → Asked → List Entry → List ℕ → Type 0
IsReport form who seen earlier (subject.Version number) asked entries text =
    AtVersion seen earlier number
    (λ version. IsReportOf form seen earlier version asked entries text)
    (IsPrinted (no_version_told form) entries text)
IsReport form who seen earlier (subject.Head session) asked entries text =
    IsHeadRefused form who session false entries text
    ⊎ IsHeadReport form who seen earlier session asked entries text

abbrev pub IsStep : Form → ℕ → List PlainVersion → List Entry → Step → List Entry → List ℕ → Type 0
IsStep form who seen earlier (step.Open session version) entries text = IsBooked form who None (Open session version) false entries text
IsStep form who seen earlier (step.Head session) entries text = IsBooked form who None (Head session) false entries text
IsStep form who seen earlier (step.Undo session) entries text = IsBooked form who None (Undo session) false entries text
IsStep form who seen earlier (step.Close session) entries text = IsBooked form who None (Close session) false entries text
IsStep form who seen earlier (step.Change session base edits listed) entries text = IsChange form who seen earlier session base edits listed entries text
IsStep form who seen earlier (step.Report subject asked) entries text = IsReport form who seen earlier subject asked entries text

-- the step that a line names is done; a fault in it is printed
abbrev pub IsNamed : Form → ℕ → List PlainVersion → List Entry → Result Step Fault → List Entry → List ℕ → Type 0
IsNamed form who seen earlier (Ok step) entries text = IsStep form who seen earlier step entries text
IsNamed form who seen earlier (Err fault) entries text = IsPrinted (fault_told form fault) entries text

-- nothing is printed for a blank line
abbrev pub IsLine : Form → ℕ → List PlainVersion → List Entry → Option ScriptLine → List Entry → List ℕ → Type 0
IsLine form who seen earlier None entries text = IsPrinted [] entries text
IsLine form who seen earlier (Some (kept bytes)) entries text = IsNamed form who seen earlier (step_of bytes) entries text
IsLine form who seen earlier (Some too_long) entries text = IsPrinted (fault_told form TooLong) entries text

-- ---- line after line

-- the entries and the text of the first line, and then those of the other lines
pub record AreJoined (entries : List Entry) (text : List ℕ) (IsFirst : List Entry → List ℕ → Type 0) (AreOthers : List Entry → List Entry → List ℕ → Type 0) : Type 0 where
  pub here : List Entry
  pub told : List ℕ
  pub later : List Entry
  pub rest : List ℕ
  pub first : IsFirst here told
  pub entries_are : entries ≡ here ++ later
  pub text_is : text ≡ told ++ rest
  pub others : AreOthers here later rest

-- these are the entries of the lines from the one of this number on, in order, and no others, and this is what is printed for them
abbrev pub IsPlayed : Format → ℕ → ℕ → List PlainVersion → List Entry → List (Option ScriptLine) → List Entry → List ℕ → Type 0
IsPlayed format number who seen earlier [] entries text = IsPrinted [] entries text
IsPlayed format number who seen earlier (line ∷ lines) entries text =
    AreJoined entries text (IsLine (form_of format (Some number)) who seen earlier line) (λ here. IsPlayed format (number + 1) who seen (earlier ++ here) lines)
