-- Replies and faults as JSON.
use Rattle.std.specs.Prelude.{ℕ, Bool, true, false, List, [], ◌∷◌, ◌++◌, codes, Option, Some, None}
use Rattle.serde_json.specs.Data.{Data}
use Rattle.stage_graph.specs.Numbers.{refusal_number as edit_number}
use Rattle.stage_graph.specs.declared.fault.Refusal.{Refusal as EditRefusal}
use Rattle.stage_graph.specs.declared.fault.Refusal.TheVariants.{NoStage, NameTaken, BadName, Arity, NoSource, Limit, EndBeforeCreated, NoAction, InUse, Expr}
use Rattle.version_store.specs.Plain.{PlainVersion}
use Rattle.recording.specs.MemberTexts.{member_text}
use Rattle.recording.specs.declared.fault.Fault.{Fault}
use Rattle.recording.specs.declared.fault.Fault.TheVariants as fault
use Rattle.session_core.specs.Headline.{session_of}
use Rattle.session_core.specs.Refusals.{refusal_index, refusal_number}
use Rattle.session_core.specs.declared.event.Event.{Event}
use Rattle.session_core.specs.declared.event.Reply.{Reply}
use Rattle.session_core.specs.declared.event.Reply.TheVariants.{Opened, At, Committed, Undone, Closed, Refused, Memory}
use Rattle.session_core.specs.declared.refusal.Refusal.{Refusal}
use Rattle.session_core.specs.declared.refusal.Refusal.TheVariants.{Edits, Cycle, SessionOpen, NoSession, NoVersion, Moved, AtBottom, Full, Foreign, BadSession, TooManySessions}
use Rattle.report_json.specs.Json.{NamedValues, count, object, text}
use Rattle.report_json.specs.Versions.{at_version_json}
use Rattle.serve_script.specs.Replies.{dependent_name}

-- ---- refusals

-- the number and the name of a refusal, and what else is told of it
abbrev pub refused : ℕ → List ℕ → NamedValues → Data
refused number name details =
    object ((codes "reply", text (codes "refused")) ∷ (codes "number", count number) ∷ (codes "name", text name) ∷ details)

abbrev pub edit_name : EditRefusal → List ℕ
edit_name NoStage = codes "NoStage"
edit_name NameTaken = codes "NameTaken"
edit_name BadName = codes "BadName"
edit_name Arity = codes "Arity"
edit_name NoSource = codes "NoSource"
edit_name Limit = codes "Limit"
edit_name EndBeforeCreated = codes "EndBeforeCreated"
edit_name NoAction = codes "NoAction"
edit_name (InUse dependent) = codes "InUse"
edit_name (Expr fault) = codes "Expr"

abbrev pub refusal_name : Refusal → List ℕ
refusal_name (Edits refused) = edit_name refused.refusal
refusal_name Cycle = codes "Cycle"
refusal_name SessionOpen = codes "SessionOpen"
refusal_name NoSession = codes "NoSession"
refusal_name NoVersion = codes "NoVersion"
refusal_name (Moved head) = codes "Moved"
refusal_name AtBottom = codes "AtBottom"
refusal_name Full = codes "Full"
refusal_name (Foreign version) = codes "Foreign"
refusal_name BadSession = codes "BadSession"
refusal_name TooManySessions = codes "TooManySessions"

-- the name of the stage that depends on a removed one
abbrev pub dependent_members : Option PlainVersion → Event → EditRefusal → NamedValues
dependent_members base event (InUse dependent) = (codes "dependent", text (dependent_name base event dependent)) ∷ []
dependent_members base event others = []

-- the dependent of a removed stage, the session's head, or the number of another graph's version
abbrev pub detail_members : Option PlainVersion → Event → Refusal → NamedValues
detail_members base event (Edits refused) = dependent_members base event refused.refusal
detail_members base event (Moved head) = (codes "head", count head) ∷ []
detail_members base event (Foreign version) = (codes "version", count version) ∷ []
detail_members base event others = []

-- the index of the refused edit, where the edits came as a list
abbrev pub index_members : Bool → Option ℕ → NamedValues
index_members true (Some index) = (codes "edit", count index) ∷ []
index_members true None = []
index_members false index = []

abbrev pub refusal_json : Option PlainVersion → Event → Bool → Refusal → Data
refusal_json base event listed refusal =
    refused (refusal_number refusal) (refusal_name refusal) (detail_members base event refusal ++ index_members listed (refusal_index refusal))

-- ---- replies

-- a session was opened at a version
abbrev pub opened_json : ℕ → ℕ → Data
opened_json session version = object ((codes "reply", text (codes "opened")) ∷ (codes "session", count session) ∷ (codes "version", count version) ∷ [])

-- a session was closed
abbrev pub closed_json : ℕ → Data
closed_json session = object ((codes "reply", text (codes "closed")) ∷ (codes "session", count session) ∷ [])

-- the reply to an event, which is of this base if it is a commit
abbrev pub reply_json : Option PlainVersion → Event → Bool → Reply → Data
reply_json base event listed (Opened version) = opened_json (session_of event) version
reply_json base event listed (At version) = at_version_json (codes "head") version
reply_json base event listed (Committed version) = at_version_json (codes "committed") version
reply_json base event listed (Undone version) = at_version_json (codes "undone") version
reply_json base event listed Closed = closed_json (session_of event)
reply_json base event listed (Refused refusal) = refusal_json base event listed refusal
reply_json base event listed Memory = refused 90 (codes "Memory") []

-- ---- faults

-- why a line names no step
abbrev pub fault_json : Fault → Data
fault_json (fault.Refused stage) = refused (edit_number stage.refusal) (edit_name stage.refusal) ((codes "at", count stage.at) ∷ [])
fault_json (fault.Cycle path) = refused 19 (codes "Cycle") []
fault_json fault.ListSize = refused 21 (codes "ListSize") []
fault_json fault.Json = refused 70 (codes "JSON") []
fault_json (fault.Shape member) = refused 71 (codes "Shape") ((codes "member", text (member_text member)) ∷ [])
fault_json fault.TooLong = refused 72 (codes "TooLong") []
fault_json fault.Memory = refused 90 (codes "Memory") []
