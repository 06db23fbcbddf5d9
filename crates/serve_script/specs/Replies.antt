-- The lines by which replies are printed.
use Rattle.std.specs.Prelude.{ℕ, ◌-◌, nat_lt, Bool, true, false, if◌then◌else◌, List, [], ◌++◌, length, codes, Option, Some, None, slice_get, slice_index_or}
use Rattle.std.specs.List.{filter_map}
use Rattle.std.specs.Fmt.{decimal}
use Rattle.stage_graph.specs.Plain.{stage_at, name_of}
use Rattle.stage_graph.specs.declared.edit.Edit.{Edit}
use Rattle.stage_graph.specs.declared.edit.Edit.TheVariants.{Add}
use Rattle.stage_graph.specs.declared.fault.Refusal.{Refusal as EditRefusal}
use Rattle.stage_graph.specs.declared.fault.Refusal.TheVariants.{InUse}
use Rattle.stage_graph.specs.declared.stage.Stage.{Stage}
use Rattle.version_store.specs.Plain.{PlainVersion}
use Rattle.text_io.specs.Writes.{line_end}
use Rattle.session_core.specs.Headline.{session_of}
use Rattle.session_core.specs.Machine.{State}
use Rattle.session_core.specs.declared.event.Event.{Event}
use Rattle.session_core.specs.declared.event.Event.TheVariants.{Commit}
use Rattle.session_core.specs.declared.event.Reply.{Reply}
use Rattle.session_core.specs.declared.event.Reply.TheVariants.{Opened, At, Committed, Undone, Closed, Refused, Memory}
use Rattle.session_core.specs.Refusals.{refusal_index, refusal_text}
use Rattle.session_core.specs.declared.refusal.Refusal.{Refusal}
use Rattle.session_core.specs.declared.refusal.Refusal.TheVariants.{Edits, Moved, Foreign}

-- ---- the dependent that prevents a removal

-- the name of the stage that an edit adds
abbrev pub added_in : Edit → Option (List ℕ)
added_in (Add stage) = Some stage.name
added_in others = None

-- the stage at a place has the name: it is one of the base's, or an edit adds it after these
abbrev pub name_of_dependent : List (Option Stage) → List Edit → ℕ → List ℕ
name_of_dependent places edits place =
    if nat_lt place (length places) then name_of (stage_at places place) else slice_index_or (filter_map added_in edits) (place - length places) []

abbrev pub name_after : Option PlainVersion → List Edit → ℕ → List ℕ
name_after None edits place = []
name_after (Some version) edits place = name_of_dependent version.graph.places edits place

-- the name of a stage of the graph that a commit edits, or of one that it adds; the base is the version whose graph that is
abbrev pub dependent_name : Option PlainVersion → Event → ℕ → List ℕ
dependent_name base (Commit session number edits) place = name_after base edits place
dependent_name base others place = []

-- ---- lines

-- the name of the stage that depends on a removed one
abbrev pub dependent_text : Option PlainVersion → Event → EditRefusal → List ℕ
dependent_text base event (InUse dependent) = codes " " ++ dependent_name base event dependent
dependent_text base event others = []

-- the dependent of a removed stage, the session's head, or the number of another graph's version
abbrev pub detail_text : Option PlainVersion → Event → Refusal → List ℕ
detail_text base event (Edits refused) = dependent_text base event refused.refusal
detail_text base event (Moved head) = codes " " ++ decimal head
detail_text base event (Foreign version) = codes " " ++ decimal version
detail_text base event others = []

-- the index of the refused edit, where the edits came as a list
abbrev pub index_text : Bool → Option ℕ → List ℕ
index_text true (Some index) = codes " in " ++ decimal index
index_text true None = []
index_text false index = []

-- refused NUMBER NAME DETAIL in INDEX
abbrev pub refused_line : Option PlainVersion → Event → Bool → Refusal → List ℕ
refused_line base event listed refusal = codes "refused " ++ refusal_text refusal ++ detail_text base event refusal ++ index_text listed (refusal_index refusal) ++ line_end

-- the line of the reply to an event, which is on this base if it is a commit
abbrev pub reply_line : Option PlainVersion → Event → Bool → Reply → List ℕ
reply_line base event listed (Opened version) = codes "opened " ++ decimal (session_of event) ++ codes " at " ++ decimal version ++ line_end
reply_line base event listed (At version) = codes "head " ++ decimal version ++ line_end
reply_line base event listed (Committed version) = codes "committed " ++ decimal version ++ line_end
reply_line base event listed (Undone version) = codes "undone " ++ decimal version ++ line_end
reply_line base event listed Closed = codes "closed " ++ decimal (session_of event) ++ line_end
reply_line base event listed (Refused refusal) = refused_line base event listed refusal
reply_line base event listed Memory = codes "refused 90 Memory" ++ line_end

-- ---- bases

-- the version that a commit edits
abbrev pub base_in : State → Event → Option PlainVersion
base_in s (Commit session base edits) = slice_get s.versions base
base_in s others = None
