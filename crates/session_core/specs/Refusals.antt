-- The refusals of a table: their numbers, their texts and what they carry.
use Rattle.std.specs.Prelude.{ℕ, List, codes, Option, Some, None}
use Rattle.session_core.specs.declared.event.Reply.{Reply}
use Rattle.session_core.specs.declared.event.Reply.TheVariants as replied
use Rattle.session_core.specs.declared.refusal.Refusal.{Refusal}
use Rattle.session_core.specs.declared.refusal.Refusal.TheVariants.{Edits, Cycle, SessionOpen, NoSession, NoVersion, Moved, AtBottom, Full, Foreign, BadSession, TooManySessions}
use Rattle.session_core.specs.declared.refusal.TableFault.{TableFault}
use Rattle.session_core.specs.declared.refusal.TableFault.TheVariants.{Refused, Memory}
use Rattle.stage_graph.specs.Numbers.{refusal_number as edit_number}
use Rattle.stage_graph.specs.Texts.{refusal_text as edit_text}
use Rattle.stage_graph.specs.declared.fault.Refusal.{Refusal as EditRefusal}
use Rattle.stage_graph.specs.declared.fault.Refusal.TheVariants.{InUse}
use Rattle.stage_graph.specs.declared.fault.Fault.{Fault}
use Rattle.stage_graph.specs.declared.fault.Fault.TheVariants as edits

abbrev pub refusal_number : Refusal → ℕ
refusal_number (Edits refused) = edit_number refused.refusal
refusal_number Cycle = 19
refusal_number SessionOpen = 50
refusal_number NoSession = 51
refusal_number NoVersion = 52
refusal_number (Moved head) = 53
refusal_number AtBottom = 54
refusal_number Full = 55
refusal_number (Foreign version) = 56
refusal_number BadSession = 57
refusal_number TooManySessions = 58

-- the number and the name of a refusal
abbrev pub refusal_text : Refusal → List ℕ
refusal_text (Edits refused) = edit_text refused.refusal
refusal_text Cycle = codes "19 Cycle"
refusal_text SessionOpen = codes "50 SessionOpen"
refusal_text NoSession = codes "51 NoSession"
refusal_text NoVersion = codes "52 NoVersion"
refusal_text (Moved head) = codes "53 Moved"
refusal_text AtBottom = codes "54 AtBottom"
refusal_text Full = codes "55 Full"
refusal_text (Foreign version) = codes "56 Foreign"
refusal_text BadSession = codes "57 BadSession"
refusal_text TooManySessions = codes "58 TooManySessions"

-- the stage that depends on a removed one
abbrev pub dependent_of : EditRefusal → Option ℕ
dependent_of (InUse dependent) = Some dependent
dependent_of others = None

-- the dependent of a removed stage, the session's head, or the number of another graph's version
abbrev pub refusal_detail : Refusal → Option ℕ
refusal_detail (Edits refused) = dependent_of refused.refusal
refusal_detail (Moved head) = Some head
refusal_detail (Foreign version) = Some version
refusal_detail others = None

-- the index of a refused edit
abbrev pub refusal_index : Refusal → Option ℕ
refusal_index (Edits refused) = Some refused.at
refusal_index others = None

-- ---- faults

-- why there is no draft
abbrev pub of_fault : Fault → TableFault
of_fault (edits.Refused refused) = Refused (Edits refused)
of_fault (edits.Cycle path) = Refused Cycle
of_fault edits.Memory = Memory

abbrev pub fault_number : TableFault → ℕ
fault_number (Refused refusal) = refusal_number refusal
fault_number Memory = 90

-- the reply where there is a fault
abbrev pub reply_to : TableFault → Reply
reply_to (Refused refusal) = replied.Refused refusal
reply_to Memory = replied.Memory
