-- Faults, and the numbers and texts by which they are printed.
use Rattle.std.specs.Prelude.{ℕ, Bool, true, false, List, Result, Err, codes}
use Rattle.trace_relations.specs.FaultNumbers.{fault_number as relations_number}
use Rattle.trace_relations.specs.FaultTexts.{fault_text as relations_text}
use Rattle.trace_relations.specs.declared.fault.RelationsFault.TheVariants as without
use Rattle.trace_spans.specs.FaultNumbers.{fault_number}
use Rattle.trace_spans.specs.FaultTexts.{fault_text}
use Rattle.trace_spans.specs.declared.fault.Fault.TheVariants as refused
use Rattle.trace_import.specs.declared.fault.ImportFault.{ImportFault}
use Rattle.trace_import.specs.declared.fault.ImportFault.TheVariants.{Refused, Unticked, TooManyStages, TooLong, Write, Memory}

abbrev pub import_number : ImportFault → ℕ
import_number (Refused fault) = fault_number fault
import_number (Unticked fault) = relations_number fault
import_number TooManyStages = 85
import_number TooLong = 72
import_number Write = 40
import_number Memory = 90

-- the fault of a file or of ticks is printed as it is
abbrev pub import_text : ImportFault → List ℕ
import_text (Refused fault) = fault_text fault
import_text (Unticked fault) = relations_text fault
import_text TooManyStages = codes "refused 85 TooManyStages"
import_text TooLong = codes "refused 72 TooLong"
import_text Write = codes "refused 40 WriteFault"
import_text Memory = codes "refused 90 Memory"

-- one where a write failed
abbrev pub failed_writes : {A : Type 0} → Result A ImportFault → ℕ
failed_writes (Err Write) = 1
failed_writes others = 0

-- whether nothing more can be written of other traces either: memory is out, or a write failed
abbrev pub ends_all : ImportFault → Bool
ends_all (Refused refused.Memory) = true
ends_all (Unticked without.Memory) = true
ends_all Write = true
ends_all Memory = true
ends_all others = false
