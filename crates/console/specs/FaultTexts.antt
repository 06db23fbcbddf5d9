-- The texts of what ends the program early.
use Rattle.std.specs.Prelude.{ℕ, List, ◌++◌, codes, string_bytes}
use Rattle.recording.specs.FaultTexts.{fault_text as reading_text}
use Rattle.trace_import.specs.Faults.{import_text}
use Rattle.change_words.specs.FaultTexts.{making_text}
use Rattle.console.specs.declared.fault.Fault.{Fault}
use Rattle.console.specs.declared.fault.Fault.TheVariants.{Refused, NotImported, NoStage, NoVersion, NotMade, NoReply, BadSummary, Word, Read, Write, Strict, Step, CommandLine, Missing, Torn, NoThread, Memory}

-- what people are told beside it is no part of it
abbrev pub fault_text : Fault → List ℕ
fault_text (Refused fault why) = reading_text fault
fault_text (NotImported fault why) = import_text fault
fault_text Strict = codes "warning: a member is read by nothing"
fault_text Step = codes "refused: a step"
fault_text (NoStage why) = codes "refused 10 NoStage"
fault_text (NoVersion why) = codes "refused 52 NoVersion"
fault_text (NotMade fault why) = making_text fault
fault_text (NoReply why) = codes "refused 86 NoReply"
fault_text (BadSummary file why) = codes "refused 87 BadSummary " ++ string_bytes file
fault_text (Word why) = codes "error: a word of the command line is mistaken"
fault_text (Read why) = codes "refused 41 ReadFault"
fault_text (Write why) = codes "refused 40 WriteFault"
fault_text CommandLine = codes "error: the command line is not UTF-8 text"
fault_text Missing = codes "refused 60 Missing"
fault_text Torn = codes "refused 61 Torn"
fault_text NoThread = codes "refused 35 NoThread"
fault_text Memory = codes "refused 90 Memory"
