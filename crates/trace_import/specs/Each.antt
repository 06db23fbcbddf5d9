-- What an import of each trace of a file writes: its recording on one line.
use Rattle.std.specs.Prelude.{◌≡◌, ℕ, ◌++◌, List, [], ◌∷◌, filter, nat_eq, not, Option, Result, Ok, Err, Vec}
use Rattle.std.specs.Io.KnownBytes.{Appends, Keeps}
use Rattle.std.specs.declared.alloc.Global.{Global}
use Rattle.text_io.specs.Sink.{AppendsPrefix}
use Rattle.trace_relations.specs.declared.fault.RelationsFault.TheVariants as without
use Rattle.trace_spans.specs.Reads.{IsFault}
use Rattle.trace_spans.specs.Traces.{traces_of_bytes}
use Rattle.trace_spans.specs.declared.trace.Trace.{Trace}
use Rattle.trace_import.specs.Imported.{IsNotMade, IsRecordingOf}
use Rattle.trace_import.specs.declared.each.Outcome.{Outcome}
use Rattle.trace_import.specs.declared.fault.ImportFault.{ImportFault}
use Rattle.trace_import.specs.declared.fault.ImportFault.TheVariants.{Refused, Unticked, Write, Memory}
use Rattle.trace_import.specs.declared.note.Note.{Note}
use Rattle.trace_import.specs.declared.options.Mapping.{Mapping}

-- a text without its line ends, but for one at the end
abbrev pub on_one_line : List ℕ → List ℕ
on_one_line text = filter (λ byte. not (nat_eq byte 10)) text ++ 10 ∷ []

-- the line of a trace's recording
abbrev pub IsLineOf : Mapping → Trace → List ℕ → Type 0
IsLineOf mapping trace line = (text : List ℕ) × IsRecordingOf mapping trace text × (line ≡ on_one_line text)

-- what a trace came to, and what was written of it
abbrev pub CameTo : Mapping → Trace → Result (Vec Note Global) ImportFault → List ℕ → Type 0
CameTo mapping trace (Ok notes) written = IsLineOf mapping trace written
-- it makes no recording
CameTo mapping trace (Err fault) written = IsNotMade mapping trace fault × (written ≡ [])

abbrev pub IsOutcomeOf : Mapping → Trace → Outcome → List ℕ → Type 0
IsOutcomeOf mapping trace outcome written = (outcome.trace ≡ trace.id) × CameTo mapping trace outcome.made written

-- what was written of a trace, from what the sink held and holds, by how the call ended
abbrev pub IsImportedOne : Mapping → Trace → Option (List ℕ) → Option (List ℕ) → Result Outcome ImportFault → Type 0
IsImportedOne mapping trace old new (Ok outcome) = (written : List ℕ) × IsOutcomeOf mapping trace outcome written × Appends old new written
-- a part of its line, as a write failed
IsImportedOne mapping trace old new (Err Write) = (line : List ℕ) × IsLineOf mapping trace line × AppendsPrefix old new line
-- nothing, as memory was out
IsImportedOne mapping trace old new (Err Memory) = Keeps old new
IsImportedOne mapping trace old new (Err (Unticked without.Memory)) = Keeps old new
IsImportedOne mapping trace old new (Err other) = ⊥

-- what each of these traces came to, one after the other, and what was written of all
abbrev pub AreOutcomesOf : Mapping → List Trace → List Outcome → List ℕ → Type 0
AreOutcomesOf mapping [] outcomes written = (outcomes ≡ []) × (written ≡ [])
AreOutcomesOf mapping (trace ∷ traces) outcomes written =
    (outcome : Outcome) × (others : List Outcome) × (line : List ℕ) × (rest : List ℕ)
    × (outcomes ≡ outcome ∷ others) × (written ≡ line ++ rest) × IsOutcomeOf mapping trace outcome line × AreOutcomesOf mapping traces others rest

-- ---- what was written of each trace of a file, from what the sink held and holds, by how the call ended

-- the traces of a file begin with these
abbrev pub BeginsWith : List ℕ → List Trace → Type 0
BeginsWith bytes first = (others : List Trace) × (traces_of_bytes bytes ≡ Ok (first ++ others))

-- the lines of the first traces, and a part of that of the next, as a write failed
pub record IsTornOff (bytes : List ℕ) (mapping : Mapping) (old new : Option (List ℕ)) : Type 0 where
  pub first : List Trace
  pub next : Trace
  pub begins : BeginsWith bytes (first ++ next ∷ [])
  pub outcomes : List Outcome
  pub written : List ℕ
  pub are : AreOutcomesOf mapping first outcomes written
  pub line : List ℕ
  pub is_line : IsLineOf mapping next line
  pub between : Option (List ℕ)
  pub appends : Appends old between written
  pub appends_part : AppendsPrefix between new line

-- the lines of the first traces, as memory was out
pub record IsCutShort (bytes : List ℕ) (mapping : Mapping) (old new : Option (List ℕ)) : Type 0 where
  pub first : List Trace
  pub begins : BeginsWith bytes first
  pub outcomes : List Outcome
  pub written : List ℕ
  pub are : AreOutcomesOf mapping first outcomes written
  pub appends : Appends old new written

abbrev pub AreImported : List ℕ → Mapping → Option (List ℕ) → Option (List ℕ) → Result (Vec Outcome Global) ImportFault → Type 0
-- a line for each that makes a recording
AreImported bytes mapping old new (Ok outcomes) =
    (traces : List Trace) × (written : List ℕ) × (traces_of_bytes bytes ≡ Ok traces) × AreOutcomesOf mapping traces outcomes.items written × Appends old new written
-- nothing, as the file is refused
AreImported bytes mapping old new (Err (Refused fault)) = IsFault fault (traces_of_bytes bytes) × Keeps old new
AreImported bytes mapping old new (Err Write) = IsTornOff bytes mapping old new
AreImported bytes mapping old new (Err Memory) = IsCutShort bytes mapping old new
AreImported bytes mapping old new (Err (Unticked without.Memory)) = IsCutShort bytes mapping old new
AreImported bytes mapping old new (Err other) = ⊥
