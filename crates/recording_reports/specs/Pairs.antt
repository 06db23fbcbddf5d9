-- What the reports of two recordings write, a good one and a bad one: of version 0 of the graphs that they name.
use Rattle.std.specs.Prelude.{ℕ, ◌≡◌, List, ◌++◌, Option, None, Some, Result, Ok, Err}
use Rattle.std.specs.Io.KnownBytes.{Appends, Keeps}
use Rattle.text_io.specs.Sink.{AppendsPrefix}
use Rattle.stage_graph.specs.Plain.{PlainGraph, place_named}
use Rattle.recording.specs.Reads.{IsNamed}
use Rattle.recording.specs.RecordingOf.{named}
use Rattle.version_store.specs.Plain.{PlainVersion, opening_version}
use Rattle.report_rows.specs.declared.what.What.TheVariants.{Path}
use Rattle.report_form.specs.Told.{differences_told}
use Rattle.report_form.specs.declared.form.Form.{Form}
use Rattle.recording_reports.specs.declared.pair_fault.PairFault.{PairFault}
use Rattle.recording_reports.specs.declared.pair_fault.PairFault.TheVariants.{Refused, NoStage, Write, Memory}
use Rattle.recording_reports.specs.declared.pair_fault.Which.{Which}
use Rattle.recording_reports.specs.declared.pair_fault.Which.TheVariants.{Good, Bad}
use Rattle.recording_reports.specs.Reported.{told}

-- the path of the stage at a place of the good run, that of the stage at a place of the bad one, and in which stages the runs differ
abbrev pub pair_text : Form → PlainVersion → ℕ → PlainVersion → ℕ → List ℕ
pair_text form good at_good bad at_bad = told form good (Path at_good) ++ told form bad (Path at_bad) ++ differences_told form good.graph at_good bad.graph at_bad

-- ---- of recordings

-- one of both
abbrev pub of_which : Which → List ℕ → List ℕ → List ℕ
of_which Good good bad = good
of_which Bad good bad = bad

-- these bytes are a recording, and its graph has the stage of the name there, if it has one
abbrev pub StandsIn : List ℕ → List ℕ → Option ℕ → Type 0
StandsIn recording name place = (graph : PlainGraph) × IsNamed (Ok graph) (named recording) × (place ≡ place_named graph.places name)

-- these bytes are a recording of the bad run; what is written of both, where the good one is known
pub record IsPairTo (form : Form) (name : List ℕ) (good : PlainVersion) (at_good : ℕ) (bad text : List ℕ) : Type 0 where
  pub graph : PlainGraph
  pub place : ℕ
  pub reads : IsNamed (Ok graph) (named bad)
  pub stands : Some place ≡ place_named graph.places name
  pub is : text ≡ pair_text form good at_good (opening_version graph) place

-- both are recordings, and this is what is written of their graphs
pub record IsPair (form : Form) (name good bad text : List ℕ) : Type 0 where
  pub graph : PlainGraph
  pub place : ℕ
  pub reads : IsNamed (Ok graph) (named good)
  pub stands : Some place ≡ place_named graph.places name
  pub paired : IsPairTo form name (opening_version graph) place bad text

-- ---- what was written, from what the sink held and holds, by how the call ended

-- of a text that is known
abbrev pub IsWritten : List ℕ → Option (List ℕ) → Option (List ℕ) → Result (Unit {0}) PairFault → Type 0
IsWritten text old new (Ok done) = Appends old new text
IsWritten text old new (Err Write) = AppendsPrefix old new text
IsWritten text old new (Err Memory) = AppendsPrefix old new text
IsWritten text old new (Err (Refused which fault)) = ⊥
IsWritten text old new (Err (NoStage which)) = ⊥

-- where the good run is known
abbrev pub IsComparedTo : Form → List ℕ → PlainVersion → ℕ → List ℕ → Option (List ℕ) → Option (List ℕ) → Result (Unit {0}) PairFault → Type 0
IsComparedTo form name good at_good bad old new (Ok done) = (text : List ℕ) × IsPairTo form name good at_good bad text × Appends old new text
IsComparedTo form name good at_good bad old new (Err Write) = (text : List ℕ) × IsPairTo form name good at_good bad text × AppendsPrefix old new text
IsComparedTo form name good at_good bad old new (Err Memory) = (text : List ℕ) × IsPairTo form name good at_good bad text × AppendsPrefix old new text
IsComparedTo form name good at_good bad old new (Err (Refused Good fault)) = ⊥
IsComparedTo form name good at_good bad old new (Err (Refused Bad fault)) = IsNamed (Err fault) (named bad) × Keeps old new
IsComparedTo form name good at_good bad old new (Err (NoStage Good)) = ⊥
IsComparedTo form name good at_good bad old new (Err (NoStage Bad)) = StandsIn bad name None × Keeps old new

-- all reports; a part of them, as a write failed or memory ran out; or nothing, as a recording is refused, memory ran out before the reports began, or a recording has no such stage
abbrev pub IsCompared : Form → List ℕ → List ℕ → List ℕ → Option (List ℕ) → Option (List ℕ) → Result (Unit {0}) PairFault → Type 0
IsCompared form name good bad old new (Ok done) = (text : List ℕ) × IsPair form name good bad text × Appends old new text
IsCompared form name good bad old new (Err Write) = (text : List ℕ) × IsPair form name good bad text × AppendsPrefix old new text
IsCompared form name good bad old new (Err Memory) = (text : List ℕ) × IsPair form name good bad text × AppendsPrefix old new text
IsCompared form name good bad old new (Err (Refused which fault)) = IsNamed (Err fault) (named (of_which which good bad)) × Keeps old new
IsCompared form name good bad old new (Err (NoStage which)) = StandsIn (of_which which good bad) name None × Keeps old new

-- one where a write failed
abbrev pub failed_pair_writes : Result (Unit {0}) PairFault → ℕ
failed_pair_writes (Err Write) = 1
failed_pair_writes others = 0
