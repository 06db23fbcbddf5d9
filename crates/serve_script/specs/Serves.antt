-- What was read of a script, and what was written.
use Rattle.std.specs.Prelude.{◌≡◌, ℕ, ◌<◌, ◌≤◌, List, length, Option}
use Rattle.std.specs.Io.KnownBytes.{Appends, Consumes, IsAtEnd}
use Rattle.text_io.specs.Sink.{AppendsPrefix}
use Rattle.script_lines.specs.Lines.{ScriptLine, lines_of}
use Rattle.script_lines.specs.LineReader.{ReadsEndBy}
use Rattle.serve_script.specs.declared.fault.ServeFault.{ServeFault}
use Rattle.serve_script.specs.Faults.{is_read_fault}

-- all was read, less than the most, with no failure, and the answers to all its lines were written
pub record ServesAll (most : ℕ) (answers : List (Option ScriptLine) → List ℕ) (had left : Option (List ℕ)) (failures_before failures_after : ℕ)
    (held holds : Option (List ℕ)) : Type 0 where
  pub read : List ℕ
  pub consumed : Consumes had left read
  pub to_the_end : IsAtEnd left
  pub below_the_most : length read < most
  pub no_failure : failures_after ≡ failures_before
  pub answered : Appends held holds (answers (lines_of read))

-- no more than the most was read, and a prefix was written of the answers to it
pub record ServesPart (most : ℕ) (answers : List (Option ScriptLine) → List ℕ) (had left : Option (List ℕ)) (failures_before failures_after : ℕ)
    (held holds : Option (List ℕ)) (fault : ServeFault) : Type 0 where
  pub read : List ℕ
  pub consumed : Consumes had left read
  pub within_the_most : length read ≤ most
  pub answered : AppendsPrefix held holds (answers (lines_of read))
  pub reads : ReadsEndBy (is_read_fault fault) (length read) most failures_before failures_after
