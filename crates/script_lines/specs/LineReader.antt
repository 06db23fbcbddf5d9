-- What a line reader reads, and what it gives.
use Rattle.std.specs.Prelude.{◌≡◌, ℕ, ◌+◌, ◌<◌, ◌⊎◌, Bool, true, false, List, [], ◌∷◌, ◌++◌, length, Option}
use Rattle.std.specs.Io.KnownBytes.{Consumes, IsAtEnd}
use Rattle.script_lines.specs.Lines.{ScriptLine, comes_after, line_begun, lines_of}
use Rattle.script_lines.specs.ReaderView.{ReaderView}
use Rattle.script_lines.specs.declared.fault.LineFault.{LineFault}
use Rattle.script_lines.specs.declared.fault.LineFault.TheVariants.{Memory, Read}

-- the line that was read last; None where it is a blank one
abbrev pub line_read : ReaderView → Option ScriptLine
line_read reader = line_begun reader.line

-- a line has ended: it is the first of those to come. Or nothing waits any more
abbrev pub TakesLine : Bool → ReaderView → ReaderView → Type 0
TakesLine true before after =
    ((bytes : List ℕ) → comes_after before.line (before.waiting ++ bytes) ≡ line_read after ∷ lines_of (after.waiting ++ bytes))
    × (length after.waiting < length before.waiting)
TakesLine false before after =
    ((bytes : List ℕ) → comes_after before.line (before.waiting ++ bytes) ≡ comes_after after.line bytes)
    × (after.waiting ≡ [])

-- this piece was read, of at most this many bytes; or the source has ended
abbrev pub IsPiece : Bool → List ℕ → ℕ → ℕ → Option (List ℕ) → Option (List ℕ) → Type 0
IsPiece true piece before after had left = Consumes had left piece × (length piece + after ≡ before) × (0 < length piece)
IsPiece false piece before after had left = Consumes had left [] × IsAtEnd left × (piece ≡ []) × (after ≡ before)

-- the unread bytes are a piece that was read
abbrev pub ReadsPiece : Bool → ReaderView → ReaderView → Option (List ℕ) → Option (List ℕ) → Type 0
ReadsPiece more before after had left = IsPiece more after.waiting before.left after.left had left

-- where this was read: the line is the first of those to come; or it is the last of all, and the source has ended
abbrev pub GivesLine : Bool → ReaderView → ReaderView → List ℕ → Option (List ℕ) → Type 0
GivesLine true before after piece left =
    ((bytes : List ℕ) → lines_of (before.waiting ++ (piece ++ bytes)) ≡ line_read after ∷ lines_of (after.waiting ++ bytes))
    × (length after.waiting + after.left < length before.waiting + before.left)
GivesLine false before after piece left =
    (lines_of (before.waiting ++ piece) ≡ line_read after ∷ []) × (after.waiting ≡ []) × IsAtEnd left × (0 < after.left)

-- what was read on the way to the end of a line, or of the source
pub record ReadsOn (more : Bool) (before after : ReaderView) (had left : Option (List ℕ)) : Type 0 where
  pub piece : List ℕ
  pub consumed : Consumes had left piece
  pub counted : length piece + after.left ≡ before.left
  pub gives : GivesLine more before after piece left

abbrev pub is_read_fault : LineFault → Bool
is_read_fault Memory = false
is_read_fault Read = true

-- at a read fault a read failed, or the most was read; at any other no read failed
abbrev pub ReadsEndBy : Bool → ℕ → ℕ → ℕ → ℕ → Type 0
ReadsEndBy false read most failures_before failures_after = failures_after ≡ failures_before
ReadsEndBy true read most failures_before failures_after = (failures_after ≡ failures_before + 1) ⊎ ((read ≡ most) × (failures_after ≡ failures_before))

-- what was read before a fault ended it, which is a read fault or not
pub record StopsReading (at_read : Bool) (most : ℕ) (had left : Option (List ℕ)) (failures_before failures_after : ℕ) : Type 0 where
  pub piece : List ℕ
  pub consumed : Consumes had left piece
  pub reads : ReadsEndBy at_read (length piece) most failures_before failures_after

-- no byte that was read is lost: a line is begun, and the lines that come are those of all that waited and was read
pub record KeepsRead (before after : ReaderView) (had left : Option (List ℕ)) : Type 0 where
  pub piece : List ℕ
  pub consumed : Consumes had left piece
  pub counted : length piece + after.left ≡ before.left
  pub lines : (bytes : List ℕ) → lines_of (before.waiting ++ (piece ++ bytes)) ≡ comes_after after.line (after.waiting ++ bytes)
