-- The fields of a line reader.
use Rattle.std.specs.Prelude.{◌<◌, ◌≤◌, length}
use Rattle.script_lines.specs.Lines.{IsBegun}
use Rattle.script_lines.specs.declared.line_reader.LineReader.TheInside.{Inside}

-- the unread bytes are in the buffer, which has capacity, and the line is one that may be begun
pub record IsLineReader (reader : Inside) : Type 0 where
  pub begun : IsBegun reader.line
  pub ascending : reader.taken ≤ reader.filled
  pub within : reader.filled ≤ length reader.buffer.items
  pub room : 0 < length reader.buffer.items
