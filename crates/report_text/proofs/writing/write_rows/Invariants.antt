use Rattle.std.proofs.Common.{length}
use Rattle.std.specs.List.{flat_map}
use Rattle.text_io.specs.Writes.{WritesBut}
use Rattle.report_text.specs.Texts.{row_text}
use Rattle.report_text.proofs.writing.write_rows.Given as goal

-- the lines of all but the rows that are left are written
abbrev pub invariant-loop-row : goal.invariant-loop-row
invariant-loop-row g l = WritesBut g.S.Sink.held g.S.Sink.failures l.fn.sink l.sink (flat_map row_text l.rows) (flat_map row_text l.fn.rows)

abbrev pub decreases-loop-row : goal.decreases-loop-row
decreases-loop-row g l = length l.rows
