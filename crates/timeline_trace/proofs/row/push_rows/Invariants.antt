use Rattle.std.proofs.Common.{◌≡◌, ◌+◌, ◌++◌, drop}
use Rattle.std.specs.Prelude.{string_bytes}
use Rattle.timeline_trace.specs.Rows.{rows_lines}
use Rattle.timeline_trace.proofs.row.push_rows.Given as goal

-- what is written and what is left make the whole
abbrev pub invariant-loop-index : goal.invariant-loop-index
invariant-loop-index l =
    string_bytes l.text ++ rows_lines l.labels l.title l.rows (l.index + 1) (drop l.index l.rows) ≡ string_bytes l.fn.text ++ rows_lines l.labels l.title l.rows 1 l.rows
