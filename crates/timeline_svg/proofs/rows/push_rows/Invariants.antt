use Rattle.std.proofs.Common.{◌≡◌, ◌++◌, drop}
use Rattle.std.specs.Prelude.{string_bytes}
use Rattle.timeline_svg.specs.RowTexts.{rows_text}
use Rattle.timeline_svg.proofs.rows.push_rows.Given as goal

-- what is written and what is left make the whole
abbrev pub invariant-loop-index : goal.invariant-loop-index
invariant-loop-index l =
    string_bytes l.line ++ rows_text l.scale l.index (drop l.index l.rows) ≡ string_bytes l.fn.line ++ rows_text l.scale 0 l.rows
