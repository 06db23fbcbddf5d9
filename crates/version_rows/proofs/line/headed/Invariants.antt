use Rattle.std.proofs.Common.{◌≡◌, ◌++◌, None, drop}
use Rattle.version_rows.specs.Lines.{lines_after}
use Rattle.version_rows.proofs.line.headed.Given as goal

-- what is there and what is left make the whole
abbrev pub invariant-loop-candidate : goal.invariant-loop-candidate
invariant-loop-candidate l = l.lines.items ++ lines_after l.before (drop l.candidate-index l.grouped) ≡ lines_after None l.grouped
