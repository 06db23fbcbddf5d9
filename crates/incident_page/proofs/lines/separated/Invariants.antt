use Rattle.std.proofs.Common.{◌≡◌, ◌++◌, length}
use Rattle.incident_page.specs.Lines.{separated}
use Rattle.incident_page.proofs.lines.separated.Given as goal

-- what is written and what is left make the whole
abbrev pub invariant-loop-byte : goal.invariant-loop-byte
invariant-loop-byte l = l.lines.items ++ separated l.rest ≡ separated l.text

abbrev pub decreases-loop-byte : goal.decreases-loop-byte
decreases-loop-byte l = length l.rest
