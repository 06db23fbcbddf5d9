use Rattle.std.proofs.Common.{◌≡◌}
use Rattle.script_lines.proofs.Advancing.{Reading}
use Rattle.script_lines.proofs.line_reader.LineReader.advance.Given as goal

abbrev pub invariant-loop-self : goal.invariant-loop-self
invariant-loop-self g l =
    Reading l.fn.self l.self (g.R.Source.remaining l.fn.source) (g.R.Source.remaining l.source)
    × (g.R.Source.failures l.source ≡ g.R.Source.failures l.fn.source)

abbrev pub decreases-loop-self : goal.decreases-loop-self
decreases-loop-self g l = l.self.left
