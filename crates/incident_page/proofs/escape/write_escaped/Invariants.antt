use Rattle.std.proofs.Common.{length}
use Rattle.text_io.specs.Writes.{WritesBut}
use Rattle.incident_page.specs.Escaped.{escaped}
use Rattle.incident_page.proofs.escape.write_escaped.Given as goal

-- all but what is left is written
abbrev pub invariant-loop-before : goal.invariant-loop-before
invariant-loop-before g l = WritesBut g.S.Sink.held g.S.Sink.failures l.fn.sink l.sink (escaped l.rest) (escaped l.text)

abbrev pub decreases-loop-before : goal.decreases-loop-before
decreases-loop-before g l = length l.rest
