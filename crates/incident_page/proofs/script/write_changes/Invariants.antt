use Rattle.std.proofs.Common.{length}
use Rattle.text_io.specs.Writes.{WritesBut}
use Rattle.incident_page.specs.Escaped.{escaped}
use Rattle.incident_page.specs.Scripts.{changes_data}
use Rattle.incident_page.proofs.script.write_changes.Given as goal

-- all but what the rest changed is written
abbrev pub invariant-loop-version : goal.invariant-loop-version
invariant-loop-version g l = WritesBut g.S.Sink.held g.S.Sink.failures l.fn.sink l.sink (escaped (changes_data l.rest)) (escaped (changes_data l.made))

abbrev pub decreases-loop-version : goal.decreases-loop-version
decreases-loop-version g l = length l.rest
