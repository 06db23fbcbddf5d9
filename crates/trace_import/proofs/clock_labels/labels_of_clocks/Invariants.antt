use Rattle.std.proofs.Common.{◌≡◌, map, take}
use Rattle.recording_text.specs.Labels.{plain_label}
use Rattle.trace_import.specs.ClockLabels.{plain_clock}
use Rattle.trace_import.proofs.clock_labels.labels_of_clocks.Given as goal

-- the clocks so far
abbrev pub invariant-loop-clock : goal.invariant-loop-clock
invariant-loop-clock l = map plain_label l.labels.items ≡ map plain_clock (take l.clock-index l.clocks)
