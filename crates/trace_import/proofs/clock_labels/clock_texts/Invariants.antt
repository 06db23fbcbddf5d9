use Rattle.std.proofs.Common.{◌≡◌, map, take}
use Rattle.trace_import.specs.ClockLabels.{plain_clock, told_clocks}
use Rattle.trace_import.proofs.Clocks.{plain_entry}
use Rattle.trace_import.proofs.clock_labels.clock_texts.Given as goal

-- the clocks so far, by their texts
abbrev pub invariant-loop-clock : goal.invariant-loop-clock
invariant-loop-clock l = map plain_entry l.by_text.entries ≡ told_clocks l.spans (take l.clock-index l.moved)

-- those that came out of the map so far
abbrev pub invariant-loop-clock-2 : goal.invariant-loop-clock-2
invariant-loop-clock-2 l = map plain_clock l.texts.items ≡ map plain_entry l.yielded
