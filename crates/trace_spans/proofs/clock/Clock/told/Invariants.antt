use Rattle.std.proofs.Common.{◌≡◌, drop, string_bytes}
use Rattle.trace_spans.specs.Clocks.{clock_text, joined_on}
use Rattle.trace_spans.proofs.clock.Clock.told.Given as goal

-- what is told so far, and what the parts that are left add
abbrev pub invariant-loop-part : goal.invariant-loop-part
invariant-loop-part l = clock_text l.self ≡ joined_on (string_bytes l.told) (drop l.part-index l.part-items)
