use Rattle.std.proofs.Common.{take}
use Rattle.std.specs.Fmt.{HasWritten, IsPlainFormatter}
use Rattle.trace_spans.specs.FaultTexts.{spaced_texts}
use Rattle.trace_spans.proofs.fault.SpacedDisplay.fmt.Given as goal

-- what was written so far: the texts before the next one
abbrev pub invariant-loop-text : goal.invariant-loop-text
invariant-loop-text g l =
    IsPlainFormatter l.fn.f → HasWritten g.W.Write.write_str_gives l.fn.f (spaced_texts (take l.text-index l.self.0.now)) l.f
