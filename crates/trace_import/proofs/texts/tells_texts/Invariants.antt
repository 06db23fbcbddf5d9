use Rattle.std.proofs.Common.{take}
use Rattle.std.specs.Prelude.{All}
use Rattle.trace_import.specs.Texts.{HasTexts}
use Rattle.trace_import.proofs.texts.tells_texts.Given as goal

-- the spans so far
abbrev pub invariant-loop-span : goal.invariant-loop-span
invariant-loop-span l = All HasTexts (take l.span-index l.trace.spans)
