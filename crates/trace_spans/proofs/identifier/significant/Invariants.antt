use Rattle.std.proofs.Common.{◌≡◌, length}
use Rattle.std.specs.Str.{IsUtf8, chars}
use denote.Shadow.{shadow}
use denote.Text.{Utf8}
use Rattle.trace_spans.specs.Identifiers.{without_zeros}
use Rattle.trace_spans.proofs.identifier.significant.Given as goal

-- a text that has the same digits after its leading zeros
abbrev pub invariant-loop-after : goal.invariant-loop-after
invariant-loop-after l = (without_zeros (chars l.id) ≡ without_zeros (chars l.digits)) × IsUtf8 l.digits × shadow (Utf8 l.digits)

abbrev pub decreases-loop-after : goal.decreases-loop-after
decreases-loop-after l = length l.digits
