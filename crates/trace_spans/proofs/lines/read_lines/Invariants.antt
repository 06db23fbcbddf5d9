use Rattle.std.proofs.Common.{◌≡◌, length, false}
use Rattle.std.specs.Str.{IsUtf8}
use denote.Shadow.{shadow}
use denote.Text.{Utf8}
use Rattle.trace_spans.specs.Members.{then_on}
use Rattle.trace_spans.specs.Spans.{told_by_texts}
use Rattle.trace_spans.specs.Texts.{lines_of, texts_of_lines}
use Rattle.trace_spans.proofs.Turns.{rest_of}
use Rattle.trace_spans.proofs.lines.read_lines.Given as goal

-- what was read so far, and what the lines that are left are
abbrev pub invariant-loop-line : goal.invariant-loop-line
invariant-loop-line l = (then_on (texts_of_lines false (lines_of l.text)) told_by_texts ≡ rest_of l.some l.reading l.rest) × IsUtf8 l.rest × shadow (Utf8 l.rest)

abbrev pub decreases-loop-line : goal.decreases-loop-line
decreases-loop-line l = length l.rest
