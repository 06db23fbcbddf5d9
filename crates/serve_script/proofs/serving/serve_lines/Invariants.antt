use Rattle.std.proofs.Common.{◌≡◌, ℕ, ◌+◌, ◌≤◌, List, length}
use Rattle.std.specs.Io.KnownBytes.{Consumes}
use Rattle.text_io.specs.Sink.{Advances}
use Rattle.serve_script.proofs.Steps.{to_all, to_rest}
use Rattle.serve_script.specs.Answers.{answers_from, played_from}
use Rattle.serve_script.specs.Playing.{PlaysOn}
use Rattle.serve_script.proofs.Playing.{in_all, in_rest}
use Rattle.serve_script.proofs.serving.serve_lines.Given as goal

pub record Serving (Consumed Counted Numbered Answered Played Reads Writes : Type 0) : Type 0 where
  pub consumed : Consumed
  pub counted : Counted
  pub numbered : Numbered
  pub answered : Answered
  pub played : Played
  pub reads : Reads
  pub writes : Writes

-- what the lines that were read ask for is written, but for what the reader holds; there are no more of them than bytes
abbrev pub invariant-loop-sink : goal.invariant-loop-sink
invariant-loop-sink g l = (read : List ℕ) × Serving
    (Consumes (g.R.Source.remaining l.fn.source) (g.R.Source.remaining l.source) read)
    (length read + l.lines.left ≡ l.fn.lines.left)
    (l.number + length l.lines.waiting + l.lines.left ≤ l.fn.lines.left + 1)
    (Advances (to_all (answers_from l.fn.format 1 l.fn.server) read) (to_rest (answers_from l.fn.format l.number l.server) l.lines) (g.S.Sink.held l.fn.sink) (g.S.Sink.held l.sink))
    (PlaysOn (in_all (played_from l.fn.format 1 l.fn.server) read) (in_rest (played_from l.fn.format l.number l.server) l.lines))
    (g.R.Source.failures l.source ≡ g.R.Source.failures l.fn.source)
    (g.S.Sink.failures l.sink ≡ g.S.Sink.failures l.fn.sink)

abbrev pub decreases-loop-sink : goal.decreases-loop-sink
decreases-loop-sink g l = l.lines.left
