use Rattle.std.proofs.Common.{◌≡◌, ◌+◌, ◌≤◌, length}
use Rattle.text_io.specs.Sink.{Advances}
use Rattle.serve_script.proofs.Steps.{to_rest}
use Rattle.serve_script.specs.Answers.{answers_from, played_from}
use Rattle.serve_script.specs.Playing.{PlaysOn}
use Rattle.serve_script.proofs.Playing.{in_rest}
use Rattle.serve_script.proofs.serving.answer_waiting.Given as goal

pub record Answering (Answered Played Counted Left Unfailed : Type 0) : Type 0 where
  pub answered : Answered
  pub played : Played
  pub counted : Counted
  pub left : Left
  pub unfailed : Unfailed

-- what the lines so far ask for is written, and what waits is left; each line has taken a byte at least
abbrev pub invariant-loop-lines : goal.invariant-loop-lines
invariant-loop-lines g l = Answering
    (Advances (to_rest (answers_from l.fn.format l.fn.number l.fn.server) l.fn.lines) (to_rest (answers_from l.fn.format l.number l.server) l.lines) (g.S.Sink.held l.fn.sink) (g.S.Sink.held l.sink))
    (PlaysOn (in_rest (played_from l.fn.format l.fn.number l.fn.server) l.fn.lines) (in_rest (played_from l.fn.format l.number l.server) l.lines))
    (l.number + length l.lines.waiting ≤ l.fn.number + length l.fn.lines.waiting)
    (l.lines.left ≡ l.fn.lines.left)
    (g.S.Sink.failures l.sink ≡ g.S.Sink.failures l.fn.sink)

abbrev pub decreases-loop-lines : goal.decreases-loop-lines
decreases-loop-lines g l = length l.lines.waiting
