use Rattle.std.proofs.Common.{◌≡◌, ◌+◌, length}
use Rattle.many_scripts.proofs.PlayedOn.{PlaysOn}
use Rattle.many_scripts.proofs.playing.play.Given as goal

abbrev pub invariant-loop-steps : goal.invariant-loop-steps
invariant-loop-steps g l =
    PlaysOn l.fn.format l.fn.reader.left l.number l.fn.client l.client l.reader (g.R.Source.remaining l.fn.source) (g.R.Source.remaining l.source) (g.S.Sink.held l.fn.sink) (g.S.Sink.held l.sink)
    × (g.R.Source.failures l.source ≡ g.R.Source.failures l.fn.source)
    × (g.S.Sink.failures l.sink ≡ g.S.Sink.failures l.fn.sink)

abbrev pub decreases-loop-steps : goal.decreases-loop-steps
decreases-loop-steps g l = length l.reader.waiting + l.reader.left
