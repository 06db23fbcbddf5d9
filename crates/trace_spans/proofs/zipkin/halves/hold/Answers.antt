use Rattle.std.proofs.lemmas.List.{append-nil}
use Rattle.trace_spans.proofs.HalvesHeld.{inserted}
use Rattle.trace_spans.proofs.zipkin.halves.hold.Goals as goal

pub returns-in_ok-insert-in-Some : goal.returns-in_ok-insert-in-Some
returns-in_ok-insert-in-Some c = λ known are.
    rw c.in-Some.is (inserted c.args.halves.now c.insert.new.self c.in-Some.half known c.in_ok-insert-in-Some.field-0 are c.in_ok-insert-in-Some.ensures.added c.in_ok-insert-in-Some.ensures.keys)

pub returns-in-None : goal.returns-in-None
returns-in-None c = λ known are. rw (c.in-None.is, append-nil known) are
