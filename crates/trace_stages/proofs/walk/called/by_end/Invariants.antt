use Rattle.std.proofs.Common.{◌≡◌, ◌++◌, take}
use Rattle.std.specs.Prelude.{filter}
use Rattle.trace_relations.specs.Relations.{plain}
use Rattle.trace_stages.specs.Called.{ending, is_open, starting}
use Rattle.trace_stages.proofs.walk.called.by_end.Given as goal

-- those that have ended, and those so far that have not
abbrev pub invariant-loop-at : goal.invariant-loop-at
invariant-loop-at l = l.places.items ≡ ending l.moments ++ filter (is_open (plain l.relations)) (starting (take l.at-index l.moments))
