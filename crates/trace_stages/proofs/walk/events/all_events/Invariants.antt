use Rattle.std.proofs.Common.{◌≡◌, take, vec_len}
use Rattle.trace_relations.specs.Relations.{plain}
use Rattle.trace_stages.specs.Events.{HasEvents}
use Rattle.trace_stages.proofs.walk.events.all_events.Given as goal

-- what happens by the moments so far
abbrev pub invariant-loop-at : goal.invariant-loop-at
invariant-loop-at l = (vec_len l.all ≡ l.count) × HasEvents l.count (plain l.relations) (take l.at-index l.moments) l.all.items
