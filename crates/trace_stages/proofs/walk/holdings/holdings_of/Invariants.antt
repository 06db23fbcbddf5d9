use Rattle.std.proofs.Common.{◌≡◌, length}
use Rattle.trace_relations.specs.Relations.{plain}
use Rattle.trace_stages.specs.Holdings.{AreHeldBy}
use Rattle.trace_stages.proofs.walk.holdings.holdings_of.Given as goal

-- what the spans so far have
abbrev pub invariant-loop-span : goal.invariant-loop-span
invariant-loop-span l = (length l.holdings.items ≡ l.span) × AreHeldBy (plain l.relations) l.moments.items l.holdings.items
