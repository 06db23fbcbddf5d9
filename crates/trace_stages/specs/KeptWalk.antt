-- What a span has, as it is kept.
use Rattle.std.specs.Prelude.{◌≡◌}
use Rattle.trace_stages.specs.declared.walk.holding.Holding.{Holding}
use Rattle.trace_stages.specs.Held.{PlainHolding}
use Rattle.trace_stages.specs.Joins.{plain_joins}
use Rattle.trace_stages.specs.KnownSpans.{Knows}

abbrev pub Holds : Holding → PlainHolding → Type 0
Holds holding plain =
    (holding.has ≡ plain.has) × (holding.reached ≡ plain.reached) × (holding.ended.items ≡ plain.ended) × Knows holding.begun plain.begun × (holding.is_used ≡ plain.is_used)
    × (plain_joins holding.joins ≡ plain.joins) × (holding.works.items ≡ plain.works) × (holding.begins.items ≡ plain.begins) × (holding.answer ≡ plain.answer)
