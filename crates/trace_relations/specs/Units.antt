-- Units of ticks.
use Rattle.std.specs.Prelude.{ℕ, List, codes, if◌then◌else◌, Option, Some, None, bytes_eq}
use Rattle.trace_relations.specs.declared.unit.Unit.{Unit}
use Rattle.trace_relations.specs.declared.unit.Unit.TheVariants.{Nanosecond, Microsecond, Millisecond}

-- how long a tick is
abbrev pub nanoseconds : Unit → ℕ
nanoseconds Nanosecond = 1
nanoseconds Microsecond = 1_000
nanoseconds Millisecond = 1_000_000

abbrev pub unit_text : Unit → List ℕ
unit_text Nanosecond = codes "ns"
unit_text Microsecond = codes "us"
unit_text Millisecond = codes "ms"

-- the unit of that text
abbrev pub unit_named : List ℕ → Option Unit
unit_named word =
    if bytes_eq word (codes "ns") then Some Nanosecond else
    (if bytes_eq word (codes "us") then Some Microsecond else
    (if bytes_eq word (codes "ms") then Some Millisecond else None))
