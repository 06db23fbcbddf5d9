use Rattle.std.proofs.Common.{◌≡◌, ◌++◌, List, Ok}
use Rattle.serde_json.specs.Events.{items_len}
use Rattle.trace_spans.specs.HalfMarks.{AreHalves}
use Rattle.trace_spans.specs.Halves.{ToldHalf, halves_of}
use Rattle.trace_spans.specs.Members.{then_on}
use Rattle.trace_spans.proofs.zipkin.halves.Halves.of.Given as goal

-- those of the spans so far, and what the spans that are left have
abbrev pub invariant-spans : goal.invariant-spans
invariant-spans l =
    (known : List ToldHalf) × (halves_of l.fn.spans ≡ then_on (halves_of l.spans) (λ rest. Ok (known ++ rest))) × AreHalves l.all known

abbrev pub decreases-spans : goal.decreases-spans
decreases-spans l = items_len l.spans
