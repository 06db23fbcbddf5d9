-- The traces of a file in short.
use Rattle.std.specs.Prelude.{◌≡◌, ℕ, List, map, Option, Vec, Result, Ok, Err, IsPermutation}
use Rattle.std.specs.List.Sorted.{IsSortedByKey, IsStableByKey}
use Rattle.std.specs.Option.{option_cmp}
use Rattle.std.specs.Ordering.{nat_cmp}
use Rattle.std.specs.Global.{Global}
use Rattle.trace_spans.specs.declared.fault.Fault.{Fault}
use Rattle.trace_spans.specs.declared.summary.Summary.{Summary}
use Rattle.trace_spans.specs.declared.trace.Trace.{Trace}
use Rattle.trace_spans.specs.Reads.{IsFault}
use Rattle.trace_spans.specs.Summaries.{summary_of}

abbrev pub start_in : Summary → Option ℕ
start_in summary = summary.start

-- the same summaries by their starts, those without one first; those of one start stay in their order
abbrev pub AreByStart : List Summary → List Summary → Type 0
AreByStart summaries listed =
    IsPermutation summaries listed
    × IsSortedByKey start_in (option_cmp nat_cmp) listed
    × IsStableByKey start_in (option_cmp nat_cmp) summaries listed

-- all traces that are meant are listed in short, or what is wrong is told
abbrev pub IsListed : Result (List Trace) Fault → Result (Vec Summary Global) Fault → Type 0
IsListed meant (Ok listed) = (traces : List Trace) × (meant ≡ Ok traces) × AreByStart (map summary_of traces) listed.items
IsListed meant (Err fault) = IsFault fault meant
