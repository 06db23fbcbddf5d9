-- Laws of summaries.
use Rattle.std.specs.Prelude.{◌≡◌, List, [], ◌++◌}
use Rattle.std.specs.List.Sorted.{IsPermutation}
use Rattle.fleet_summary.specs.declared.facts.TraceFacts.{TraceFacts}
use Rattle.fleet_summary.specs.declared.summary.Summary.{Summary}
use Rattle.fleet_summary.specs.Counters.{IsSound, IsSummaryJoin, IsSummaryOf}

-- two summaries have one join, whichever comes first
abbrev pub JoinsInEitherOrder : Type 0
JoinsInEitherOrder = (left right joined other : Summary) → IsSound joined → IsSound other → IsSummaryJoin left right joined → IsSummaryJoin right left other → joined ≡ other

-- three summaries have one join, whichever two are joined first
abbrev pub JoinsInAnyGroups : Type 0
JoinsInAnyGroups = (first second third left right one other : Summary) → IsSound one → IsSound other →
    IsSummaryJoin first second left → IsSummaryJoin left third one → IsSummaryJoin second third right → IsSummaryJoin first right other → one ≡ other

-- joined with the summary of no trace, a summary is as it was
abbrev pub JoinsWithNone : Type 0
JoinsWithNone = (none summary joined : Summary) → IsSound summary → IsSound joined → IsSummaryOf [] none → IsSummaryJoin none summary joined → joined ≡ summary

-- the join of the summaries of two lists of traces is the summary of both
abbrev pub JoinsOfTraces : Type 0
JoinsOfTraces = (first second : List TraceFacts) (left right joined : Summary) → IsSummaryOf first left → IsSummaryOf second right → IsSummaryJoin left right joined → IsSummaryOf (first ++ second) joined

-- traces have one summary, in whatever order they are counted
abbrev pub SummariesInAnyOrder : Type 0
SummariesInAnyOrder = (traces others : List TraceFacts) (summary other : Summary) → IsSound summary → IsSound other → IsPermutation traces others → IsSummaryOf traces summary → IsSummaryOf others other → summary ≡ other

-- so however traces are split in two, and in whatever order, the join of the parts' summaries is the summary of all
abbrev pub SummariesOfAnySplit : Type 0
SummariesOfAnySplit = (traces first second : List TraceFacts) (left right joined whole : Summary) → IsSound joined → IsSound whole → IsPermutation traces (first ++ second) →
    IsSummaryOf first left → IsSummaryOf second right → IsSummaryJoin left right joined → IsSummaryOf traces whole → joined ≡ whole
