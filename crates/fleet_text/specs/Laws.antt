-- Laws of written summaries and of their joins.
use Rattle.std.specs.Prelude.{◌≡◌, List}
use Rattle.std.specs.List.{AllZip}
use Rattle.std.specs.List.Sorted.{IsPermutation}
use Rattle.serde_json.specs.Data.{Data}
use Rattle.fleet_summary.specs.declared.facts.TraceFacts.{TraceFacts}
use Rattle.fleet_summary.specs.declared.summary.Summary.{Summary}
use Rattle.fleet_summary.specs.Counters.{IsSound, IsSummaryOf}
use Rattle.fleet_text.specs.declared.part.PartSummary.{PartSummary}
use Rattle.fleet_text.specs.Json.{part_json}
use Rattle.fleet_text.specs.Parts.{IsJoinOf, traces_of}
use Rattle.fleet_text.specs.Says.{SaysPart}

-- the JSON that is written of a summary says it
abbrev pub SaysWhatIsWritten : Type 0
SaysWhatIsWritten = (part : PartSummary) → SaysPart (part_json part) part

-- a JSON says one summary at most
abbrev pub SaysOneSummary : Type 0
SaysOneSummary = (d : Data) (part other : PartSummary) → SaysPart d part → SaysPart d other → part ≡ other

-- some summaries have one join, in whatever order they are joined
abbrev pub JoinsInAnyOrder : Type 0
JoinsInAnyOrder = (parts others : List Summary) (joined other : Summary) → IsSound joined → IsSound other → IsPermutation parts others → IsJoinOf parts joined → IsJoinOf others other → joined ≡ other

-- However traces are split in parts, and in whatever order they stand there, the join of the parts' summaries is the summary of all.
abbrev pub JoinsOfAnySplit : Type 0
JoinsOfAnySplit = (traces : List TraceFacts) (parts : List (List TraceFacts)) (summaries : List Summary) (joined whole : Summary) → IsSound joined → IsSound whole →
    IsPermutation traces (traces_of parts) → AllZip IsSummaryOf parts summaries → IsJoinOf summaries joined → IsSummaryOf traces whole → joined ≡ whole
