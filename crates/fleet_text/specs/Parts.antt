-- The summaries of parts of traces, joined.
use Rattle.std.specs.Prelude.{◌≡◌, List, [], ◌∷◌, ◌++◌, sum_by}
use Rattle.fleet_summary.specs.declared.facts.TraceFacts.{TraceFacts}
use Rattle.fleet_summary.specs.declared.summary.Summary.{Summary}
use Rattle.fleet_summary.specs.Counters.{Counter, amount}
use Rattle.fleet_summary.specs.Histogram.{capped}
use Rattle.fleet_text.specs.declared.basis.Basis.{Basis}
use Rattle.fleet_text.specs.declared.part.PartSummary.{PartSummary}

abbrev pub summary_of : PartSummary → Summary
summary_of part = part.summary

abbrev pub basis_of : PartSummary → Basis
basis_of part = part.basis

-- some summaries, joined: each number is the sum of those of all
abbrev pub IsJoinOf : List Summary → Summary → Type 0
IsJoinOf parts joined = (counter : Counter) → amount joined counter ≡ capped (sum_by (λ part. amount part counter) parts)

-- the traces of some parts
abbrev pub traces_of : List (List TraceFacts) → List TraceFacts
traces_of [] = []
traces_of (part ∷ parts) = part ++ traces_of parts
