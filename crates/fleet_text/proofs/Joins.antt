-- The joins of some parts.
use Rattle.std.proofs.Common.{ℕ, ◌≡◌, ◌+◌, ◌<◌, ◌≤◌, List, [], ◌∷◌, length, get_or, take, map, sum_by, sym, refl, ap, ◌∙◌, arith}
use Rattle.std.specs.List.{AllZip}
use Rattle.std.specs.List.Sorted.{IsPermutation}
use Rattle.std.proofs.lemmas.List.{take_all}
use Rattle.std.proofs.lemmas.List.Sorted.{sum_by-IsPermutation}
use Rattle.std.proofs.lemmas.List.Sums.{sum_by-append, sum_by-cons, sum_by_more}
use Rattle.fleet_summary.specs.declared.facts.TraceFacts.{TraceFacts}
use Rattle.fleet_summary.specs.declared.summary.Summary.{Summary}
use Rattle.fleet_summary.specs.Histogram.{capped}
use Rattle.fleet_summary.specs.Counters.{Counter, IsSound, IsSummaryJoin, IsSummaryOf, amount, facts_at}
use Rattle.fleet_summary.proofs.SummaryLaws.{same_summary}
use Rattle.fleet_text.specs.declared.part.PartSummary.{PartSummary}
use Rattle.fleet_text.specs.Parts.{IsJoinOf, summary_of, traces_of}

pub join-order : (parts others : List Summary) (joined other : Summary) → IsSound joined → IsSound other → IsPermutation parts others → IsJoinOf parts joined → IsJoinOf others other → joined ≡ other
join-order parts others joined other is also moved join turned =
    same_summary joined other is also (λ counter.
    let a : amount joined counter ≡ capped (sum_by (λ part. amount part counter) parts) = join counter in
    let b : amount other counter ≡ capped (sum_by (λ part. amount part counter) others) = turned counter in
    omega (arith, sum_by-IsPermutation (λ (part : Summary). amount part counter) parts others moved))

-- a sum of what is capped is capped as the sum
capped_both : (own others whole rest : ℕ) → own ≡ capped whole → capped others ≡ capped rest → capped (own + others) ≡ capped (whole + rest)
capped_both own others whole rest is same = omega arith

-- the parts' numbers come to those of their traces
sum-parts : (counter : Counter) (parts : List (List TraceFacts)) (summaries : List Summary) → AllZip IsSummaryOf parts summaries →
    capped (sum_by (λ part. amount part counter) summaries) ≡ capped (sum_by (λ facts. facts_at facts counter) (traces_of parts))
sum-parts counter [] [] each = refl
sum-parts counter [] (s ∷ ss) each = absurd each
sum-parts counter (part ∷ parts) [] each = absurd each
sum-parts counter (part ∷ parts) (s ∷ ss) each =
    let own : amount s counter ≡ capped (sum_by (λ facts. facts_at facts counter) part) = each.0 counter in
    let rest : capped (sum_by (λ part. amount part counter) ss) ≡ capped (sum_by (λ facts. facts_at facts counter) (traces_of parts)) = sum-parts counter parts ss each.1 in
    ap capped (sum_by-cons (λ (own_part : Summary). amount own_part counter) s ss)
    ∙ capped_both (amount s counter) (sum_by (λ part. amount part counter) ss) (sum_by (λ facts. facts_at facts counter) part) (sum_by (λ facts. facts_at facts counter) (traces_of parts)) own rest
    ∙ ap capped (sym (sum_by-append (λ (facts : TraceFacts). facts_at facts counter) part (traces_of parts)))

pub join-split : (traces : List TraceFacts) (parts : List (List TraceFacts)) (summaries : List Summary) (joined whole : Summary) → IsSound joined → IsSound whole →
    IsPermutation traces (traces_of parts) → AllZip IsSummaryOf parts summaries → IsJoinOf summaries joined → IsSummaryOf traces whole → joined ≡ whole
join-split traces parts summaries joined whole is also moved each join of =
    same_summary joined whole is also (λ counter.
    let a : amount joined counter ≡ capped (sum_by (λ part. amount part counter) summaries) = join counter in
    let b : amount whole counter ≡ capped (sum_by (λ facts. facts_at facts counter) traces) = of counter in
    let c : sum_by (λ facts. facts_at facts counter) traces ≡ sum_by (λ facts. facts_at facts counter) (traces_of parts) = sym (sum_by-IsPermutation (λ (facts : TraceFacts). facts_at facts counter) traces (traces_of parts) moved) in
    let d : capped (sum_by (λ part. amount part counter) summaries) ≡ capped (sum_by (λ facts. facts_at facts counter) (traces_of parts)) = sum-parts counter parts summaries each in
    a ∙ d ∙ ap capped (sym c) ∙ sym b)

-- ---- joined one by one

-- the first, and so many of the others, are joined
abbrev pub AreJoined : Summary → List PartSummary → Summary → ℕ → Type 0
AreJoined first others now index = (counter : Counter) → amount now counter ≡ capped (amount first counter + sum_by (λ (part : PartSummary). amount part.summary counter) (take index others))

pub AreJoined-none : (none first now : Summary) (others : List PartSummary) → ((counter : Counter) → amount none counter ≡ 0) → IsSummaryJoin none first now → AreJoined first others now 0
AreJoined-none none first now others nothing join counter =
    let own : amount now counter ≡ capped (amount none counter + amount first counter) = join counter in
    omega (arith, nothing counter)

pub AreJoined-more : (first now later : Summary) (others : List PartSummary) (index : ℕ) (part : PartSummary) → index < length others → part ≡ get_or others index part → AreJoined first others now index → IsSummaryJoin now part.summary later →
    AreJoined first others later (index + 1)
AreJoined-more first now later others index part below there joined join counter =
    let before : amount now counter ≡ capped (amount first counter + sum_by (λ (own : PartSummary). amount own.summary counter) (take index others)) = joined counter in
    let after : amount later counter ≡ capped (amount now counter + amount part.summary counter) = join counter in
    let more : sum_by (λ (own : PartSummary). amount own.summary counter) (take (index + 1) others) ≡ sum_by (λ (own : PartSummary). amount own.summary counter) (take index others) + amount (get_or others index part).summary counter =
    sum_by_more (λ (own : PartSummary). amount own.summary counter) others index part below in
    let item : amount (get_or others index part).summary counter ≡ amount part.summary counter = ap (λ (own : PartSummary). amount own.summary counter) (sym there) in
    omega arith

sum-map : (counter : Counter) (others : List PartSummary) → sum_by (λ part. amount part counter) (map summary_of others) ≡ sum_by (λ (part : PartSummary). amount part.summary counter) others
sum-map counter [] = refl
sum-map counter (part ∷ others) =
    let first : sum_by (λ own. amount own counter) (part.summary ∷ map summary_of others) ≡ amount part.summary counter + sum_by (λ own. amount own counter) (map summary_of others) = sum_by-cons (λ (own : Summary). amount own counter) part.summary (map summary_of others) in
    let other : sum_by (λ (own : PartSummary). amount own.summary counter) (part ∷ others) ≡ amount part.summary counter + sum_by (λ (own : PartSummary). amount own.summary counter) others = sum_by-cons (λ (own : PartSummary). amount own.summary counter) part others in
    omega (arith, sum-map counter others)

pub AreJoined-all : (first now : Summary) (others : List PartSummary) (index : ℕ) → length others ≤ index → AreJoined first others now index → IsJoinOf (first ∷ map summary_of others) now
AreJoined-all first now others index past joined counter =
    let whole : amount now counter ≡ capped (amount first counter + sum_by (λ (part : PartSummary). amount part.summary counter) (take index others)) = joined counter in
    let all : sum_by (λ (part : PartSummary). amount part.summary counter) (take index others) ≡ sum_by (λ (part : PartSummary). amount part.summary counter) others = ap (λ parts. sum_by (λ (part : PartSummary). amount part.summary counter) parts) (take_all index others past) in
    let first_too : sum_by (λ part. amount part counter) (first ∷ map summary_of others) ≡ amount first counter + sum_by (λ part. amount part counter) (map summary_of others) = sum_by-cons (λ (part : Summary). amount part counter) first (map summary_of others) in
    omega (arith, sum-map counter others)
