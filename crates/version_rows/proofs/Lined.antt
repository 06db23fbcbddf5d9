-- Rows below the names of their services.
use Rattle.std.proofs.Common.{◌≡◌, ℕ, ◌+◌, ◌*◌, ◌<◌, ◌≤◌, Bool, true, false, List, [], ◌∷◌, ◌++◌, Option, None, Some, ap, arith, append_assoc, length, length-append, drop, drop-cons, add-one, get_or, sym, subst, ◌∙◌, if◌then◌else◌}
use Rattle.std.specs.Prelude.{IsPermutation}
use Rattle.std.specs.List.Sorted.{IsNonDecreasingBy, IsStableByKey}
use Rattle.std.specs.Ordering.{nat_cmp}
use Rattle.std.proofs.lemmas.List.{length-map}
use Rattle.std.proofs.lemmas.List.Sorted.{length_permutation}
use Rattle.stage_graph.specs.Plain.{PlainGraph}
use Rattle.version_rows.specs.declared.candidate.Candidate.{Candidate}
use Rattle.version_rows.specs.declared.line.Line.{Line}
use Rattle.version_rows.specs.declared.line.Line.TheVariants.{Stage, Service}
use Rattle.version_rows.specs.declared.room.Room.{Room}
use Rattle.version_rows.specs.declared.room.Room.TheVariants.{Picture, Services, Events}
use Rattle.version_rows.specs.Lines.{IsByService, IsGrouped, begins, lines_after, lines_at, most_lines, numbered, numbered_of, service_in}
use Rattle.version_rows.specs.Rooms.{most_rows}

-- the rows of the next candidate, and those after them
pub next_lines : (before : Option ℕ) (grouped : List Candidate) (i : ℕ) (d : Candidate) → i < length grouped
    → lines_after before (drop i grouped) ≡ lines_at before (get_or grouped i d) ++ lines_after (Some (get_or grouped i d).service) (drop (i + 1) grouped)
next_lines before grouped i d within =
    ap (lines_after before) (drop-cons grouped i d within ∙ ap (λ n. get_or grouped i d ∷ drop n grouped) (sym (add-one i)))

-- those of one more are there
pub grows : (lines new rest piece more whole : List Line) → lines ++ rest ≡ whole → rest ≡ piece ++ more → new ≡ lines ++ piece → new ++ more ≡ whole
grows lines new rest piece more whole so_far next grown =
    ap (λ l. l ++ more) grown ∙ append_assoc lines piece more ∙ ap (λ l. lines ++ l) (sym next) ∙ so_far

at_most_two : (begun : Bool) (candidate : Candidate) → length (if begun then Service candidate ∷ Stage candidate ∷ [] else Stage candidate ∷ []) ≤ 2
at_most_two true candidate = omega arith
at_most_two false candidate = omega arith

-- each candidate has one row, or two
pub twice : (before : Option ℕ) (candidates : List Candidate) → length (lines_after before candidates) ≤ 2 * length candidates
twice before [] = omega arith
twice before (candidate ∷ candidates) =
    let here = at_most_two (begins before candidate.service) candidate in
    let there = twice (Some candidate.service) candidates in
    let both = length-append (lines_at before candidate) (lines_after (Some candidate.service) candidates) in
    omega (arith, here, there, both)

-- grouping leaves as many
pub as_many : (graph : PlainGraph) (chosen grouped : List Candidate) → IsPermutation (numbered graph chosen) grouped → length grouped ≡ length chosen
as_many graph chosen grouped same =
    let after = length_permutation (numbered graph chosen) grouped same in
    let before = length-map chosen (numbered_of graph chosen) in
    omega (arith, after, before)

-- where there is room for the candidates, there are few rows
pub few_lines : (room : Room) (candidates lines : ℕ) → candidates ≤ most_rows room → lines ≤ most_lines room candidates → lines ≤ 2000
few_lines Picture candidates lines few at_most = omega (arith, few, at_most)
few_lines Services candidates lines few at_most = omega (arith, few, at_most)
few_lines Events candidates lines few at_most = omega (arith, few, at_most)

-- the candidates, numbered and grouped, and a row for each below that of its service
pub laid_out : (graph : PlainGraph) (chosen numbers grouped : List Candidate) (lines : List Line) → numbers ≡ numbered graph chosen
    → IsPermutation numbers grouped → IsNonDecreasingBy service_in grouped → IsStableByKey service_in nat_cmp numbers grouped → lines ≡ lines_after None grouped
    → IsByService graph chosen lines
laid_out graph chosen numbers grouped lines is same by_service in_order headed =
    let them : IsGrouped graph chosen grouped = record {
      same = subst (λ (numbers : List Candidate). IsPermutation numbers grouped) is same;
      by_service = by_service;
      in_order = subst (λ (numbers : List Candidate). IsStableByKey service_in nat_cmp numbers grouped) is in_order;
    } in
    (grouped, them, headed)

pub few_headed : (graph : PlainGraph) (chosen numbers grouped : List Candidate) (lines : List Line) → numbers ≡ numbered graph chosen
    → IsPermutation numbers grouped → lines ≡ lines_after None grouped → length lines ≤ 2 * length chosen
few_headed graph chosen numbers grouped lines is same headed =
    let many = as_many graph chosen grouped (subst (λ (numbers : List Candidate). IsPermutation numbers grouped) is same) in
    let few = twice None grouped in
    let these = ap length headed in
    omega (arith, many, few, these)
