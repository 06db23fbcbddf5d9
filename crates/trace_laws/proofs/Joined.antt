-- The joins of stages, and the stages that they stand for.
use Rattle.std.proofs.Common.{◌≡◌, ℕ, ◌+◌, ◌*◌, ◌<◌, ◌≤◌, List, [], ◌∷◌, ◌++◌, Bool, true, false, length, fold, Option, Some, None, refl, sym, subst, arith}
use Rattle.std.specs.Prelude.{nat_lt}
use Rattle.std.specs.List.{AllByRecursion as Each}
use Rattle.std.proofs.lemmas.Bool.Decides.{nat_tests}
use Rattle.std.proofs.lemmas.List.{length-append}
use Rattle.trace_stages.specs.declared.walk.joins.JoinsOf.{JoinsOf}
use Rattle.trace_stages.specs.declared.walk.stage_id.StageId.{StageId}
use Rattle.trace_stages.specs.Joins.{PlainGathering, PlainJoined, finished_with, gathered, join_id, joined_of}

pub each_push : {X : Type 0} (P : X → Type 0) (xs : List X) (x : X) → Each P xs → P x → Each P (xs ++ x ∷ [])
each_push P [] x h p = (p, tt)
each_push P (y ∷ ys) x h p = (h.0, each_push P ys x h.1 p)

-- the first of the sources of a join is one that may come first, and the others are others; there are 1,024 at most
abbrev pub IsJoin : (StageId → Type 0) → (StageId → Type 0) → List StageId → Type 0
IsJoin First Other [] = ⊥
IsJoin First Other (first ∷ others) = First first × Each Other others × (length others < 1_024)

abbrev pub IfStage : (StageId → Type 0) → Option StageId → Type 0
IfStage First None = Unit {0}
IfStage First (Some id) = First id

pub record AreJoins (First : StageId → Type 0) (Other : StageId → Type 0) (joined : PlainJoined) : Type 0 where
  pub joins : Each (IsJoin First Other) joined.joins
  pub stage : IfStage First joined.stage

record IsGathering (First : StageId → Type 0) (Other : StageId → Type 0) (gathering : PlainGathering) : Type 0 where
  joins : Each (IsJoin First Other) gathering.joins
  together : IsJoin First Other gathering.together

-- what comes of one more source
abbrev with_source : JoinsOf → Bool → List (List StageId) → List StageId → StageId → PlainGathering
with_source of true joins together source = record { joins = joins; together = together ++ source ∷ [] }
with_source of false joins together source = record { joins = joins ++ together ∷ []; together = join_id of (length joins) ∷ source ∷ [] }

by_room : (of : JoinsOf) (b : Bool) (gathering : PlainGathering) (source : StageId) → nat_lt (length gathering.together) 1_024 ≡ b
    → gathered of gathering source ≡ with_source of b gathering.joins gathering.together source
by_room of true gathering source e = rw e refl
by_room of false gathering source e = rw e refl

-- ---- how many joins there are

abbrev counted : PlainGathering → ℕ
counted gathering = length gathering.joins * 1_023 + length gathering.together

full : (n : ℕ) → n ≤ 1_024 → nat_lt n 1_024 ≡ false → n ≡ 1_024
full n le h = grind (arith, nat_tests)

room : (n : ℕ) → nat_lt n 1_024 ≡ true → n < 1_024
room n h = grind (arith, nat_tests)

record Counts (before : PlainGathering) (after : PlainGathering) : Type 0 where
  sum : counted after ≡ counted before + 1
  low : length after.together ≤ 1_024
  grows : length before.joins ≤ length after.joins

counts_with : (of : JoinsOf) (b : Bool) (joins : List (List StageId)) (together : List StageId) (source : StageId) → length together ≤ 1_024 → nat_lt (length together) 1_024 ≡ b
    → Counts (record { joins = joins; together = together }) (with_source of b joins together source)
counts_with of true joins together source low e = record {
  sum = omega (arith, length-append together (source ∷ []));
  low = omega (arith, length-append together (source ∷ []), room (length together) e);
  grows = omega arith;
}
counts_with of false joins together source low e =
    let is_full = full (length together) low e in
    record {
      sum = omega (arith, length-append joins (together ∷ []), is_full);
      low = omega arith;
      grows = omega (arith, length-append joins (together ∷ []));
    }

counts_one : (of : JoinsOf) (gathering : PlainGathering) (source : StageId) → length gathering.together ≤ 1_024 → Counts gathering (gathered of gathering source)
counts_one of gathering source low =
    subst (Counts gathering) (sym (by_room of (nat_lt (length gathering.together) 1_024) gathering source refl)) (counts_with of (nat_lt (length gathering.together) 1_024) gathering.joins gathering.together source low refl)

record CountsAll (before : PlainGathering) (after : PlainGathering) (sources : List StageId) : Type 0 where
  sum : counted after ≡ counted before + length sources
  low : length after.together ≤ 1_024
  grows : length before.joins ≤ length after.joins

counts_all : (of : JoinsOf) (sources : List StageId) (gathering : PlainGathering) → length gathering.together ≤ 1_024 → CountsAll gathering (fold (gathered of) gathering sources) sources
counts_all of [] gathering low = record { sum = omega arith; low = low; grows = omega arith }
counts_all of (source ∷ sources) gathering low =
    let one = counts_one of gathering source low in
    let rest = counts_all of sources (gathered of gathering source) one.low in
    record { sum = omega (arith, one.sum, rest.sum); low = rest.low; grows = omega (arith, one.grows, rest.grows) }

-- ---- what their sources are

module _ (of : JoinsOf) (First : StageId → Type 0) (Other : StageId → Type 0) (most : ℕ) (too : (id : StageId) → Other id → First id) (joins_too : (j : ℕ) → j < most → First (join_id of j)) where
  more_together : (together : List StageId) (source : StageId) → IsJoin First Other together → Other source → length together < 1_024 → IsJoin First Other (together ++ source ∷ [])
  more_together [] source is other low = absurd is
  more_together (first ∷ others) source is other low = (is.0, each_push Other others source is.1 other, omega (arith, length-append others (source ∷ [])))

  gathers_with : (b : Bool) (joins : List (List StageId)) (together : List StageId) (source : StageId) → nat_lt (length together) 1_024 ≡ b → Each (IsJoin First Other) joins → IsJoin First Other together → Other source
      → length (with_source of b joins together source).joins ≤ most → IsGathering First Other (with_source of b joins together source)
  gathers_with true joins together source e all is other few = record { joins = all; together = more_together together source is other (room (length together) e) }
  gathers_with false joins together source e all is other few = record {
    joins = each_push (IsJoin First Other) joins together all is;
    together = (joins_too (length joins) (omega (arith, length-append joins (together ∷ []))), (other, tt), omega arith);
  }

  gathers_one : (gathering : PlainGathering) (source : StageId) → IsGathering First Other gathering → Other source → length (gathered of gathering source).joins ≤ most → IsGathering First Other (gathered of gathering source)
  gathers_one gathering source is other few =
      let by = by_room of (nat_lt (length gathering.together) 1_024) gathering source refl in
      let fits = subst (λ (g : PlainGathering). length g.joins ≤ most) by few in
      subst (IsGathering First Other) (sym by) (gathers_with (nat_lt (length gathering.together) 1_024) gathering.joins gathering.together source refl is.joins is.together other fits)

  low_together : (together : List StageId) → IsJoin First Other together → length together ≤ 1_024
  low_together [] is = absurd is
  low_together (first ∷ others) is = omega (arith, is.2)

  gathers : (sources : List StageId) (gathering : PlainGathering) → IsGathering First Other gathering → Each Other sources → length (fold (gathered of) gathering sources).joins ≤ most → IsGathering First Other (fold (gathered of) gathering sources)
  gathers [] gathering is others few = is
  gathers (source ∷ sources) gathering is others few =
      let one = counts_one of gathering source (low_together gathering.together is.together) in
      let rest = counts_all of sources (gathered of gathering source) one.low in
      gathers sources (gathered of gathering source) (gathers_one gathering source is others.0 (omega (arith, rest.grows, few))) others.1 few

  finishes : (joins : List (List StageId)) (together : List StageId) → Each (IsJoin First Other) joins → IsJoin First Other together → length (finished_with of joins together).joins ≤ most → AreJoins First Other (finished_with of joins together)
  finishes joins [] all is few = absurd is
  finishes joins (only ∷ []) all is few = record { joins = all; stage = is.0 }
  finishes joins (first ∷ second ∷ others) all is few = record {
    joins = each_push (IsJoin First Other) joins (first ∷ second ∷ others) all is;
    stage = joins_too (length joins) (omega (arith, length-append joins ((first ∷ second ∷ others) ∷ [])));
  }

  -- finishing makes no join less
  finished_grows : (joins : List (List StageId)) (together : List StageId) → length joins ≤ length (finished_with of joins together).joins
  finished_grows joins [] = omega arith
  finished_grows joins (only ∷ []) = omega arith
  finished_grows joins (first ∷ second ∷ others) = omega (arith, length-append joins ((first ∷ second ∷ others) ∷ []))

  -- of sources that may be joined, where the joins are so few
  pub are_joined : (joins : List (List StageId)) (first : StageId) (others : List StageId) → Each (IsJoin First Other) joins → First first → Each Other others
      → length (joined_of of joins (first ∷ others)).joins ≤ most → AreJoins First Other (joined_of of joins (first ∷ others))
  are_joined joins first others all is rest few =
      let begun : PlainGathering = record { joins = joins; together = first ∷ [] } in
      let last = fold (gathered of) begun others in
      let grows = finished_grows last.joins last.together in
      let good = gathers others begun (record { joins = all; together = (is, tt, omega arith) }) rest (omega (arith, grows, few)) in
      finishes last.joins last.together good.joins good.together few

-- ---- how many joins are made

finished_count : (of : JoinsOf) (joins : List (List StageId)) (together : List StageId) → length (finished_with of joins together).joins ≤ length joins + length together
finished_count of joins [] = omega arith
finished_count of joins (only ∷ []) = omega arith
finished_count of joins (first ∷ second ∷ others) = omega (arith, length-append joins ((first ∷ second ∷ others) ∷ []))

finished_more : (of : JoinsOf) (joins : List (List StageId)) (together : List StageId) → length joins ≤ length (finished_with of joins together).joins
finished_more of joins [] = omega arith
finished_more of joins (only ∷ []) = omega arith
finished_more of joins (first ∷ second ∷ others) = omega (arith, length-append joins ((first ∷ second ∷ others) ∷ []))

finished_last : (of : JoinsOf) (joins : List (List StageId)) (together : List StageId) → length (finished_with of joins together).joins ≤ length joins + 1
finished_last of joins [] = omega arith
finished_last of joins (only ∷ []) = omega arith
finished_last of joins (first ∷ second ∷ others) = omega (arith, length-append joins ((first ∷ second ∷ others) ∷ []))

-- a join more makes two sources at least one
pub record FewJoins (joins : List (List StageId)) (joined : PlainJoined) (sources : ℕ) : Type 0 where
  pub grows : length joins ≤ length joined.joins
  -- a join has 1,023 sources more than the join before it
  pub few : length joined.joins * 1_023 ≤ length joins * 1_023 + sources + 1_023

pub few_joins : (of : JoinsOf) (joins : List (List StageId)) (sources : List StageId) → FewJoins joins (joined_of of joins sources) (length sources)
few_joins of joins sources =
    let begun : PlainGathering = record { joins = joins; together = [] } in
    let last = fold (gathered of) begun sources in
    let counts = counts_all of sources begun (omega arith) in
    record {
      grows = omega (arith, counts.grows, finished_more of last.joins last.together);
      few = omega (arith, counts.sum, finished_last of last.joins last.together);
    }
