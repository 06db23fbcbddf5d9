-- One stage for several: each join has some of them, and earlier joins.
use Rattle.std.proofs.Common.{◌≡◌, ℕ, suc, zero, ◌+◌, ◌<◌, ◌≤◌, inl, inr, List, [], ◌∷◌, ◌++◌, Bool, true, false, cond, length, Some, refl, sym, ap, ◌∙◌, subst, arith, append_assoc, length-append}
use Rattle.std.specs.Prelude.{◌⊎◌, IfSome, nat_lt, slice_get, fold}
use Rattle.std.proofs.lemmas.Option.{none-some, same_Some}
use Rattle.std.proofs.lemmas.List.{append-nil}
use Rattle.trace_stages.specs.Joins.{PlainGathering, PlainJoined, finished_with, gathered, join_id, joined_of}
use Rattle.trace_stages.specs.declared.walk.joins.JoinsOf.{JoinsOf}
use Rattle.trace_stages.specs.declared.walk.stage_id.StageId.{StageId}
use Rattle.trace_laws.proofs.Each.{Each, each-push, each-weaker}

-- a source of a join: one of some stages, or an earlier join
abbrev pub Made : JoinsOf → (StageId → Type 0) → ℕ → StageId → Type 0
Made of Base j id = Base id ⊎ ((k : ℕ) × (k < j) × (id ≡ join_id of k))

abbrev pub AreMade : JoinsOf → (StageId → Type 0) → ℕ → List (List StageId) → Type 0
AreMade of Base j [] = Unit {0}
AreMade of Base j (sources ∷ joins) = Each (Made of Base j) sources × AreMade of Base (suc j) joins

-- a list that begins with another
abbrev pub Extends : {X : Type 0} → List X → List X → Type 0
Extends {X} xs ys = (more : List X) × (ys ≡ xs ++ more)

pub extends-refl : {X : Type 0} (xs : List X) → Extends xs xs
extends-refl xs = ([], sym (append-nil xs))

pub extends-trans : {X : Type 0} (xs ys zs : List X) → Extends xs ys → Extends ys zs → Extends xs zs
extends-trans xs ys zs (more, first) (others, second) = (more ++ others, second ∙ ap (λ those. those ++ others) first ∙ append_assoc xs more others)

pub extends-longer : {X : Type 0} (xs ys : List X) → Extends xs ys → length xs ≤ length ys
extends-longer xs ys (more, same) = less (length xs) (length ys) (length more) (ap length same ∙ length-append xs more)
  where
    less : (a b c : ℕ) → b ≡ a + c → a ≤ b
    less a b c e = omega arith

pub made-later : (of : JoinsOf) (Base : StageId → Type 0) (j n : ℕ) → j ≤ n → (id : StageId) → Made of Base j id → Made of Base n id
made-later of Base j n le id (inl base) = inl base
made-later of Base j n le id (inr (k, lt, is)) = inr (k, omega arith, is)

pub made-weaker : (of : JoinsOf) (Base Other : StageId → Type 0) → ((id : StageId) → Base id → Other id) → (j : ℕ) (id : StageId) → Made of Base j id → Made of Other j id
made-weaker of Base Other then j id (inl base) = inl (then id base)
made-weaker of Base Other then j id (inr join) = inr join

pub are_made-weaker : (of : JoinsOf) (Base Other : StageId → Type 0) → ((id : StageId) → Base id → Other id) → (j : ℕ) (joins : List (List StageId)) → AreMade of Base j joins → AreMade of Other j joins
are_made-weaker of Base Other then j [] made = tt
are_made-weaker of Base Other then j (sources ∷ joins) made =
    (each-weaker (Made of Base j) (Made of Other j) (made-weaker of Base Other then j) sources made.0, are_made-weaker of Base Other then (suc j) joins made.1)

pub are_made-push : (of : JoinsOf) (Base : StageId → Type 0) (j n : ℕ) (joins : List (List StageId)) (sources : List StageId) → n ≡ j + length joins
    → AreMade of Base j joins → Each (Made of Base n) sources → AreMade of Base j (joins ++ sources ∷ [])
are_made-push of Base j n [] sources e made next = let same : n ≡ j = omega arith in (subst (λ k. Each (Made of Base k) sources) same next, tt)
are_made-push of Base j n (first ∷ joins) sources e made next = (made.0, are_made-push of Base (suc j) n joins sources (omega arith) made.1 next)

pub made-at : (of : JoinsOf) (Base : StageId → Type 0) (j n k : ℕ) (joins : List (List StageId)) (sources : List StageId) → n ≡ j + k
    → AreMade of Base j joins → slice_get joins k ≡ Some sources → Each (Made of Base n) sources
made-at of Base j n k [] sources e made here = absurd (none-some sources here)
made-at of Base j n zero (first ∷ joins) sources e made here =
    let same : j ≡ n = omega arith in
    subst (λ m. Each (Made of Base m) sources) same (subst (Each (Made of Base j)) (same_Some first sources here) made.0)
made-at of Base j n (suc k) (first ∷ joins) sources e made here = made-at of Base (suc j) n k joins sources (omega arith) made.1 here

pub record Gathers (of : JoinsOf) (Base : StageId → Type 0) (before : List (List StageId)) (gathering : PlainGathering) : Type 0 where
  pub extends : Extends before gathering.joins
  pub joins : AreMade of Base 0 gathering.joins
  pub together : Each (Made of Base (length gathering.joins)) gathering.together

gathers_one : (of : JoinsOf) (Base : StageId → Type 0) (before : List (List StageId)) (gathering : PlainGathering) (source : StageId) (few : Bool)
    → Gathers of Base before gathering → Made of Base (length gathering.joins) source
    → Gathers of Base before (cond few (record { joins = gathering.joins; together = gathering.together ++ source ∷ [] })
    (record { joins = gathering.joins ++ gathering.together ∷ []; together = join_id of (length gathering.joins) ∷ source ∷ [] }))
gathers_one of Base before gathering source true kept made = record { extends = kept.extends; joins = kept.joins; together = each-push (Made of Base (length gathering.joins)) gathering.together source kept.together made }
gathers_one of Base before gathering source false kept made =
    let longer : length (gathering.joins ++ gathering.together ∷ []) ≡ length gathering.joins + 1 = length-append gathering.joins (gathering.together ∷ []) in
    record {
      extends = extends-trans before gathering.joins (gathering.joins ++ gathering.together ∷ []) kept.extends (gathering.together ∷ [], refl);
      joins = are_made-push of Base 0 (length gathering.joins) gathering.joins gathering.together (omega arith) kept.joins kept.together;
      together = (
        inr (length gathering.joins, omega (arith, longer), refl),
        (made-later of Base (length gathering.joins) (length (gathering.joins ++ gathering.together ∷ [])) (omega (arith, longer)) source made, tt),
      );
    }

gathers_more : (of : JoinsOf) (Base : StageId → Type 0) (before after : List (List StageId)) → Extends before after → (source : StageId) → Made of Base (length before) source → Made of Base (length after) source
gathers_more of Base before after (more, is) source made =
    let count : length after ≡ length before + length more = ap length is ∙ length-append before more in
    made-later of Base (length before) (length after) (omega (arith, count)) source made

gathers_all : (of : JoinsOf) (Base : StageId → Type 0) (before : List (List StageId)) (gathering : PlainGathering) (sources : List StageId)
    → Gathers of Base before gathering → Each (Made of Base (length before)) sources → Gathers of Base before (fold (gathered of) gathering sources)
gathers_all of Base before gathering [] kept made = kept
gathers_all of Base before gathering (source ∷ sources) kept made =
    gathers_all of Base before (gathered of gathering source) sources
    (gathers_one of Base before gathering source (nat_lt (length gathering.together) 1_024) kept (gathers_more of Base before gathering.joins kept.extends source made.0))
    made.1

pub record Joins (of : JoinsOf) (Base : StageId → Type 0) (before : List (List StageId)) (joined : PlainJoined) : Type 0 where
  pub extends : Extends before joined.joins
  pub joins : AreMade of Base 0 joined.joins
  pub stage : IfSome joined.stage (Made of Base (length joined.joins))

finishes : (of : JoinsOf) (Base : StageId → Type 0) (before joins : List (List StageId)) (together : List StageId)
    → Extends before joins → AreMade of Base 0 joins → Each (Made of Base (length joins)) together → Joins of Base before (finished_with of joins together)
finishes of Base before joins [] extends made here = record { extends = extends; joins = made; stage = tt }
finishes of Base before joins (only ∷ []) extends made here = record { extends = extends; joins = made; stage = here.0 }
finishes of Base before joins (first ∷ second ∷ others) extends made here =
    let longer : length (joins ++ (first ∷ second ∷ others) ∷ []) ≡ length joins + 1 = length-append joins ((first ∷ second ∷ others) ∷ []) in
    record {
      extends = extends-trans before joins (joins ++ (first ∷ second ∷ others) ∷ []) extends ((first ∷ second ∷ others) ∷ [], refl);
      joins = are_made-push of Base 0 (length joins) joins (first ∷ second ∷ others) (omega arith) made here;
      stage = inr (length joins, omega (arith, longer), refl);
    }

-- joins of sources and of earlier joins are such again
pub joins_made : (of : JoinsOf) (Base : StageId → Type 0) (joins : List (List StageId)) (sources : List StageId)
    → AreMade of Base 0 joins → Each (Made of Base (length joins)) sources → Joins of Base joins (joined_of of joins sources)
joins_made of Base joins sources made each =
    let all : Gathers of Base joins (fold (gathered of) (record { joins = joins; together = [] }) sources) =
    gathers_all of Base joins (record { joins = joins; together = [] }) sources (record { extends = extends-refl joins; joins = made; together = tt }) each in
    finishes of Base joins (fold (gathered of) (record { joins = joins; together = [] }) sources).joins (fold (gathered of) (record { joins = joins; together = [] }) sources).together all.extends all.joins all.together
