-- Ranks that the feeds give fall along each walk, so a graph that has them is ranked.
use Rattle.std.proofs.Common.{◌≡◌, ◌≢◌, get_or, ℕ, zero, suc, ◌+◌, ◌<◌, ◌≤◌, true, List, [], ◌∷◌, length, Option, refl, ap, sym, ◌∙◌, subst, inl, inr, arith}
use Rattle.std.specs.Prelude.{Contains, nat_eq, max}
use Rattle.std.proofs.lemmas.Bool.{cases_lt, false≢true}
use Rattle.std.proofs.lemmas.Bool.Decides.{Decides-eqb}
use Rattle.std.proofs.lemmas.Map.Made.{IsDistinct-from_AllPairs}
use Rattle.std.proofs.lemmas.Map.Steps.{length-le_from_distinct_below}
use Rattle.stage_graph.specs.declared.stage.Stage.{Stage}
use Rattle.stage_graph.specs.Plain.{stage_at, feeds_at}
use Rattle.stage_graph.specs.Walk.{Walk, above_all, rank, IsRanked}
use Rattle.stage_graph.proofs.Ranked.{live_from_feed}
use Rattle.stage_graph.proofs.Placing.{place_from_live}
use Rattle.rank_order.specs.Lists.{is_among, Ascends}
use Rattle.rank_order.specs.Ranking.{AreRanks}
use Rattle.rank_order.proofs.Members.{among_cases, pairs_from_ascends}
use Rattle.rank_order.proofs.Listed.{ranks_alone}

-- each of the feeds is below
pub below_above : (ranks : ℕ → ℕ) (feeds : List ℕ) (feed : ℕ) → Contains feeds feed → ranks feed < above_all ranks feeds
below_above ranks [] feed (k, within, at) = absurd (omega arith)
below_above ranks (first ∷ feeds) feed (zero, within, at) = let is : first ≡ feed = at in subst (λ x. ranks x < max (ranks first + 1) (above_all ranks feeds)) is (omega arith)
below_above ranks (first ∷ feeds) feed (suc k, within, at) = let rest : ranks feed < above_all ranks feeds = below_above ranks feeds feed (k, omega arith, at) in omega arith

-- and one is next below
top_feed : (ranks : ℕ → ℕ) (feeds : List ℕ) (rank : ℕ) → above_all ranks feeds ≡ suc rank → (feed : ℕ) × Contains feeds feed × (ranks feed ≡ rank)
top_feed ranks [] rank is = absurd (omega arith)
top_feed ranks (first ∷ feeds) rank is = elim (cases_lt (ranks first + 1) (above_all ranks feeds)) [
  | inl less ↦
      let (feed, (k, within, at), equal) = top_feed ranks feeds rank (omega arith) in
      (feed, (suc k, omega arith, at), equal)
  | inr most ↦ (first, (zero, omega arith, refl), omega arith)
]

-- places in an order that tells them apart are as many as there are places, at most
pub apart_short : (R : ℕ → ℕ → Type 0) → ((one other : ℕ) → R one other → one ≢ other) → (count : ℕ) (places : List ℕ) → Ascends R places → ((place : ℕ) → is_among place places ≡ true → place < count) → length places ≤ count
apart_short R apart count places ascends within =
    length-le_from_distinct_below places count
    (IsDistinct-from_AllPairs {eq = nat_eq} (λ a b. Decides-eqb a b) places
    (λ i j d below short. apart (get_or places i d) (get_or places j d) (pairs_from_ascends R places ascends i j d below short)))
    within

-- places whose ranks fall
abbrev pub Falls : (ℕ → ℕ) → List ℕ → Type 0
Falls ranks places = Ascends (λ one other. ranks other < ranks one) places

pub falls_short : (ranks : ℕ → ℕ) (count : ℕ) (places : List ℕ) → Falls ranks places → ((place : ℕ) → is_among place places ≡ true → place < count) → length places ≤ count
falls_short ranks count places falls within =
    apart_short (λ one other. ranks other < ranks one) (λ one other less same. let equal = ap ranks same in omega arith) count places falls within

module _ (places : List (Option Stage)) where
  dependent_place : (dependent feed : ℕ) → Contains (feeds_at places dependent) feed → dependent < length places
  dependent_place dependent feed has = place_from_live places dependent (live_from_feed (stage_at places dependent) feed has)

  module _ (ranks : ℕ → ℕ) where
    -- the places of a walk
    record Passed (steps place : ℕ) : Type 0 where
      pub rest : List ℕ
      pub count : length rest ≡ steps
      pub falls : Falls ranks (place ∷ rest)
      pub within : (other : ℕ) → is_among other (place ∷ rest) ≡ true → other < length places

    passed : AreRanks (feeds_at places) ranks → (steps place : ℕ) → Walk places steps place → Passed steps place
    passed are zero place walk = record {
      rest = [];
      count = refl;
      falls = ((λ other none. absurd (false≢true none)), tt);
      within = λ other among. elim (among_cases other place [] among) [ inl same ↦ omega (arith, walk) | inr none ↦ absurd (false≢true none) ];
    }
    passed are (suc steps) place (feed, has, walk) =
        let on : Passed steps feed = passed are steps feed walk in
        let lower : ranks feed < ranks place = subst (λ r. ranks feed < r) (sym (are place)) (below_above ranks (feeds_at places place) feed has) in
        record {
          rest = feed ∷ on.rest;
          count = let same = on.count in omega arith;
          falls = (
            (λ other among. elim (among_cases other feed on.rest among) [
              | inl same ↦ subst (λ x. ranks x < ranks place) (sym same) lower
              | inr later ↦ let less = on.falls.0 other later in omega arith
            ]),
            on.falls,
          );
          within = λ other among. elim (among_cases other place (feed ∷ on.rest) among) [
            | inl same ↦ subst (λ x. x < length places) (sym same) (dependent_place place feed has)
            | inr later ↦ on.within other later
          ];
        }

    -- ranks that the feeds give are those of a ranked graph
    pub ranked_from_ranks : AreRanks (feeds_at places) ranks → IsRanked places
    ranked_from_ranks are place walk =
        let on : Passed (length places) place = passed are (length places) place walk in
        let all : length (place ∷ on.rest) ≤ length places = falls_short ranks (length places) (place ∷ on.rest) on.falls on.within in
        omega (arith, on.count)

    pub ranks_are : AreRanks (feeds_at places) ranks → (place : ℕ) → ranks place ≡ rank places place
    ranks_are are place = ranks_alone places (ranked_from_ranks are) ranks are place

-- ranks that the feeds of each place give are at most the number of places
module _ (feeds : ℕ → List ℕ) (count : ℕ) (its_dependents : (dependent feed : ℕ) → Contains (feeds dependent) feed → dependent < count) (ranks : ℕ → ℕ) (are : AreRanks feeds ranks) where
  -- the places that a rank comes from
  record Below (rank place : ℕ) : Type 0 where
    pub chain : List ℕ
    pub count_is : length chain ≡ rank
    pub falls : Falls ranks chain
    pub top : (other : ℕ) → is_among other chain ≡ true → ranks other ≤ ranks place
    pub within : (other : ℕ) → is_among other chain ≡ true → other < count

  chain_below : (level place : ℕ) → ranks place ≡ level → Below level place
  chain_below zero place is = record { chain = []; count_is = refl; falls = tt; top = λ other none. absurd (false≢true none); within = λ other none. absurd (false≢true none) }
  chain_below (suc level) place is =
      let (feed, has, equal) = top_feed ranks (feeds place) level (sym (are place) ∙ is) in
      let on : Below level feed = chain_below level feed equal in
      record {
        chain = place ∷ on.chain;
        count_is = let same = on.count_is in omega arith;
        falls = ((λ other among. let low = on.top other among in omega arith), on.falls);
        top = λ other among. elim (among_cases other place on.chain among) [
          | inl same ↦ let equal_ranks = ap ranks same in omega arith
          | inr later ↦ let low = on.top other later in omega arith
        ];
        within = λ other among. elim (among_cases other place on.chain among) [
          | inl same ↦ subst (λ x. x < count) (sym same) (its_dependents place feed has)
          | inr later ↦ on.within other later
        ];
      }

  pub ranks_small : (place : ℕ) → ranks place ≤ count
  ranks_small place =
      let on : Below (ranks place) place = chain_below (ranks place) place refl in
      let short : length on.chain ≤ count = falls_short ranks count on.chain on.falls on.within in
      omega (arith, on.count_is)
