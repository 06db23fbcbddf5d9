-- How the places that a target can wait for are found.
use Rattle.std.proofs.Common.{◌≡◌, ◌+◌, ◌<◌, ◌≤◌, ℕ, true, false, List, [], ◌∷◌, ◌++◌, Option, Some, None, length, get_or, refl, ap, sym, ◌∙◌, subst, inl, inr, arith, ⊎_elim, replicate, length-append}
use Rattle.std.specs.Prelude.{All, Contains, is_some, slice_set, ◌⊎◌}
use Rattle.std.specs.List.{sum_by}
use Rattle.std.proofs.lemmas.Bool.{cases_lt, false≢true}
use Rattle.std.proofs.lemmas.List.{get_or-replicate, get_or_past, length-replicate, length-set}
use Rattle.std.proofs.lemmas.List.Elements.{All-contains, Contains-append_cases, Contains-append_left, Contains-append_right}
use Rattle.std.proofs.lemmas.List.Sums.{sum_by-set}
use Rattle.stage_graph.specs.Plain.{feeds_at, IsLive}
use Rattle.stage_graph.specs.Walk.{rank}
use Rattle.stage_graph.proofs.Lists.{All-contains_each, set_cases}
use Rattle.rank_order.specs.Lists.{is_among}
use Rattle.propagate.specs.Reach.{Stages}
use Rattle.propagate.proofs.Members.{among_here, among_push_cases, among_push_left, among_push_self}
use Rattle.propagate.proofs.Ranks.{live_within}
use Rattle.time_sweep.specs.Known.{AreRanksFor, IsFinding, IsFurther, IsKnown, rank_in, unknown}
use Rattle.time_sweep.specs.Waits.{IsOnly}

-- ---- nothing is found yet

none_of : (count place : ℕ) → rank_in (replicate count None) place ≡ None
none_of count place =
    ⊎_elim
    (λ within. get_or-replicate count place None None within)
    (λ past. let long : length (replicate {A = Option ℕ} count None) ≡ count = length-replicate count None in
    let beyond : length (replicate {A = Option ℕ} count None) ≤ place = omega (arith, long, past) in get_or_past (replicate count None) place None beyond)
    (cases_lt place count)

pub none_found : (stages : Stages) (count : ℕ) (ranks : List (Option ℕ)) → ranks ≡ replicate count None → count ≡ length stages → IsFinding stages ranks
none_found stages count ranks none all = record {
  count = ap (λ (ranks : List (Option ℕ)). length ranks) none ∙ length-replicate count None ∙ all;
  live = λ place known. absurd (false≢true (sym (ap is_some (nothing place)) ∙ known));
  rank = λ place known is. absurd (apart (sym (nothing place) ∙ is));
} where
  nothing : (place : ℕ) → rank_in ranks place ≡ None
  nothing place = ap (λ (ranks : List (Option ℕ)). rank_in ranks place) none ∙ none_of count place

  apart : {known : ℕ} → None ≡ Some known → ⊥
  apart e = cc

pub nothing_known : (count : ℕ) (ranks : List (Option ℕ)) → ranks ≡ replicate count None → (place : ℕ) → IsKnown ranks place → ⊥
nothing_known count ranks none place known = false≢true (sym (ap is_some (ap (λ (ranks : List (Option ℕ)). rank_in ranks place) none ∙ none_of count place)) ∙ known)

-- ---- more places are found

pub no_further : (ranks : List (Option ℕ)) (waiting : List ℕ) → IsFurther ranks waiting ranks waiting
no_further ranks waiting = record { kept = λ place known. known; fresh = λ place known. inl known; waits = λ place among. among; count = refl }

pub still_further : {ranks ranks_then ranks_last : List (Option ℕ)} {waiting waiting_then waiting_last : List ℕ} → IsFurther ranks waiting ranks_then waiting_then
    → IsFurther ranks_then waiting_then ranks_last waiting_last → IsFurther ranks waiting ranks_last waiting_last
still_further one other = record {
  kept = λ place known. other.kept place (one.kept place known);
  fresh = λ place known. ⊎_elim (λ was. ⊎_elim (λ before. inl before) (λ waits. inr (other.waits place waits)) (one.fresh place was)) (λ waits. inr waits) (other.fresh place known);
  waits = λ place among. other.waits place (one.waits place among);
  count = other.count ∙ one.count;
}

-- one more place is found
module _ (stages : Stages) (ranks : List (Option ℕ)) (waiting : List ℕ) (finding : IsFinding stages ranks) (place : ℕ) (live : IsLive stages place) (before : is_some (rank_in ranks place) ≡ false) where
  abbrev grown : List (Option ℕ)
  grown = slice_set ranks place (Some (rank stages place))

  within : place < length ranks
  within = let inside = live_within stages place live in omega (arith, inside, finding.count)

  now : rank_in grown place ≡ Some (rank stages place)
  now = elim (set_cases ranks place place (Some (rank stages place)) None within) [ inl (at, is) ↦ is | inr (differ, is) ↦ absurd (differ refl) ]

  elsewhere : (other : ℕ) → (other ≡ place) ⊎ (rank_in grown other ≡ rank_in ranks other)
  elsewhere other = elim (set_cases ranks place other (Some (rank stages place)) None within) [ inl (at, is) ↦ inl at | inr (differ, is) ↦ inr is ]

  pub one_known : IsKnown grown place
  one_known = ap is_some now

  pub one_finding : IsFinding stages grown
  one_finding = record {
    count = length-set ranks place (Some (rank stages place)) ∙ finding.count;
    live = λ other known.
        ⊎_elim (λ same. subst (λ p. IsLive stages p) (sym same) live) (λ is. finding.live other (sym (ap is_some is) ∙ known)) (elsewhere other);
    rank = λ other known is.
        ⊎_elim
        (λ (same : other ≡ place). the known (rank stages place) (sym is ∙ ap (rank_in grown) same ∙ now) ∙ ap (rank stages) (sym same))
        (λ was. finding.rank other known (sym was ∙ is))
        (elsewhere other);
  } where
    the : (a b : ℕ) → Some a ≡ Some b → a ≡ b
    the a b e = cc

  less : (here : Option ℕ) → is_some here ≡ false → unknown here ≡ 1
  less None none = refl
  less (Some rank) none = absurd (false≢true (sym none))

  pub one_further : IsFurther ranks waiting grown (waiting ++ place ∷ [])
  one_further = record {
    kept = λ other known. ⊎_elim (λ same. subst (λ p. IsKnown grown p) (sym same) one_known) (λ is. ap is_some is ∙ known) (elsewhere other);
    fresh = λ other known.
        ⊎_elim (λ (same : other ≡ place). inr (subst (λ p. is_among p (waiting ++ place ∷ []) ≡ true) (sym same) (among_push_self place waiting))) (λ is. inl (sym (ap is_some is) ∙ known)) (elsewhere other);
    waits = λ other among. among_push_left other place waiting among;
    count =
        let counted : sum_by unknown grown + unknown (rank_in ranks place) ≡ sum_by unknown ranks + 0 = sum_by-set unknown ranks place (Some (rank stages place)) None within in
        let one : unknown (rank_in ranks place) ≡ 1 = less (rank_in ranks place) before in
        let long = length-append waiting (place ∷ []) in
        omega (arith, counted, one, long);
  }

  pub one_only : IsOnly ranks waiting grown (waiting ++ place ∷ []) (place ∷ [])
  one_only = record {
    known = λ other known. ⊎_elim (λ (same : other ≡ place). inr (itself other same)) (λ is. inl (sym (ap is_some is) ∙ known)) (elsewhere other);
    waits = λ other among. ⊎_elim (λ was. inl was) (λ (same : place ≡ other). inr (itself other (sym same))) (among_push_cases other place waiting among);
  } where
    itself : (other : ℕ) → other ≡ place → is_among other (place ∷ []) ≡ true
    itself other same = subst (λ (s : ℕ). is_among s (place ∷ []) ≡ true) (sym same) (among_here place [])

-- the places of a list that are known stay known
pub all_kept : {ranks ranks_then : List (Option ℕ)} {waiting waiting_then : List ℕ} → IsFurther ranks waiting ranks_then waiting_then → (places : List ℕ) → All (IsKnown ranks) places → All (IsKnown ranks_then) places
all_kept further places all k d short = further.kept (get_or places k d) (all k d short)

-- the feeds of a stage are found where its sources and then its inner stages are
pub feeds_known : {ranks ranks_then : List (Option ℕ)} {waiting waiting_then : List ℕ} → IsFurther ranks waiting ranks_then waiting_then → (sources inner : List ℕ) → All (IsKnown ranks) sources → All (IsKnown ranks_then) inner
    → (feed : ℕ) → Contains (sources ++ inner) feed → IsKnown ranks_then feed
feeds_known {ranks} {ranks_then} further sources inner first second feed c =
    ⊎_elim (λ l. further.kept feed (All-contains (IsKnown ranks) sources feed first l)) (λ r. All-contains (IsKnown ranks_then) inner feed second r) (Contains-append_cases sources inner feed c)

module _ (stages : Stages) (sources inner : List ℕ) (live : All (IsLive stages) (sources ++ inner)) where
  pub sources_live : All (IsLive stages) sources
  sources_live = All-contains_each (IsLive stages) sources (λ feed at. All-contains (IsLive stages) (sources ++ inner) feed live (Contains-append_left sources inner feed at))

  pub inner_live : All (IsLive stages) inner
  inner_live = All-contains_each (IsLive stages) inner (λ feed at. All-contains (IsLive stages) (sources ++ inner) feed live (Contains-append_right sources inner feed at))

-- ---- the feeds of each place that doesn't wait are found

abbrev pub IsLooked : Stages → List (Option ℕ) → List ℕ → Type 0
IsLooked stages ranks waiting = (place : ℕ) → IsKnown ranks place → (is_among place waiting ≡ true) ⊎ ((feed : ℕ) → Contains (feeds_at stages place) feed → IsKnown ranks feed)

pub first_looked : (stages : Stages) {ranks ranks_then : List (Option ℕ)} {waiting waiting_then : List ℕ} → ((place : ℕ) → IsKnown ranks place → ⊥) → IsFurther ranks waiting ranks_then waiting_then
    → IsLooked stages ranks_then waiting_then
first_looked stages none further place known = ⊎_elim (λ was. absurd (none place was)) (λ waits. inl waits) (further.fresh place known)

-- one of the waiting places is looked at
pub looked_more : (stages : Stages) {ranks ranks_then : List (Option ℕ)} {waiting left waiting_then : List ℕ} (here : ℕ) → IsLooked stages ranks waiting → waiting ≡ left ++ here ∷ []
    → IsFurther ranks left ranks_then waiting_then → ((feed : ℕ) → Contains (feeds_at stages here) feed → IsKnown ranks_then feed) → IsLooked stages ranks_then waiting_then
looked_more stages {ranks} {ranks_then} {waiting} {left} {waiting_then} here looked split further feeds place known =
    ⊎_elim
    (λ was.
    ⊎_elim
    (λ among.
    ⊎_elim
    (λ stays. inl (further.waits place stays))
    (λ (same : here ≡ place). inr (subst (λ p. (feed : ℕ) → Contains (feeds_at stages p) feed → IsKnown ranks_then feed) same feeds))
    (among_push_cases place here left (ap (λ (places : List ℕ). is_among place places) (sym split) ∙ among)))
    (λ before. inr (λ feed c. further.kept feed (before feed c)))
    (looked place was))
    (λ waits. inl waits)
    (further.fresh place known)

-- in the end none waits
pub all_looked : (stages : Stages) (target : ℕ) (ranks : List (Option ℕ)) (waiting : List ℕ) → IsFinding stages ranks → IsKnown ranks target → IsLooked stages ranks waiting → waiting ≡ [] → AreRanksFor stages target ranks
all_looked stages target ranks waiting finding own looked none = record {
  count = finding.count;
  own = own;
  live = finding.live;
  rank = finding.rank;
  feeds = λ place feed known c. ⊎_elim (λ among. absurd (false≢true (ap (λ (places : List ℕ). is_among place places) (sym none) ∙ among))) (λ feeds. feeds feed c) (looked place known);
}
