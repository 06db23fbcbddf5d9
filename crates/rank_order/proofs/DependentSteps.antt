-- Lists of dependents, one dependent and one list at a time.
use Rattle.std.proofs.Common.{◌≡◌, ℕ, zero, suc, ◌+◌, ◌-◌, ◌<◌, ◌≤◌, ◌≢◌, Bool, true, false, List, [], ◌∷◌, ◌++◌, length, map, take, get_or, set, refl, ap, sym, ◌∙◌, subst, inl, inr, arith, length-set, length-append, append-nil, get_or-set_same, get_or-set_other}
use Rattle.std.specs.Prelude.{All, Contains, ◌||◌, ◌&&◌, ◌==◌, nat_lt, Vec, Option}
use Rattle.std.specs.Global.{Global}
use Rattle.std.proofs.lemmas.Bool.{cases_eq, cases_lt, false≢true, eq-eqb, ne_eqb, eqb-true, or_cases, or_left, or_right, and_parts, and_from, ltb-true, lt-ltb}
use Rattle.std.proofs.lemmas.List.{get_or-map, map-set, length-map}
use Rattle.std.proofs.lemmas.List.FromFn.{length-map-range_with_len, fill_by_all}
use Rattle.std.proofs.lemmas.List.Elements.{Contains-get_or, Contains-append_left, Contains-append_right, All-contains}
use Rattle.stage_graph.specs.declared.stage.Stage.{Stage}
use Rattle.stage_graph.specs.Plain.{feeds_at, all_places, dependents, IsLive}
use Rattle.stage_graph.proofs.Placing.{place_from_live}
use Rattle.rank_order.specs.Lists.{is_among, IsAscending}
use Rattle.rank_order.specs.DependentLists.{AreDependents, AreDependentLists, uses_by_feeds, uses_before, with_feeds, listed}
use Rattle.rank_order.proofs.Members.{same_tests, false_unless, among_contains, contains_among, among_append, among_append_left, among_append_right, among_append_cases, among_more, ascends_push, pairs_from_ascends}
use Rattle.rank_order.proofs.Listed.{dependent_within, among_dependents, dependents_ascend, dependents_are, dependents_listed}

-- the same dependents by an equivalent test
pub same_dependents : (uses others : ℕ → Bool) (its_dependents : List ℕ) → ((dependent : ℕ) → uses dependent ≡ others dependent) → AreDependents uses its_dependents → AreDependents others its_dependents
same_dependents uses others its_dependents same are = record { ascending = are.ascending; each = λ dependent. are.each dependent ∙ same dependent }

pub same_lists : (uses others : ℕ → ℕ → Bool) (count : ℕ) (lists : List (List ℕ)) → ((place dependent : ℕ) → uses place dependent ≡ others place dependent) → AreDependentLists uses count lists → AreDependentLists others count lists
same_lists uses others count lists same are = record { long = are.long; its_dependents = λ place within. same_dependents (uses place) (others place) (get_or lists place []) (same place) (are.its_dependents place within) }

or_false : (b : Bool) → (b || false) ≡ b
or_false true = refl
or_false false = refl

-- in an ascending list the greatest place is the last
last_is : (its_dependents : List ℕ) (dependent : ℕ) → IsAscending its_dependents → ((other : ℕ) → is_among other its_dependents ≡ true → other ≤ dependent) → is_among dependent its_dependents ≡ true → get_or its_dependents (length its_dependents - 1) 0 ≡ dependent
last_is its_dependents dependent ascending low among =
    let (k, within, at) = among_contains dependent its_dependents among in
    let last = get_or its_dependents (length its_dependents - 1) 0 in
    let top : last ≤ dependent = low last (contains_among last its_dependents (Contains-get_or its_dependents (length its_dependents - 1) 0 (omega arith))) in
    elim (cases_lt k (length its_dependents - 1)) [
      | inl before ↦ let above : get_or its_dependents k 0 < last = pairs_from_ascends (λ x y. x < y) its_dependents ascending k (length its_dependents - 1) 0 before (omega arith) in let here : get_or its_dependents k 0 ≡ dependent = same_read its_dependents k dependent within at in omega arith
      | inr end ↦ let is : k ≡ length its_dependents - 1 = omega arith in ap (λ n. get_or its_dependents n 0) (sym is) ∙ same_read its_dependents k dependent within at
    ] where
      same_read : (xs : List ℕ) (i x : ℕ) → i < length xs → get_or xs i x ≡ x → get_or xs i 0 ≡ x
      same_read [] i x short is = absurd (omega arith)
      same_read (y ∷ ys) zero x short is = is
      same_read (y ∷ ys) (suc i) x short is = same_read ys i x (omega arith) is

module _ (uses : ℕ → Bool) (its_dependents : List ℕ) (dependent : ℕ) (low : (other : ℕ) → uses other ≡ true → other ≤ dependent) (are : AreDependents uses its_dependents) where
  low_in_list : (other : ℕ) → is_among other its_dependents ≡ true → other ≤ dependent
  low_in_list other among = low other (sym (are.each other) ∙ among)

  -- it is there already
  pub once_there : 0 < length its_dependents → get_or its_dependents (length its_dependents - 1) 0 ≡ dependent → AreDependents (λ other. uses other || other == dependent) its_dependents
  once_there some last =
      let here : uses dependent ≡ true = sym (are.each dependent) ∙ contains_among dependent its_dependents (subst (Contains its_dependents) last (Contains-get_or its_dependents (length its_dependents - 1) 0 (omega arith))) in
      record {
        ascending = are.ascending;
        each = λ other. are.each other ∙ same_tests (uses other) (uses other || other == dependent)
            (λ yet. or_left (uses other) (other == dependent) yet)
            (λ either. elim (or_cases (uses other) (other == dependent) either) [ inl yet ↦ yet | inr same ↦ ap uses (eqb-true other dependent same) ∙ here ]);
      }

  -- it comes last
  pub once_more : ((0 < length its_dependents) → get_or its_dependents (length its_dependents - 1) 0 ≡ dependent → ⊥) → AreDependents (λ other. uses other || other == dependent) (its_dependents ++ dependent ∷ [])
  once_more new = record {
    ascending = ascends_push (λ x y. x < y) its_dependents dependent are.ascending (λ other among. elim (cases_lt other dependent) [
      | inl below ↦ below
      | inr above ↦
          let top : other ≤ dependent = low_in_list other among in
          let same : other ≡ dependent = omega arith in
          let here : is_among dependent its_dependents ≡ true = subst (λ x. is_among x its_dependents ≡ true) same among in
          let (k, within, at) = among_contains dependent its_dependents here in
          absurd (new (omega arith) (last_is its_dependents dependent are.ascending low_in_list here))
    ]);
    each = λ other. among_append other its_dependents (dependent ∷ []) ∙ ap (λ b. b || ((other == dependent) || false)) (are.each other) ∙ ap (λ b. uses other || b) (or_false (other == dependent));
  }

-- ---- one list set

-- the list of one place is set, and the others stay
pub set_dependents : (uses others : ℕ → ℕ → Bool) (count : ℕ) (lists : List (List ℕ)) (feed : ℕ) (list : List ℕ) → feed < count → AreDependentLists uses count lists → AreDependents (others feed) list
    → ((place dependent : ℕ) → place ≢ feed → uses place dependent ≡ others place dependent) → AreDependentLists others count (set lists feed list)
set_dependents uses others count lists feed list within are new same = record {
  long = length-set lists feed list ∙ are.long;
  its_dependents = λ place inside. elim (cases_eq place feed) [
    | inl here ↦ subst (λ x. AreDependents (others x) (get_or (set lists feed list) x [])) (sym here)
        (subst (AreDependents (others feed)) (sym (get_or-set_same lists feed list [] (let long = are.long in omega arith))) new)
    | inr apart ↦ subst (AreDependents (others place)) (sym (get_or-set_other lists feed place list [] apart))
        (same_dependents (uses place) (others place) (get_or lists place []) (λ dependent. same place dependent apart) (are.its_dependents place inside))
  ];
}

-- ---- the lists of vectors

pub listed_at : (vectors : List (Vec ℕ Global)) (place : ℕ) (vector : Vec ℕ Global) → place < length vectors → vector ≡ get_or vectors place vector → get_or (listed vectors) place [] ≡ vector.items
listed_at vectors place vector within is =
    get_or-map (λ (v : Vec ℕ Global). v.items) vectors place vector [] within ∙ ap (λ (v : Vec ℕ Global). v.items) (sym is)

pub listed_set : (vectors : List (Vec ℕ Global)) (place : ℕ) (vector : Vec ℕ Global) → listed (set vectors place vector) ≡ set (listed vectors) place vector.items
listed_set vectors place vector = map-set (λ (v : Vec ℕ Global). v.items) vectors place vector

-- ---- one dependent added to one list

module _ (uses : ℕ → ℕ → Bool) (dependent : ℕ) (low : (place other : ℕ) → uses place other ≡ true → other ≤ dependent) where
  pub with_feeds_low : (feeds : List ℕ) (place other : ℕ) → with_feeds uses dependent feeds place other ≡ true → other ≤ dependent
  with_feeds_low feeds place other holds = elim (or_cases (uses place other) (other == dependent && is_among place feeds) holds) [
    | inl yet ↦ low place other yet
    | inr now ↦ let same : other ≡ dependent = eqb-true other dependent (and_parts (other == dependent) (is_among place feeds) now).0 in omega arith
  ]

  pub feed_added : (feeds : List ℕ) (i count : ℕ) (vectors : List (Vec ℕ Global)) (was now : Vec ℕ Global) → i < length feeds → get_or feeds i 0 < length vectors → was ≡ get_or vectors (get_or feeds i 0) was
      → AreDependentLists (with_feeds uses dependent (take i feeds)) count (listed vectors)
      → ((test : ℕ → Bool) → ((other : ℕ) → test other ≡ true → other ≤ dependent) → AreDependents test was.items → AreDependents (λ other. test other || other == dependent) now.items)
      → AreDependentLists (with_feeds uses dependent (take (i + 1) feeds)) count (listed (set vectors (get_or feeds i 0) now))
  feed_added feeds i count vectors was now short here read are once =
      let feed = get_or feeds i 0 in
      let within : feed < count = omega (arith, are.long, length-map vectors (λ (v : Vec ℕ Global). v.items)) in
      let before : AreDependents (with_feeds uses dependent (take i feeds) feed) was.items = subst (AreDependents (with_feeds uses dependent (take i feeds) feed)) (listed_at vectors feed was here read) (are.its_dependents feed within) in
      let after = once (with_feeds uses dependent (take i feeds) feed) (with_feeds_low (take i feeds) feed) before in
      let more : (place : ℕ) → is_among place (take (i + 1) feeds) ≡ (is_among place (take i feeds) || (place == feed)) = λ place. among_more place i feeds short in
      subst (AreDependentLists (with_feeds uses dependent (take (i + 1) feeds)) count) (sym (listed_set vectors feed now))
      (set_dependents (with_feeds uses dependent (take i feeds)) (with_feeds uses dependent (take (i + 1) feeds)) count (listed vectors) feed now.items within are
      (same_dependents (λ other. with_feeds uses dependent (take i feeds) feed other || other == dependent) (with_feeds uses dependent (take (i + 1) feeds) feed) now.items
      (λ other. joined (uses feed other) (other == dependent) (is_among feed (take i feeds)) (is_among feed (take (i + 1) feeds)) (more feed ∙ or_right (is_among feed (take i feeds)) (feed == feed) (eq-eqb feed feed refl))) after)
      (λ place other apart. ap (λ b. uses place other || (other == dependent && b)) (sym (more place ∙ ap (λ b. is_among place (take i feeds) || b) (ne_eqb place feed apart) ∙ or_false (is_among place (take i feeds)))))) where
        joined : (a b c d : Bool) → d ≡ true → ((a || (b && c)) || b) ≡ (a || (b && d))
        joined true b c d is = refl
        joined false true true d is = sym is
        joined false true false d is = sym is
        joined false false c d is = refl

-- ---- one stage more

module _ (places : List (Option Stage)) where
  pub before_low : (end place other : ℕ) → uses_before places end place other ≡ true → other ≤ end
  before_low end place other holds = let below : other < end = ltb-true other end (and_parts (nat_lt other end) (uses_by_feeds places place other) holds).0 in omega arith

  -- the stages before the first have no dependents
  pub before_none : (count : ℕ) (lists : List (List ℕ)) → length lists ≡ count → ((place : ℕ) → get_or lists place [] ≡ []) → AreDependentLists (uses_before places 0) count lists
  before_none count lists long empty = record {
    long = long;
    its_dependents = λ place within. subst (AreDependents (uses_before places 0 place)) (sym (empty place)) (record { ascending = tt; each = λ dependent. sym (no_less dependent (uses_by_feeds places place dependent)) });
  } where
    no_less : (dependent : ℕ) (b : Bool) → (nat_lt dependent 0 && b) ≡ false
    no_less dependent b = false_unless (nat_lt dependent 0 && b) (λ holds. let below : dependent < 0 = ltb-true dependent 0 (and_parts (nat_lt dependent 0) b holds).0 in omega arith)

  -- the feeds of one stage, in two parts
  pub before_more : (end : ℕ) (sources inner : List ℕ) → feeds_at places end ≡ sources ++ inner → (place dependent : ℕ)
      → with_feeds (with_feeds (uses_before places end) end sources) end inner place dependent ≡ uses_before places (end + 1) place dependent
  before_more end sources inner feeds place dependent = same_tests (with_feeds (with_feeds (uses_before places end) end sources) end inner place dependent) (uses_before places (end + 1) place dependent)
      (λ holds. elim (or_cases (uses_before places end place dependent || (dependent == end && is_among place sources)) (dependent == end && is_among place inner) holds) [
        | inl first ↦ elim (or_cases (uses_before places end place dependent) (dependent == end && is_among place sources) first) [
          | inl before ↦
              let (below, has) = and_parts (nat_lt dependent end) (uses_by_feeds places place dependent) before in
              let less : dependent < end = ltb-true dependent end below in
              and_from (nat_lt dependent (end + 1)) (uses_by_feeds places place dependent) (lt-ltb dependent (end + 1) (omega arith)) has
          | inr source ↦ let (at, has) = and_parts (dependent == end) (is_among place sources) source in here (eqb-true dependent end at) (among_append_left place sources inner has)
        ]
        | inr last ↦ let (at, has) = and_parts (dependent == end) (is_among place inner) last in here (eqb-true dependent end at) (among_append_right place sources inner has)
      ])
      (λ holds.
      let (below, has) = and_parts (nat_lt dependent (end + 1)) (uses_by_feeds places place dependent) holds in
      let less : dependent < end + 1 = ltb-true dependent (end + 1) below in
      elim (cases_lt dependent end) [
        | inl before ↦ or_left (uses_before places end place dependent || (dependent == end && is_among place sources)) (dependent == end && is_among place inner)
            (or_left (uses_before places end place dependent) (dependent == end && is_among place sources) (and_from (nat_lt dependent end) (uses_by_feeds places place dependent) (lt-ltb dependent end before) has))
        | inr past ↦
            let at : dependent ≡ end = omega arith in
            let has_end : is_among place (sources ++ inner) ≡ true = ap (is_among place) (sym feeds) ∙ ap (uses_by_feeds places place) (sym at) ∙ has in
            elim (among_append_cases place sources inner has_end) [
              | inl source ↦ or_left (uses_before places end place dependent || (dependent == end && is_among place sources)) (dependent == end && is_among place inner)
                  (or_right (uses_before places end place dependent) (dependent == end && is_among place sources) (and_from (dependent == end) (is_among place sources) (eq-eqb dependent end at) source))
              | inr last ↦ or_right (uses_before places end place dependent || (dependent == end && is_among place sources)) (dependent == end && is_among place inner)
                  (and_from (dependent == end) (is_among place inner) (eq-eqb dependent end at) last)
            ]
      ]) where
        here : dependent ≡ end → is_among place (sources ++ inner) ≡ true → uses_before places (end + 1) place dependent ≡ true
        here at has = and_from (nat_lt dependent (end + 1)) (uses_by_feeds places place dependent) (lt-ltb dependent (end + 1) (omega arith))
            (ap (uses_by_feeds places place) at ∙ ap (is_among place) feeds ∙ has)

  -- an empty place depends on nothing
  pub before_empty : (end : ℕ) → feeds_at places end ≡ [] → (place dependent : ℕ) → uses_before places end place dependent ≡ uses_before places (end + 1) place dependent
  before_empty end none place dependent = same_tests (uses_before places end place dependent) (uses_before places (end + 1) place dependent)
      (λ holds.
      let (below, has) = and_parts (nat_lt dependent end) (uses_by_feeds places place dependent) holds in
      let less : dependent < end = ltb-true dependent end below in
      and_from (nat_lt dependent (end + 1)) (uses_by_feeds places place dependent) (lt-ltb dependent (end + 1) (omega arith)) has)
      (λ holds.
      let (below, has) = and_parts (nat_lt dependent (end + 1)) (uses_by_feeds places place dependent) holds in
      let less : dependent < end + 1 = ltb-true dependent (end + 1) below in
      elim (cases_lt dependent end) [
        | inl before ↦ and_from (nat_lt dependent end) (uses_by_feeds places place dependent) (lt-ltb dependent end before) has
        | inr past ↦ let at : dependent ≡ end = omega arith in absurd (false≢true (ap (is_among place) (sym none) ∙ ap (uses_by_feeds places place) (sym at) ∙ has))
      ])

  -- all stages
  pub before_all : (end : ℕ) → length places ≤ end → (place dependent : ℕ) → uses_before places end place dependent ≡ uses_by_feeds places place dependent
  before_all end past place dependent = same_tests (uses_before places end place dependent) (uses_by_feeds places place dependent)
      (λ holds. (and_parts (nat_lt dependent end) (uses_by_feeds places place dependent) holds).1)
      (λ has. and_from (nat_lt dependent end) (uses_by_feeds places place dependent) (lt-ltb dependent end (let within = dependent_within places dependent place has in omega arith)) has)

  -- these lists are the dependents
  pub dependents_from_lists : (lists : List (List ℕ)) → AreDependentLists (uses_by_feeds places) (length places) lists → lists ≡ map (dependents places) (all_places places)
  dependents_from_lists lists are =
      fill_by_all (dependents places) lists (length places) [] are.long
      (λ place within. let its_dependents = are.its_dependents place within in dependents_are places place (get_or lists place []) its_dependents.ascending its_dependents.each)

  pub lists_from_dependents : (lists : List (List ℕ)) → lists ≡ map (dependents places) (all_places places) → AreDependentLists (uses_by_feeds places) (length places) lists
  lists_from_dependents lists is = record {
    long = ap length is ∙ length-map-range_with_len (dependents places) 0 (length places);
    its_dependents = λ place within. subst (AreDependents (uses_by_feeds places place)) (sym (ap (λ (xs : List (List ℕ)). get_or xs place []) is ∙ dependents_listed places place within))
        (record { ascending = dependents_ascend places place; each = λ dependent. among_dependents places place dependent });
  }

  -- live feeds are places
  pub sources_within : (sources inner : List ℕ) → All (IsLive places) (sources ++ inner) → All (λ feed. feed < length places) sources
  sources_within sources inner live k d short =
      place_from_live places (get_or sources k d) (All-contains (IsLive places) (sources ++ inner) (get_or sources k d) live (Contains-append_left sources inner (get_or sources k d) (Contains-get_or sources k d short)))

  pub inner_within : (sources inner : List ℕ) → All (IsLive places) (sources ++ inner) → All (λ feed. feed < length places) inner
  inner_within sources inner live k d short =
      place_from_live places (get_or inner k d) (All-contains (IsLive places) (sources ++ inner) (get_or inner k d) live (Contains-append_right sources inner (get_or inner k d) (Contains-get_or inner k d short)))

  -- the lists of the vectors before another one are fewer than a graph has places
  pub listed_short : (vectors yielded : List (Vec ℕ Global)) (next : Vec ℕ Global) (rest : List (Vec ℕ Global)) → vectors ≡ yielded ++ next ∷ rest
      → AreDependentLists (uses_by_feeds places) (length places) (listed vectors) → length places ≤ 65536
      → (lists : List (List ℕ)) → lists ≡ listed yielded → length lists < 65536
  listed_short vectors yielded next rest split are few lists is =
      omega (arith, ap length is, are.long, ap length split, length-append yielded (next ∷ rest), length-map vectors (λ (v : Vec ℕ Global). v.items), length-map yielded (λ (v : Vec ℕ Global). v.items))

  pub listed_all : (vectors yielded rest : List (Vec ℕ Global)) → vectors ≡ yielded ++ rest → length rest ≡ 0 → AreDependentLists (uses_by_feeds places) (length places) (listed vectors)
      → (lists : List (List ℕ)) → lists ≡ listed yielded → lists ≡ map (dependents places) (all_places places)
  listed_all vectors yielded [] split none are lists is =
      dependents_from_lists lists (subst (AreDependentLists (uses_by_feeds places) (length places)) (ap listed (split ∙ append-nil yielded) ∙ sym is) are)
  listed_all vectors yielded (next ∷ rest) split none are lists is = absurd (omega arith)
