-- Lists of dependents under a change, one moved place and one feed at a time.
use Rattle.std.proofs.Common.{◌≡◌, ℕ, ◌+◌, ◌<◌, ◌≤◌, Bool, true, false, List, [], ◌∷◌, ◌++◌, length, map, take, get_or, set, refl, ap, sym, ◌∙◌, subst, inl, inr, arith}
use Rattle.std.specs.Prelude.{Option, filter, nat_lt, ◌||◌, ◌&&◌, ◌==◌, if◌then◌else◌}
use Rattle.std.proofs.lemmas.Bool.{cases_eq, cases_lt, cond-true, cond-false, true≢false, false≢true, eq-eqb, ne_eqb, ltb-true, lt-ltb, or_right}
use Rattle.std.proofs.lemmas.List.{get_or_past, take_all}
use Rattle.stage_graph.specs.declared.stage.Stage.{Stage}
use Rattle.stage_graph.specs.Plain.{feeds_at, all_places, dependents}
use Rattle.rank_order.specs.Lists.{is_among, IsAscending}
use Rattle.rank_order.specs.DependentLists.{AreDependents, AreDependentLists, uses_by_feeds, with_dependent, moving, with_moved, uses_between}
use Rattle.rank_order.proofs.Members.{same_tests, false_unless, among_cases, among_here, among_append_cases, among_append_left, among_append_right, among_more, among_filter, filter_among, ascends_append, ascends_filter}
use Rattle.rank_order.proofs.DependentSteps.{same_lists, same_dependents, set_dependents, dependents_from_lists, lists_from_dependents}

-- ---- one list

wanted_cases : (wanted : Bool) (place dependent : ℕ) → is_among dependent (if wanted then place ∷ [] else []) ≡ true → (wanted ≡ true) × (dependent ≡ place)
wanted_cases true place dependent among = (refl, elim (among_cases dependent place [] among) [ inl same ↦ same | inr none ↦ absurd (false≢true none) ])
wanted_cases false place dependent among = absurd (false≢true among)

wanted_here : (wanted : Bool) (place : ℕ) → wanted ≡ true → is_among place (if wanted then place ∷ [] else []) ≡ true
wanted_here true place is = among_here place []
wanted_here false place is = absurd (false≢true is)

wanted_ascends : (wanted : Bool) (place : ℕ) → IsAscending (if wanted then place ∷ [] else [])
wanted_ascends true place = ((λ other none. absurd (false≢true none)), tt)
wanted_ascends false place = tt

module _ (test : ℕ → Bool) (place : ℕ) (is_dependent : Bool) (its_dependents : List ℕ) (are : AreDependents test its_dependents) where
  low : List ℕ
  low = filter (λ dependent. nat_lt dependent place) its_dependents

  high : List ℕ
  high = filter (λ dependent. nat_lt place dependent) its_dependents

  here : List ℕ
  here = if is_dependent then place ∷ [] else []

  low_below : (dependent : ℕ) → is_among dependent low ≡ true → dependent < place
  unfolding low
  low_below dependent among = ltb-true dependent place (among_filter (λ other. nat_lt other place) dependent its_dependents among).1

  high_above : (dependent : ℕ) → is_among dependent high ≡ true → place < dependent
  unfolding high
  high_above dependent among = ltb-true place dependent (among_filter (λ other. nat_lt place other) dependent its_dependents among).1

  here_is : (dependent : ℕ) → is_among dependent here ≡ true → (is_dependent ≡ true) × (dependent ≡ place)
  unfolding here
  here_is dependent among = wanted_cases is_dependent place dependent among

  ascending : IsAscending ((low ++ here) ++ high)
  unfolding low here high
  ascending =
      ascends_append (λ x y. x < y) (low ++ here) high
      (ascends_append (λ x y. x < y) low here (ascends_filter (λ x y. x < y) (λ dependent. nat_lt dependent place) its_dependents are.ascending) (wanted_ascends is_dependent place)
      (λ a b front back. let below = low_below a front in let (told, same) = here_is b back in omega arith))
      (ascends_filter (λ x y. x < y) (λ dependent. nat_lt place dependent) its_dependents are.ascending)
      (λ a b front back.
      let above = high_above b back in
      elim (among_append_cases a low here front) [
        | inl first ↦ let below = low_below a first in omega arith
        | inr second ↦ let (told, same) = here_is a second in omega arith
      ])

  there : (dependent : ℕ) → is_among dependent ((low ++ here) ++ high) ≡ true → (if dependent == place then is_dependent else test dependent) ≡ true
  unfolding low here high
  there dependent among = elim (among_append_cases dependent (low ++ here) high among) [
    | inl front ↦ elim (among_append_cases dependent low here front) [
      | inl first ↦
          let below = low_below dependent first in
          cond-false (dependent == place) is_dependent (test dependent) (ne_eqb dependent place (λ e. omega arith)) ∙ sym (are.each dependent) ∙ (among_filter (λ other. nat_lt other place) dependent its_dependents first).0
      | inr second ↦ let (told, same) = here_is dependent second in cond-true (dependent == place) is_dependent (test dependent) (eq-eqb dependent place same) ∙ told
    ]
    | inr last ↦
        let above = high_above dependent last in
        cond-false (dependent == place) is_dependent (test dependent) (ne_eqb dependent place (λ e. omega arith)) ∙ sym (are.each dependent) ∙ (among_filter (λ other. nat_lt place other) dependent its_dependents last).0
  ]

  back : (dependent : ℕ) → (if dependent == place then is_dependent else test dependent) ≡ true → is_among dependent ((low ++ here) ++ high) ≡ true
  unfolding low here high
  back dependent holds = elim (cases_eq dependent place) [
    | inl same ↦
        let told : is_dependent ≡ true = sym (cond-true (dependent == place) is_dependent (test dependent) (eq-eqb dependent place same)) ∙ holds in
        among_append_left dependent (low ++ here) high (among_append_right dependent low here (subst (λ x. is_among x here ≡ true) (sym same) (wanted_here is_dependent place told)))
    | inr apart ↦
        let was : is_among dependent its_dependents ≡ true = are.each dependent ∙ sym (cond-false (dependent == place) is_dependent (test dependent) (ne_eqb dependent place apart)) ∙ holds in
        elim (cases_lt dependent place) [
          | inl below ↦ among_append_left dependent (low ++ here) high (among_append_left dependent low here (filter_among (λ other. nat_lt other place) dependent its_dependents was (lt-ltb dependent place below)))
          | inr above ↦ among_append_right dependent (low ++ here) high (filter_among (λ other. nat_lt place other) dependent its_dependents was (lt-ltb place dependent (omega arith)))
        ]
  ]

  -- the dependents, with the place among them or without it
  pub dependents_with : AreDependents (λ dependent. if dependent == place then is_dependent else test dependent) (with_dependent place is_dependent its_dependents)
  unfolding low here high
  dependents_with = record { ascending = ascending; each = λ dependent. same_tests (is_among dependent ((low ++ here) ++ high)) (if dependent == place then is_dependent else test dependent) (there dependent) (back dependent) }

-- ---- one place that moves

module _ (uses : ℕ → ℕ → Bool) (moved : ℕ) (feeds : List ℕ) where
  pub moving_none : (count : ℕ) (lists : List (List ℕ)) → AreDependentLists uses count lists → AreDependentLists (moving uses moved feeds []) count lists
  moving_none count lists are = same_lists uses (moving uses moved feeds []) count lists (λ place dependent. by_case place dependent (dependent == moved)) are where
    by_case : (place dependent : ℕ) (b : Bool) → uses place dependent ≡ (if b && false then is_among place feeds else uses place dependent)
    by_case place dependent true = refl
    by_case place dependent false = refl

  -- one more list is set
  pub moving_more : (done : List ℕ) (i count : ℕ) (lists : List (List ℕ)) → i < length done → get_or done i 0 < count → AreDependentLists (moving uses moved feeds (take i done)) count lists
      → AreDependentLists (moving uses moved feeds (take (i + 1) done)) count (set lists (get_or done i 0) (with_dependent moved (is_among (get_or done i 0) feeds) (get_or lists (get_or done i 0) [])))
  moving_more done i count lists short within are =
      let feed = get_or done i 0 in
      let more : (place : ℕ) → is_among place (take (i + 1) done) ≡ (is_among place (take i done) || (place == feed)) = λ place. among_more place i done short in
      set_dependents (moving uses moved feeds (take i done)) (moving uses moved feeds (take (i + 1) done)) count lists feed
      (with_dependent moved (is_among feed feeds) (get_or lists feed [])) within are
      (same_dependents (λ dependent. if dependent == moved then is_among feed feeds else moving uses moved feeds (take i done) feed dependent) (moving uses moved feeds (take (i + 1) done) feed)
      (with_dependent moved (is_among feed feeds) (get_or lists feed []))
      (λ dependent. now (dependent == moved) (is_among feed (take i done)) (is_among feed (take (i + 1) done)) (is_among feed feeds) (uses feed dependent) (more feed ∙ or_right (is_among feed (take i done)) (feed == feed) (eq-eqb feed feed refl)))
      (dependents_with (moving uses moved feeds (take i done) feed) moved (is_among feed feeds) (get_or lists feed []) (are.its_dependents feed within)))
      (λ place dependent apart. ap (λ b. if dependent == moved && b then is_among place feeds else uses place dependent) (sym (more place ∙ ap (λ b. is_among place (take i done) || b) (ne_eqb place feed apart) ∙ or_none (is_among place (take i done))))) where
        or_none : (b : Bool) → (b || false) ≡ b
        or_none true = refl
        or_none false = refl

        now : (here was is told used : Bool) → is ≡ true → (if here then told else (if here && was then told else used)) ≡ (if here && is then told else used)
        now true was true told used all = refl
        now true was false told used all = absurd (false≢true all)
        now false was is told used all = refl

  -- all lists are set in which the place may be
  pub moving_all : (done : List ℕ) (i count : ℕ) (lists : List (List ℕ)) → length done ≤ i → ((place : ℕ) → uses place moved ≡ true → is_among place done ≡ true) → ((place : ℕ) → is_among place feeds ≡ true → is_among place done ≡ true)
      → AreDependentLists (moving uses moved feeds (take i done)) count lists → AreDependentLists (with_moved uses moved feeds) count lists
  moving_all done i count lists past old new are =
      same_lists (moving uses moved feeds done) (with_moved uses moved feeds) count lists (λ place dependent. elim (cases_eq dependent moved) [
        | inl same ↦ subst (λ x. moving uses moved feeds done place x ≡ with_moved uses moved feeds place x) (sym same) (at_moved place (moved == moved) (is_among place done) refl)
        | inr apart ↦ elsewhere place dependent (ne_eqb dependent moved apart)
      ]) (subst (λ xs. AreDependentLists (moving uses moved feeds xs) count lists) (take_all i done past) are) where
        elsewhere : (place dependent : ℕ) → (dependent == moved) ≡ false → moving uses moved feeds done place dependent ≡ with_moved uses moved feeds place dependent
        elsewhere place dependent apart = ap (λ b. if b && is_among place done then is_among place feeds else uses place dependent) apart ∙ sym (ap (λ b. if b then is_among place feeds else uses place dependent) apart)

        at_moved : (place : ℕ) (here b : Bool) → is_among place done ≡ b → (if here && b then is_among place feeds else uses place moved) ≡ (if here then is_among place feeds else uses place moved)
        at_moved place true true is = refl
        at_moved place true false is =
            false_unless (uses place moved) (λ h. true≢false (sym (old place h) ∙ is)) ∙ sym (false_unless (is_among place feeds) (λ h. true≢false (sym (new place h) ∙ is)))
        at_moved place false b is = refl

-- ---- all places that move

module _ (old new : List (Option Stage)) where
  between_none : (place dependent : ℕ) → uses_by_feeds old place dependent ≡ uses_between old new [] place dependent
  between_none place dependent = refl

  -- the lists from before, extended to the new length
  pub grown_lists : (lists longer : List (List ℕ)) → ((feed dependent : ℕ) → is_among feed (feeds_at old dependent) ≡ true → feed < length old) → length old ≤ length new
      → lists ≡ map (dependents old) (all_places old) → length longer ≡ length new → ((place : ℕ) → get_or longer place [] ≡ get_or lists place []) → AreDependentLists (uses_between old new []) (length new) longer
  grown_lists lists longer within more are long each = record {
    long = long;
    its_dependents = λ place inside. elim (cases_lt place (length old)) [
      | inl before ↦ subst (AreDependents (uses_by_feeds old place)) (sym (each place)) ((lists_from_dependents old lists are).its_dependents place before)
      | inr past ↦
          let size : length lists ≡ length old = (lists_from_dependents old lists are).long in
          subst (AreDependents (uses_by_feeds old place)) (sym (each place ∙ get_or_past lists place [] (omega arith)))
          (record {
            ascending = tt;
            each = λ dependent. sym (false_unless (uses_by_feeds old place dependent) (λ has. let low : place < length old = within place dependent has in omega arith));
          })
    ];
  }

  -- one more place has moved
  pub between_more : (moved : List ℕ) (i : ℕ) → i < length moved → (place dependent : ℕ)
      → with_moved (uses_between old new (take i moved)) (get_or moved i 0) (feeds_at new (get_or moved i 0)) place dependent ≡ uses_between old new (take (i + 1) moved) place dependent
  between_more moved i short place dependent = elim (cases_eq dependent (get_or moved i 0)) [
    | inl same ↦
        cond-true (dependent == get_or moved i 0) (is_among place (feeds_at new (get_or moved i 0))) (uses_between old new (take i moved) place dependent) (eq-eqb dependent (get_or moved i 0) same)
        ∙ ap (λ x. is_among place (feeds_at new x)) (sym same)
        ∙ sym (ap (is_among place) (cond-true (is_among dependent (take (i + 1) moved)) (feeds_at new dependent) (feeds_at old dependent)
        (among_more dependent i moved short ∙ or_right (is_among dependent (take i moved)) (dependent == get_or moved i 0) (eq-eqb dependent (get_or moved i 0) same))))
    | inr apart ↦
        cond-false (dependent == get_or moved i 0) (is_among place (feeds_at new (get_or moved i 0))) (uses_between old new (take i moved) place dependent) (ne_eqb dependent (get_or moved i 0) apart)
        ∙ ap (λ b. is_among place (if b then feeds_at new dependent else feeds_at old dependent))
        (sym (among_more dependent i moved short ∙ ap (λ b. is_among dependent (take i moved) || b) (ne_eqb dependent (get_or moved i 0) apart) ∙ or_none (is_among dependent (take i moved))))
  ] where
    or_none : (b : Bool) → (b || false) ≡ b
    or_none true = refl
    or_none false = refl

  -- the next place depends on its old feeds, or on its new ones
  pub between_feeds : (done : List ℕ) (moved feed : ℕ) → uses_between old new done feed moved ≡ true → is_among feed (feeds_at old moved ++ feeds_at new moved) ≡ true
  between_feeds done moved feed holds = by_case (is_among moved done) holds where
    by_case : (b : Bool) → is_among feed (if b then feeds_at new moved else feeds_at old moved) ≡ true → is_among feed (feeds_at old moved ++ feeds_at new moved) ≡ true
    by_case true has = among_append_right feed (feeds_at old moved) (feeds_at new moved) has
    by_case false has = among_append_left feed (feeds_at old moved) (feeds_at new moved) has

  -- all have moved, and nothing else has
  pub between_all : (moved : List ℕ) (i : ℕ) (lists : List (List ℕ)) → length moved ≤ i → ((place : ℕ) → is_among place moved ≡ false → feeds_at new place ≡ feeds_at old place)
      → AreDependentLists (uses_between old new (take i moved)) (length new) lists → lists ≡ map (dependents new) (all_places new)
  between_all moved i lists past elsewhere are =
      dependents_from_lists new lists (same_lists (uses_between old new moved) (uses_by_feeds new) (length new) lists (λ place dependent. by_case place dependent (is_among dependent moved) refl)
      (subst (λ xs. AreDependentLists (uses_between old new xs) (length new) lists) (take_all i moved past) are)) where
        by_case : (place dependent : ℕ) (b : Bool) → is_among dependent moved ≡ b → is_among place (if is_among dependent moved then feeds_at new dependent else feeds_at old dependent) ≡ uses_by_feeds new place dependent
        by_case place dependent true is = ap (is_among place) (cond-true (is_among dependent moved) (feeds_at new dependent) (feeds_at old dependent) is)
        by_case place dependent false is = ap (is_among place) (cond-false (is_among dependent moved) (feeds_at new dependent) (feeds_at old dependent) is ∙ sym (elsewhere dependent is))
