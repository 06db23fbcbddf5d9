-- From spans up to their ancestors.
use Rattle.std.proofs.Common.{◌≡◌, ℕ, suc, zero, ◌+◌, ◌<◌, ◌≤◌, inl, inr, List, [], ◌∷◌, ◌++◌, Bool, true, false, cond, length, Option, Some, None, refl, sym, ap, ◌∙◌, subst, arith}
use Rattle.std.specs.Prelude.{◌⊎◌, ◌==◌, ◌&&◌, ◌||◌, nat_eq, nat_lt, slice_get}
use Rattle.std.specs.List.{AllByRecursion, IsDistinct, list_any, range_with_len}
use Rattle.std.specs.Option.{option_eq, option_map}
use Rattle.std.proofs.lemmas.Bool.{false≢true}
use Rattle.std.proofs.lemmas.Bool.Decides.{nat_tests}
use Rattle.std.proofs.lemmas.Map.Steps.{length-le_from_distinct_below}
use Rattle.std.proofs.lemmas.Option.{none-some, same_Some, slice_get-map}
use Rattle.trace_relations.specs.declared.moment.Interval.{Interval}
use Rattle.trace_relations.specs.Ancestry.{comes_first, first_among, first_with, is_first_of_circle, known, line, parent_at, parent_without_circles, start_at, without_circles, most_spans}
use Rattle.trace_laws.proofs.Each.{In}

-- so many parents up
abbrev pub Climbs : List (Option ℕ) → ℕ → ℕ → ℕ → Type 0
Climbs parents zero place other = place ≡ other
Climbs parents (suc n) place other = (parent : ℕ) × (parent_at parents place ≡ Some parent) × Climbs parents n parent other

pub climbs-push : (parents : List (Option ℕ)) (n place other parent : ℕ) → Climbs parents n place other → parent_at parents other ≡ Some parent → Climbs parents (suc n) place parent
climbs-push parents zero place other parent same next = (parent, ap (parent_at parents) same ∙ next, refl)
climbs-push parents (suc n) place other parent (first, is, rest) next = (first, is, climbs-push parents n first other parent rest next)

-- what is reached in some steps is in the line
in_line : (parents : List (Option ℕ)) (k n place other : ℕ) → k < n → Climbs parents k place other → In (line parents n (Some place)) other
unfolding line
in_line parents k zero place other lt climbs = absurd (omega arith)
in_line parents zero (suc n) place other lt same = inl same
in_line parents (suc k) (suc n) place other lt (parent, is, rest) =
    inr (subst (λ first. In (line parents n first) other) (sym is) (in_line parents k n parent other (omega arith) rest))

no_line_in : (parents : List (Option ℕ)) (n other : ℕ) → In (line parents n None) other → ⊥
unfolding line
no_line_in parents zero other here = here
no_line_in parents (suc n) other here = here

further : (parents : List (Option ℕ)) (n other place : ℕ) → ((parent : ℕ) → In (line parents n (Some parent)) other → (k : ℕ) × (k < n) × Climbs parents k parent other)
    → (parent : Option ℕ) → parent_at parents place ≡ parent → In (line parents n parent) other → (k : ℕ) × (k < suc n) × Climbs parents k place other
further parents n other place again None is here = absurd (no_line_in parents n other here)
further parents n other place again (Some parent) is here = let below = again parent here in (suc below.0, omega (arith, below.1), (parent, is, below.2))

-- and what is in the line is reached
reached : (parents : List (Option ℕ)) (n other place : ℕ) → In (line parents n (Some place)) other → (k : ℕ) × (k < n) × Climbs parents k place other
unfolding line
reached parents zero other place here = absurd here
reached parents (suc n) other place (inl same) = (0, omega arith, same)
reached parents (suc n) other place (inr later) = further parents n other place (λ parent here. reached parents n other parent here) (parent_at parents place) refl later

-- ---- lists

abbrev rest_of : List ℕ → List ℕ
rest_of [] = []
rest_of (x ∷ xs) = xs

abbrev first_or : ℕ → List ℕ → ℕ
first_or d [] = d
first_or d (x ∷ xs) = x

no_first : (x : ℕ) (xs : List ℕ) → [] ≡ x ∷ xs → ⊥
no_first x xs e = cc

-- ---- the first among spans

is_first-irreflexive : (a x : ℕ) → (nat_lt a a || (a == a && nat_lt x x)) ≡ false
is_first-irreflexive a x = grind (arith, nat_tests)

is_first-asymmetric : (a b x y : ℕ) → (nat_lt a b || (a == b && nat_lt x y)) ≡ true → (nat_lt b a || (b == a && nat_lt y x)) ≡ false
is_first-asymmetric a b x y h = grind (arith, nat_tests)

not_first-trans : (a b c x y z : ℕ) → (nat_lt a b || (a == b && nat_lt x y)) ≡ false → (nat_lt b c || (b == c && nat_lt y z)) ≡ false → (nat_lt a c || (a == c && nat_lt x z)) ≡ false
not_first-trans a b c x y z h k = grind (arith, nat_tests)

none_among : (intervals : List Interval) (places : List ℕ) → first_among intervals places ≡ None → (z : ℕ) → In places z → ⊥
none_among intervals [] none z here = here
none_among intervals (x ∷ xs) none z here = none-some _ (sym none)

abbrev IsFirst : List Interval → List ℕ → ℕ → Type 0
IsFirst intervals places y = In places y × ((z : ℕ) → In places z → comes_first intervals z y ≡ false)

first_step : (intervals : List Interval) (x w : ℕ) (xs : List ℕ) (b : Bool) → comes_first intervals w x ≡ b → IsFirst intervals xs w → IsFirst intervals (x ∷ xs) (cond b w x)
first_step intervals x w xs true is (here, least) = (
  inr here,
  λ z at. elim at [
    | inl same ↦ subst (λ y. comes_first intervals y w ≡ false) same (is_first-asymmetric (start_at intervals w) (start_at intervals x) w x is)
    | inr later ↦ least z later
  ],
)
first_step intervals x w xs false is (here, least) = (
  inl refl,
  λ z at. elim at [
    | inl same ↦ subst (λ y. comes_first intervals y x ≡ false) same (is_first-irreflexive (start_at intervals x) x)
    | inr later ↦ not_first-trans (start_at intervals z) (start_at intervals w) (start_at intervals x) z w x (least z later) is
  ],
)

first_of_rest : (intervals : List Interval) (x : ℕ) (xs : List ℕ) (rest : Option ℕ) → first_among intervals xs ≡ rest → ((w : ℕ) → first_among intervals xs ≡ Some w → IsFirst intervals xs w)
    → IsFirst intervals (x ∷ xs) (first_with intervals x rest)
first_of_rest intervals x xs None is again = (
  inl refl,
  λ z at. elim at [
    | inl same ↦ subst (λ y. comes_first intervals y x ≡ false) same (is_first-irreflexive (start_at intervals x) x)
    | inr later ↦ absurd (none_among intervals xs is z later)
  ],
)
first_of_rest intervals x xs (Some w) is again = first_step intervals x w xs (comes_first intervals w x) refl (again w is)

first_is : (intervals : List Interval) (places : List ℕ) (y : ℕ) → first_among intervals places ≡ Some y → IsFirst intervals places y
first_is intervals [] y is = absurd (none-some y is)
first_is intervals (x ∷ xs) y is =
    subst (IsFirst intervals (x ∷ xs)) (same_Some (first_with intervals x (first_among intervals xs)) y is)
    (first_of_rest intervals x xs (first_among intervals xs) refl (λ w here. first_is intervals xs w here))

-- ---- no circle is left

range_at : (a n k x : ℕ) → slice_get (range_with_len a n) k ≡ Some x → x ≡ a + k
range_at a zero k x here = absurd (none-some x here)
range_at a (suc n) zero x here = let same : a ≡ x = same_Some a x here in omega arith
range_at a (suc n) (suc k) x here = let later : x ≡ (a + 1) + k = range_at (a + 1) n k x here in omega arith

kept_parent : (b : Bool) (parent : Option ℕ) (place : ℕ) → cond b None parent ≡ Some place → (b ≡ false) × (parent ≡ Some place)
kept_parent true parent place is = absurd (none-some place is)
kept_parent false parent place is = (refl, is)

known_some : (intervals : List Interval) (parents : List (Option ℕ)) (place : ℕ) (at : Option ℕ) (parent : ℕ)
    → ((k : ℕ) → at ≡ Some k → k ≡ place)
    → known (option_map (parent_without_circles intervals parents) at) ≡ Some parent → (is_first_of_circle intervals parents place ≡ false) × (parent_at parents place ≡ Some parent)
known_some intervals parents place None parent which is = absurd (none-some parent is)
known_some intervals parents place (Some k) parent which is =
    let same : k ≡ place = which k refl in
    let both = kept_parent (is_first_of_circle intervals parents k) (parent_at parents k) parent is in
    (subst (λ p. is_first_of_circle intervals parents p ≡ false) same both.0, subst (λ p. parent_at parents p ≡ Some parent) same both.1)

-- a parent that is left is a parent, and the span isn't the first of a circle
pub left_parent : (intervals : List Interval) (parents : List (Option ℕ)) (place parent : ℕ) → parent_at (without_circles intervals parents) place ≡ Some parent
    → (is_first_of_circle intervals parents place ≡ false) × (parent_at parents place ≡ Some parent)
left_parent intervals parents place parent is =
    known_some intervals parents place (slice_get (range_with_len 0 (length parents)) place) parent
    (λ k here. let at : k ≡ 0 + place = range_at 0 (length parents) place k here in omega arith)
    (ap known (sym (slice_get-map (parent_without_circles intervals parents) (range_with_len 0 (length parents)) place)) ∙ is)

any_or : (q x : ℕ) (xs : List ℕ) (b : Bool) → nat_eq q x ≡ b → (list_any (nat_eq q) xs ≡ true → In xs q) → (b || list_any (nat_eq q) xs) ≡ true → (x ≡ q) ⊎ In xs q
any_or q x xs true is again found = inl (let e : nat_eq q x ≡ true = is in grind (arith, nat_tests))
any_or q x xs false is again found = inr (again found)

pub any_in : (q : ℕ) (xs : List ℕ) → list_any (nat_eq q) xs ≡ true → In xs q
any_in q [] found = absurd (false≢true found)
any_in q (x ∷ xs) found = any_or q x xs (nat_eq q x) refl (any_in q xs) found

module _ (intervals : List Interval) (parents : List (Option ℕ)) where
  abbrev Left : List (Option ℕ)
  Left = without_circles intervals parents

  climbs_before : (n place other : ℕ) → Climbs Left n place other → Climbs parents n place other
  climbs_before zero place other same = same
  climbs_before (suc n) place other (parent, is, rest) = (parent, (left_parent intervals parents place parent is).1, climbs_before n parent other rest)

  -- on a loop all parents are left
  loop_on : (n place parent : ℕ) → Climbs Left (suc n) place place → parent_at parents place ≡ Some parent → (parent_at Left place ≡ Some parent) × Climbs Left (suc n) parent parent
  loop_on n place parent (next, is, rest) here =
      let same : next ≡ parent = same_Some next parent (sym (left_parent intervals parents place next is).1 ∙ here) in
      let left : parent_at Left place ≡ Some parent = is ∙ ap Some same in
      (left, climbs-push Left n parent place parent (subst (λ p. Climbs Left n p place) same rest) left)

  loop_along : (k n place other : ℕ) → Climbs Left (suc n) place place → Climbs parents k place other → Climbs Left (suc n) other other
  loop_along zero n place other loop same = subst (λ p. Climbs Left (suc n) p p) same loop
  loop_along (suc k) n place other loop (parent, is, rest) = loop_along k n parent other (loop_on n place parent loop is).1 rest

  not_itself : (first : Option ℕ) (place y : ℕ) → first ≡ Some y → option_eq nat_eq first (Some place) ≡ false → (y ≡ place) → ⊥
  not_itself None place y is differ same = none-some y is
  not_itself (Some first) place y is differ same = let here : first ≡ y = same_Some first y is in let e : first ≡ place = here ∙ same in absurd (grind (arith, nat_tests))

  before_or : (a b x y : ℕ) → (nat_lt a b || (a == b && nat_lt x y)) ≡ false → (x ≡ y → ⊥) → (nat_lt b a || (b == a && nat_lt y x)) ≡ true
  before_or a b x y h differ = grind (arith, nat_tests)

  -- on a loop there is always one that comes before
  loop_before : (n place : ℕ) → suc n ≤ most_spans → Climbs Left (suc n) place place → (y : ℕ) × (comes_first intervals y place ≡ true) × Climbs Left (suc n) y y
  loop_before n place le (parent, is, rest) =
      let both = left_parent intervals parents place parent is in
      let on_line : In (line parents most_spans (Some parent)) place = in_line parents n most_spans parent place (omega arith) (climbs_before n parent place rest) in
      found (first_among intervals (line parents most_spans (Some parent))) refl both on_line
    where
      found : (first : Option ℕ) → first_among intervals (line parents most_spans (Some parent)) ≡ first
          → (is_first_of_circle intervals parents place ≡ false) × (parent_at parents place ≡ Some parent) → In (line parents most_spans (Some parent)) place
          → (y : ℕ) × (comes_first intervals y place ≡ true) × Climbs Left (suc n) y y
      found None none both on_line = absurd (none_among intervals (line parents most_spans (Some parent)) none place on_line)
      found (Some y) some both on_line =
          let least = first_is intervals (line parents most_spans (Some parent)) y some in
          let climb = reached parents most_spans y parent least.0 in
          let loop : Climbs Left (suc n) y y = loop_along (suc climb.0) n place y (parent, is, rest) (parent, both.1, climb.2) in
          let same_line : first_among intervals (line parents most_spans (parent_at parents place)) ≡ Some y = ap (λ o. first_among intervals (line parents most_spans o)) both.1 ∙ some in
          let differ : (y ≡ place) → ⊥ = not_itself (first_among intervals (line parents most_spans (parent_at parents place))) place y same_line both.0 in
          (y, before_or (start_at intervals place) (start_at intervals y) place y (least.1 place on_line) (λ e. differ (sym e)), loop)

  is_earlier : (a b x y : ℕ) → (nat_lt a b || (a == b && nat_lt x y)) ≡ true → (a < b) ⊎ ((a ≡ b) × (x < y))
  is_earlier a b x y h = grind (arith, nat_tests)

  Loops : ℕ → ℕ → Type 0
  Loops n place = Climbs Left (suc n) place place

  -- no loop of spans that start at one tick, where none of those that start earlier has one
  no_loop_at : (n a : ℕ) → suc n ≤ most_spans → ((place : ℕ) → start_at intervals place < a → Loops n place → ⊥) → (b place : ℕ) → place < b → start_at intervals place < suc a → Loops n place → ⊥
  unfolding Loops
  no_loop_at n a le sooner zero place lt start loop = omega arith
  no_loop_at n a le sooner (suc b) place lt start loop =
      let before = loop_before n place le loop in
      elim (is_earlier (start_at intervals before.0) (start_at intervals place) before.0 place before.1) [
        | inl earlier ↦ sooner before.0 (omega arith) before.2
        | inr same ↦ no_loop_at n a le sooner b before.0 (omega (arith, same.1)) (omega (arith, same.0)) before.2
      ]

  no_loop_before : (n a : ℕ) → suc n ≤ most_spans → (place : ℕ) → start_at intervals place < a → Loops n place → ⊥
  no_loop_before n zero le place start loop = omega arith
  no_loop_before n (suc a) le place start loop = no_loop_at n a le (no_loop_before n a le) (suc place) place (omega arith) start loop

  no_loop : (n place : ℕ) → suc n ≤ most_spans → Climbs Left (suc n) place place → ⊥
  unfolding Loops
  no_loop n place le loop = no_loop_before n (suc (start_at intervals place)) le place (omega arith) loop

  -- ---- so a line has each span once

  not_found : (b : Bool) → (b ≡ true → ⊥) → b ≡ false
  not_found b never = elim b as (λ c. (c ≡ true → ⊥) → c ≡ false) [ true ↦ λ none. absurd (none refl) | false ↦ λ none. refl ] never

  apart : (n place : ℕ) → n ≤ most_spans → (parent : Option ℕ) → parent_at Left place ≡ parent → (others : List ℕ) → ((z : ℕ) → In others z → In (line Left n parent) z) → AllByRecursion (λ z. nat_eq place z ≡ false) others
  apart n place le parent is [] among = tt
  apart n place le parent is (z ∷ others) among = (not_found (nat_eq place z) (meets parent is (among z (inl refl))), apart n place le parent is others (λ w here. among w (inr here)))
    where
      meets : (parent : Option ℕ) → parent_at Left place ≡ parent → In (line Left n parent) z → nat_eq place z ≡ true → ⊥
      meets None is here same = no_line_in Left n z here
      meets (Some parent) is here same =
          let climb = reached Left n z parent here in
          let e : z ≡ place = grind (arith, nat_tests) in
          no_loop climb.0 place (omega (arith, climb.1)) (parent, is, subst (λ w. Climbs Left climb.0 parent w) e climb.2)

  line_apart : (n : ℕ) → n ≤ suc most_spans → (first : Option ℕ) → IsDistinct nat_eq (line Left n first)
  unfolding line IsDistinct
  line_apart zero le first = tt
  line_apart (suc n) le None = tt
  line_apart (suc n) le (Some place) = (apart n place (omega arith) (parent_at Left place) refl (line Left n (parent_at Left place)) (λ z here. here), line_apart n (omega arith) (parent_at Left place))

  pub line_below : (count n : ℕ) → ((place parent : ℕ) → parent_at parents place ≡ Some parent → parent < count) → (first : Option ℕ) → ((place : ℕ) → first ≡ Some place → place < count) → (z : ℕ) → In (line Left n first) z → z < count
  unfolding line
  line_below count zero within first below z here = absurd here
  line_below count (suc n) within None below z here = absurd here
  line_below count (suc n) within (Some place) below z (inl same) = let lt : place < count = below place refl in let e : place ≡ z = same in omega arith
  line_below count (suc n) within (Some place) below z (inr later) =
      line_below count n within (parent_at Left place) (λ parent is. within place parent (left_parent intervals parents place parent is).1) z later

  module _ (count : ℕ) (few : count ≤ most_spans) (within : (place parent : ℕ) → parent_at parents place ≡ Some parent → parent < count) where
    -- how many ancestors a span has
    abbrev pub depth : ℕ → ℕ
    depth place = length (line Left most_spans (parent_at Left place))

    no_line : (n : ℕ) → line Left n None ≡ []
    unfolding line
    no_line zero = refl
    no_line (suc n) = refl

    whole_line : (n : ℕ) (first : Option ℕ) → length (line Left (suc n) first) ≤ n → line Left n first ≡ line Left (suc n) first
    unfolding line
    whole_line n None short = no_line n
    whole_line zero (Some place) short = absurd (omega arith)
    whole_line (suc n) (Some place) short = ap (λ those. place ∷ those) (whole_line n (parent_at Left place) (omega arith))

    shallow_line : (n place : ℕ) → n ≤ most_spans → place < count → suc (length (line Left n (parent_at Left place))) ≤ count
    unfolding line
    shallow_line n place le lt =
        length-le_from_distinct_below (line Left (suc n) (Some place)) count (line_apart (suc n) (omega arith) (Some place))
        (λ q found. line_below count (suc n) within (Some place) (λ p same. let e : place ≡ p = same_Some place p same in omega arith) q (any_in q (line Left (suc n) (Some place)) found))

    pub shallow : (place : ℕ) → place < count → depth place < count
    shallow place lt = let most : suc (depth place) ≤ count = shallow_line most_spans place (omega arith) lt in omega arith

    deeper_by : (n place parent : ℕ) → most_spans ≡ suc n → parent < count → length (line Left (suc n) (Some parent)) ≡ suc (length (line Left (suc n) (parent_at Left parent)))
    unfolding line
    deeper_by n place parent e lt =
        let short : suc (length (line Left (suc n) (parent_at Left parent))) ≤ count = shallow_line (suc n) parent (omega arith) lt in
        ap (λ those. suc (length those)) (whole_line n (parent_at Left parent) (omega arith))

    pub deeper : (place parent : ℕ) → parent_at Left place ≡ Some parent → depth place ≡ suc (depth parent)
    deeper place parent is =
        let lt : parent < count = within place parent (left_parent intervals parents place parent is).1 in
        ap (λ first. length (line Left most_spans first)) is ∙ deeper_by 65_535 place parent refl lt

    climbs_deeper : (k place other : ℕ) → Climbs Left k place other → depth other ≤ depth place
    climbs_deeper zero place other same = let e : depth place ≡ depth other = ap depth same in omega arith
    climbs_deeper (suc k) place other (parent, is, rest) =
        let more : depth place ≡ suc (depth parent) = deeper place parent is in
        let less : depth other ≤ depth parent = climbs_deeper k parent other rest in omega arith

    -- an ancestor has fewer ancestors
    pub ancestor_shallower : (place other : ℕ) → In (line Left most_spans (parent_at Left place)) other → depth other < depth place
    ancestor_shallower place other here = from_parent (parent_at Left place) refl here
      where
        from_parent : (parent : Option ℕ) → parent_at Left place ≡ parent → In (line Left most_spans parent) other → depth other < depth place
        from_parent None is here = absurd (no_line_in Left most_spans other here)
        from_parent (Some parent) is here =
            let climb = reached Left most_spans other parent here in
            let more : depth place ≡ suc (depth parent) = deeper place parent is in
            let less : depth other ≤ depth parent = climbs_deeper climb.0 parent other climb.2 in omega arith

    step_by : (n parent : ℕ) → most_spans ≡ suc n → parent < count → line Left (suc n) (Some parent) ≡ parent ∷ line Left (suc n) (parent_at Left parent)
    unfolding line
    step_by n parent e lt =
        let short : suc (length (line Left (suc n) (parent_at Left parent))) ≤ count = shallow_line (suc n) parent (omega arith) lt in
        ap (λ those. parent ∷ those) (whole_line n (parent_at Left parent) (omega arith))

    -- the ancestors of a span are its parent, and the ancestors of that
    pub ancestors_step : (place parent : ℕ) → parent_at Left place ≡ Some parent → line Left most_spans (parent_at Left place) ≡ parent ∷ line Left most_spans (parent_at Left parent)
    ancestors_step place parent is =
        ap (line Left most_spans) is ∙ step_by 65_535 parent refl (within place parent (left_parent intervals parents place parent is).1)

    no_ancestor : (place : ℕ) → parent_at Left place ≡ None → line Left most_spans (parent_at Left place) ≡ []
    no_ancestor place is = ap (line Left most_spans) is ∙ no_line most_spans

    -- after an ancestor come the ancestors of that
    pub ancestors_after : (before : List ℕ) (place other : ℕ) (after : List ℕ) → line Left most_spans (parent_at Left place) ≡ before ++ other ∷ after → after ≡ line Left most_spans (parent_at Left other)
    ancestors_after [] place other after split = by_parent (parent_at Left place) refl
      where
        by_parent : (parent : Option ℕ) → parent_at Left place ≡ parent → after ≡ line Left most_spans (parent_at Left other)
        by_parent None is = absurd (no_first other after (sym (no_ancestor place is) ∙ split))
        by_parent (Some parent) is =
            let both : parent ∷ line Left most_spans (parent_at Left parent) ≡ other ∷ after = sym (ancestors_step place parent is) ∙ split in
            sym (ap rest_of both) ∙ ap (λ p. line Left most_spans (parent_at Left p)) (ap (first_or 0) both)
    ancestors_after (first ∷ before) place other after split = by_parent (parent_at Left place) refl (λ parent is. ancestors_after before parent other after is)
      where
        by_parent : (parent : Option ℕ) → parent_at Left place ≡ parent
            → ((above : ℕ) → line Left most_spans (parent_at Left above) ≡ before ++ other ∷ after → after ≡ line Left most_spans (parent_at Left other)) → after ≡ line Left most_spans (parent_at Left other)
        by_parent None is again = absurd (no_first first (before ++ other ∷ after) (sym (no_ancestor place is) ∙ split))
        by_parent (Some parent) is again = again parent (ap rest_of (sym (ancestors_step place parent is) ∙ split))
