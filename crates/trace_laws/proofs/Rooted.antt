-- Each span has a root above it: in a circle of parents the span that starts first has none.
use Rattle.std.proofs.Common.{◌≡◌, ℕ, suc, zero, ◌+◌, ◌-◌, ◌<◌, ◌≤◌, List, [], ◌∷◌, Bool, true, false, cond, length, Option, Some, None, refl, sym, ap, ◌∙◌, inl, inr, subst, arith, eqb, zero-add}
use Rattle.std.specs.Prelude.{◌⊎◌, ◌||◌, ◌&&◌, nat_eq, nat_lt, option_and_then, slice_get}
use Rattle.std.specs.List.{IsDistinct, list_any}
use Rattle.std.specs.Option.{option_eq}
use Rattle.std.proofs.lemmas.Bool.{true≢false}
use Rattle.std.proofs.lemmas.Bool.Decides.{nat_tests}
use Rattle.std.proofs.lemmas.List.FromFn.{get_or-map-range_with_len, length-map-range_with_len}
use Rattle.std.proofs.lemmas.Map.Steps.{length-le_from_distinct_below}
use Rattle.std.proofs.lemmas.Option.{none-some, same_Some, slice_get-get_or, slice_get_past}
use Rattle.trace_relations.specs.declared.moment.Interval.{Interval}
use Rattle.trace_relations.specs.Ancestry.{ancestors, comes_first, first_among, first_of, first_with, is_first_of_circle, known, line, most_spans, parent_at, parent_without_circles, start_at, without_circles}
use Rattle.trace_stages.specs.Visits.{if_below, known as known_parent, parent_at as tour_parent}
use Rattle.trace_laws.proofs.Members.{AreDistinct, IsIn, each_of}
use Rattle.trace_laws.proofs.Visited.{HasRoot, above}

-- ---- steps of any kind

module _ (f : ℕ → Option ℕ) where
  abbrev pub up : ℕ → Option ℕ → Option ℕ
  up zero o = o
  up (suc n) o = up n (option_and_then f o)

  abbrev pub trail : ℕ → Option ℕ → List ℕ
  trail zero o = []
  trail (suc n) None = []
  trail (suc n) (Some p) = p ∷ trail n (f p)

  pub up_none : (n : ℕ) → up n None ≡ None
  up_none zero = refl
  up_none (suc n) = up_none n

  suc_sum : (m n : ℕ) → suc m + n ≡ suc (m + n)
  suc_sum m n = omega arith

  pub up-add : (m n : ℕ) (o : Option ℕ) → up (m + n) o ≡ up n (up m o)
  up-add zero n o = ap (λ k. up k o) (zero-add n)
  up-add (suc m) n o = ap (λ k. up k o) (suc_sum m n) ∙ up-add m n (option_and_then f o)

  pub up_suc : (n : ℕ) (o : Option ℕ) → up (suc n) o ≡ option_and_then f (up n o)
  up_suc zero o = refl
  up_suc (suc n) o = up_suc n (option_and_then f o)

  trail_none : (n : ℕ) → trail n None ≡ []
  trail_none zero = refl
  trail_none (suc n) = refl

  pub in_trail : (n k : ℕ) (o : Option ℕ) (p : ℕ) → k < n → up k o ≡ Some p → IsIn p (trail n o)
  in_trail zero k o p low at = absurd (omega arith)
  in_trail (suc n) k None p low at = absurd (none-some p (sym (up_none k) ∙ at))
  in_trail (suc n) zero (Some x) p low at = inl (sym (same_Some x p at))
  in_trail (suc n) (suc k) (Some x) p low at = inr (in_trail n k (f x) p (omega arith) at)

  -- where in the trail a place stands, if it does
  find : (n p : ℕ) (o : Option ℕ) → (IsIn p (trail n o) → ⊥) ⊎ ((k : ℕ) × (k < n) × (up k o ≡ Some p))
  find zero p o = inl (λ h. h)
  find (suc n) p None = inl (λ h. h)
  find (suc n) p (Some x) = here (nat_eq p x) refl (find n p (f x))
    where
      here : (b : Bool) → nat_eq p x ≡ b → (IsIn p (trail n (f x)) → ⊥) ⊎ ((k : ℕ) × (k < n) × (up k (f x) ≡ Some p)) → (IsIn p (x ∷ trail n (f x)) → ⊥) ⊎ ((k : ℕ) × (k < suc n) × (up k (Some x) ≡ Some p))
      here true e rest = inr (0, omega arith, (let same : x ≡ p = grind (arith, nat_tests) in ap Some same))
      here false e rest = elim rest [
        | inl absent ↦ inl (λ h. elim h [ inl same ↦ (let t : nat_eq p x ≡ true = grind (arith, nat_tests) in true≢false (sym t ∙ e)) | inr t ↦ absent t ])
        | inr found ↦ inr (suc found.0, (let low = found.1 in omega arith), found.2)
      ]

  -- places that do not come again, or a circle
  pub circle : (n p : ℕ) → AreDistinct (trail n (Some p)) ⊎ ((y c : ℕ) × (suc c < n) × (up (suc c) (Some y) ≡ Some y))
  circle zero p = inl tt
  circle (suc n) p = elim (find n p (f p)) [
    | inr found ↦ inr (p, found.0, (let low = found.1 in omega arith), found.2)
    | inl absent ↦ elim (after (f p) refl (λ q. circle n q)) [
      | inl rest ↦ inl (absent, rest)
      | inr again ↦ inr (again.0, again.1, (let low = again.2 in omega arith), again.3)
    ]
  ]
    where
      after : (o : Option ℕ) → f p ≡ o → ((q : ℕ) → AreDistinct (trail n (Some q)) ⊎ ((y c : ℕ) × (suc c < n) × (up (suc c) (Some y) ≡ Some y))) → AreDistinct (trail n o) ⊎ ((y c : ℕ) × (suc c < n) × (up (suc c) (Some y) ≡ Some y))
      after None e more = inl (subst AreDistinct (sym (trail_none n)) tt)
      after (Some q) e more = more q

  -- a span without a parent is found, or there are so many spans above
  pub climb : (n p : ℕ) → ((d : ℕ) × (d < n) × (r : ℕ) × (up d (Some p) ≡ Some r) × (f r ≡ None)) ⊎ ((t : ℕ) × (up n (Some p) ≡ Some t))
  climb zero p = inr (p, refl)
  climb (suc n) p = by (f p) refl (λ q. climb n q)
    where
      by : (o : Option ℕ) → f p ≡ o → ((q : ℕ) → ((d : ℕ) × (d < n) × (r : ℕ) × (up d (Some q) ≡ Some r) × (f r ≡ None)) ⊎ ((t : ℕ) × (up n (Some q) ≡ Some t))) → ((d : ℕ) × (d < suc n) × (r : ℕ) × (up d (Some p) ≡ Some r) × (f r ≡ None)) ⊎ ((t : ℕ) × (up (suc n) (Some p) ≡ Some t))
      by None e more = inl (0, omega arith, p, refl, e)
      by (Some q) e more = elim (more q) [
        | inl low ↦ inl (suc low.0, (let h = low.1 in omega arith), low.2, ap (up low.0) e ∙ low.3, low.4)
        | inr long ↦ inr (long.0, ap (up n) e ∙ long.1)
      ]

  pub long_trail : (n p t : ℕ) → up n (Some p) ≡ Some t → length (trail (suc n) (Some p)) ≡ suc n
  long_trail zero p t at = omega arith
  long_trail (suc n) p t at = ap suc (by (f p) refl (λ q up_to. long_trail n q t up_to))
    where
      by : (o : Option ℕ) → f p ≡ o → ((q : ℕ) → up n (Some q) ≡ Some t → length (trail (suc n) (Some q)) ≡ suc n) → length (trail (suc n) o) ≡ suc n
      by None e more = absurd (none-some t (sym (up_none n) ∙ sym (ap (up n) e) ∙ at))
      by (Some q) e more = more q (sym (ap (up n) e) ∙ at)

  pub below_trail : (n most p : ℕ) → p < most → ((x y : ℕ) → f x ≡ Some y → y < most) → (n' : ℕ) (o : Option ℕ) → ((x : ℕ) → o ≡ Some x → x < most) → (x : ℕ) → IsIn x (trail n' o) → x < most
  below_trail n most p low closed zero o first x h = absurd h
  below_trail n most p low closed (suc n') None first x h = absurd h
  below_trail n most p low closed (suc n') (Some q) first x h = elim h [
    | inl e ↦ subst (λ (z : ℕ). z < most) (sym e) (first q refl)
    | inr t ↦ below_trail n most p low closed n' (f q) (λ y e. closed q y e) x t
  ]

-- ---- places below a bound that do not come again

any_in : (q : ℕ) (xs : List ℕ) → list_any (eqb q) xs ≡ true → IsIn q xs
any_in q [] h = absurd (true≢false (sym h))
any_in q (x ∷ xs) h = by (eqb q x) refl (any_in q xs) h
  where
    by : (b : Bool) → eqb q x ≡ b → (list_any (eqb q) xs ≡ true → IsIn q xs) → (b || list_any (eqb q) xs) ≡ true → IsIn q (x ∷ xs)
    by true e more any = inl (grind (arith, nat_tests))
    by false e more any = inr (more any)

not_equal : (x y : ℕ) → (x ≡ y → ⊥) → eqb x y ≡ false
not_equal x y apart = by (eqb x y) refl
  where
    by : (b : Bool) → eqb x y ≡ b → b ≡ false
    by true e = absurd (apart (grind (arith, nat_tests)))
    by false e = refl

distinct_keys : (xs : List ℕ) → AreDistinct xs → IsDistinct eqb xs
unfolding IsDistinct
distinct_keys [] all = tt
distinct_keys (x ∷ xs) all = (each_of (λ (y : ℕ). eqb x y ≡ false) xs (λ y h. not_equal x y (λ e. all.0 (subst (λ (z : ℕ). IsIn z xs) (sym e) h))), distinct_keys xs all.1)

pub few_distinct : (xs : List ℕ) (n : ℕ) → AreDistinct xs → ((x : ℕ) → IsIn x xs → x < n) → length xs ≤ n
few_distinct xs n all low = length-le_from_distinct_below xs n (distinct_keys xs all) (λ q h. low q (any_in q xs h))

-- ---- the first of places

total : (a b x y : ℕ) → (nat_lt a b || (eqb a b && nat_lt x y)) ≡ false → (nat_lt b a || (eqb b a && nat_lt y x)) ≡ false → x ≡ y
total a b x y p q = grind (arith, nat_tests)

behind_both : (a b c x y z : ℕ) → (nat_lt c a || (eqb c a && nat_lt z x)) ≡ false → (nat_lt a b || (eqb a b && nat_lt x y)) ≡ false → (nat_lt c b || (eqb c b && nat_lt z y)) ≡ false
behind_both a b c x y z p q = grind (arith, nat_tests)

one_way : (a b x y : ℕ) → (nat_lt a b || (eqb a b && nat_lt x y)) ≡ true → (nat_lt b a || (eqb b a && nat_lt y x)) ≡ false
one_way a b x y p = grind (arith, nat_tests)

irreflexive : (a x : ℕ) → (nat_lt a a || (eqb a a && nat_lt x x)) ≡ false
irreflexive a x = grind (arith, nat_tests)

module _ (intervals : List Interval) where
  -- among places the first is found
  pub first_is : (m : ℕ) (xs : List ℕ) → IsIn m xs → ((x : ℕ) → IsIn x xs → comes_first intervals x m ≡ false) → first_among intervals xs ≡ Some m
  first_is m [] h first = absurd h
  first_is m (x ∷ xs) h first = elim h [
    | inl same ↦ by_rest same (first_among intervals xs) (λ other e. first other (inr (among other xs e)))
    | inr t ↦ ap (λ o. Some (first_with intervals x o)) (first_is m xs t (λ y l. first y (inr l))) ∙ ap Some (pick (comes_first intervals m x) refl (first x (inl refl)))
  ]
    where
      among : (y : ℕ) (ys : List ℕ) → first_among intervals ys ≡ Some y → IsIn y ys
      among y [] e = absurd (none-some y e)
      among y (z ∷ zs) e = found (first_among intervals zs) refl (λ w is. among w zs is)
        where
          found : (o : Option ℕ) → first_among intervals zs ≡ o → ((w : ℕ) → first_among intervals zs ≡ Some w → IsIn w zs) → IsIn y (z ∷ zs)
          found None is more = inl (sym (same_Some z y (sym (ap (λ q. Some (first_with intervals z q)) is) ∙ e)))
          found (Some w) is more = chosen (comes_first intervals w z) refl (sym (ap (λ q. Some (first_with intervals z q)) is) ∙ e)
            where
              chosen : (b : Bool) → comes_first intervals w z ≡ b → Some (first_of intervals z w) ≡ Some y → IsIn y (z ∷ zs)
              chosen true c f = inr (subst (λ (v : ℕ). IsIn v zs) (same_Some w y (sym (ap (λ t. Some (cond t w z)) c) ∙ f)) (more w is))
              chosen false c f = inl (sym (same_Some z y (sym (ap (λ t. Some (cond t w z)) c) ∙ f)))

      by_rest : m ≡ x → (o : Option ℕ) → ((other : ℕ) → o ≡ Some other → comes_first intervals other m ≡ false) → Some (first_with intervals x o) ≡ Some m
      by_rest same None low = ap Some (sym same)
      by_rest same (Some other) low = ap (λ b. Some (cond b other x)) (ap (comes_first intervals other) (sym same) ∙ low other refl) ∙ ap Some (sym same)

      pick : (b : Bool) → comes_first intervals m x ≡ b → comes_first intervals x m ≡ false → first_of intervals x m ≡ m
      pick true c low = ap (λ t. cond t m x) c
      pick false c low = ap (λ t. cond t m x) c ∙ total (start_at intervals x) (start_at intervals m) x m low c

-- some place of each list is the first
record Least (intervals : List Interval) (xs : List ℕ) : Type 0 where
  place : ℕ
  within : IsIn place xs
  least : (x : ℕ) → IsIn x xs → comes_first intervals x place ≡ false

self_later : (intervals : List Interval) (x : ℕ) → comes_first intervals x x ≡ false
self_later intervals x = irreflexive (start_at intervals x) x

least_of : (intervals : List Interval) (x : ℕ) (xs : List ℕ) → Least intervals (x ∷ xs)
least_of intervals x [] = record { place = x; within = inl refl; least = λ z h. elim h [ inl e ↦ ap (λ w. comes_first intervals w x) e ∙ self_later intervals x | inr t ↦ absurd t ] }
least_of intervals x (y ∷ ys) = by (least_of intervals y ys)
  where
    by : Least intervals (y ∷ ys) → Least intervals (x ∷ y ∷ ys)
    by rest = pick (comes_first intervals x rest.place) refl
      where
        pick : (b : Bool) → comes_first intervals x rest.place ≡ b → Least intervals (x ∷ y ∷ ys)
        pick true e = record {
          place = x;
          within = inl refl;
          least = λ z h. elim h [
            | inl same ↦ ap (λ w. comes_first intervals w x) same ∙ self_later intervals x
            | inr t ↦ behind_both (start_at intervals rest.place) (start_at intervals x) (start_at intervals z) rest.place x z (rest.least z t) (one_way (start_at intervals x) (start_at intervals rest.place) x rest.place e)
          ];
        }
        pick false e = record {
          place = rest.place;
          within = inr rest.within;
          least = λ z h. elim h [ inl same ↦ ap (λ w. comes_first intervals w rest.place) same ∙ e | inr t ↦ rest.least z t ];
        }

-- ---- circles of parents

if_below_same : (count q r : ℕ) → if_below count q ≡ Some r → q ≡ r
if_below_same count q r h = by (nat_lt q count) h
  where
    by : (b : Bool) → cond b (Some q) None ≡ Some r → q ≡ r
    by true e = same_Some q r e
    by false e = absurd (none-some r e)

module _ (intervals : List Interval) (parents : List (Option ℕ)) (within : (p q : ℕ) → parent_at parents p ≡ Some q → q < length parents) where
  abbrev broken : List (Option ℕ)
  broken = without_circles intervals parents

  abbrev next : ℕ → Option ℕ
  next p = tour_parent broken p

  broken_at : (p : ℕ) → p < length parents → slice_get broken p ≡ Some (parent_without_circles intervals parents p)
  broken_at p low =
      slice_get-get_or broken p None (subst (λ (n : ℕ). p < n) (sym (length-map-range_with_len (parent_without_circles intervals parents) 0 (length parents))) low)
      ∙ ap Some (get_or-map-range_with_len (parent_without_circles intervals parents) 0 (length parents) p p None low (zero-add p))

  broken_past : (p : ℕ) → length parents ≤ p → slice_get broken p ≡ None
  broken_past p high = slice_get_past broken p (subst (λ (n : ℕ). n ≤ p) (sym (length-map-range_with_len (parent_without_circles intervals parents) 0 (length parents))) high)

  -- a span that has a parent there has it among the references, and is no first of a circle
  record IsKept (p : ℕ) (q : ℕ) : Type 0 where
    parent : parent_at parents p ≡ Some q
    no_circle : is_first_of_circle intervals parents p ≡ false

  kept_by : (p q : ℕ) (b : Bool) → is_first_of_circle intervals parents p ≡ b → cond b None (parent_at parents p) ≡ Some q → IsKept p q
  kept_by p q true e is = absurd (none-some q is)
  kept_by p q false e is = record { parent = is; no_circle = e }

  known_below : (count q : ℕ) (o : Option ℕ) → option_and_then (if_below count) o ≡ Some q → o ≡ Some q
  known_below count q None h = absurd (none-some q h)
  known_below count q (Some r) h = ap Some (if_below_same count r q h)

  kept : (p q : ℕ) → next p ≡ Some q → IsKept p q
  kept p q h = by (nat_lt p (length parents)) refl
    where
      told : known_parent (slice_get broken p) ≡ Some q
      told = known_below (length broken) q (known_parent (slice_get broken p)) h

      by : (b : Bool) → nat_lt p (length parents) ≡ b → IsKept p q
      by true e = kept_by p q (is_first_of_circle intervals parents p) refl (sym (ap known_parent (broken_at p (grind (arith, nat_tests)))) ∙ told)
      by false e = absurd (none-some q (sym (ap known_parent (broken_past p (grind (arith, nat_tests)))) ∙ told))

  above_up : (n : ℕ) (o : Option ℕ) → above broken n o ≡ up next n o
  above_up zero o = refl
  above_up (suc n) o = above_up n (option_and_then next o)

  module _ (y c : ℕ) (low : c < most_spans) (again : up next (suc c) (Some y) ≡ Some y) where
    -- the places of the circle
    abbrev Ring : ℕ → Type 0
    Ring x = (j : ℕ) × (j ≤ c) × (up next j (Some y) ≡ Some x)

    record Turns (x : ℕ) : Type 0 where
      turn : ℕ
      is : next x ≡ Some turn
      ring : Ring turn

    some_up : (j : ℕ) → j ≤ c → (o : Option ℕ) → up next (suc j) (Some y) ≡ o → (z : ℕ) × (up next (suc j) (Some y) ≡ Some z)
    some_up j le (Some z) e = (z, e)
    some_up j le None e =
        absurd (none-some y (sym (up_none next (c - j)) ∙ sym (ap (up next (c - j)) e) ∙ sym (up-add next (suc j) (c - j) (Some y)) ∙ ap (λ k. up next k (Some y)) (whole j le) ∙ again))
      where
        whole : (i : ℕ) → i ≤ c → suc i + (c - i) ≡ suc c
        whole i i_low = omega arith

    turns : (x : ℕ) → Ring x → Turns x
    turns x (j, le, at) = by (nat_lt j c) refl
      where
        step : up next (suc j) (Some y) ≡ next x
        step = up_suc next j (Some y) ∙ ap (option_and_then next) at

        by : (b : Bool) → nat_lt j c ≡ b → Turns x
        by true e =
            let found = some_up j le (up next (suc j) (Some y)) refl in
            record { turn = found.0; is = sym step ∙ found.1; ring = (suc j, grind (arith, nat_tests), found.1) }
        by false e =
            let same : suc j ≡ suc c = grind (arith, nat_tests) in
            record { turn = y; is = sym step ∙ ap (λ k. up next k (Some y)) same ∙ again; ring = (0, omega arith, refl) }

    parent_turns : (x : ℕ) → (ring : Ring x) → parent_at parents x ≡ Some (turns x ring).turn
    parent_turns x ring = let keeps = kept x (turns x ring).turn (turns x ring).is in keeps.parent

    -- the ancestors of a place of the circle are those on it
    line_ring : (n x : ℕ) → Ring x → (line parents n (Some x) ≡ trail next n (Some x)) × ((z : ℕ) → IsIn z (trail next n (Some x)) → Ring z)
    unfolding line
    line_ring zero x ring = (refl, λ z h. absurd h)
    line_ring (suc n) x ring =
        let turned = turns x ring in
        let rest = line_ring n turned.turn turned.ring in
        let parent = parent_turns x ring in (
          ap (λ o. x ∷ line parents n o) parent ∙ ap (λ l. x ∷ l) rest.0 ∙ ap (λ o. x ∷ trail next n o) (sym turned.is),
          λ z h. elim h [ inl e ↦ subst Ring (sym e) ring | inr t ↦ rest.1 z (subst (λ (o : Option ℕ). IsIn z (trail next n o)) turned.is t) ],
        )

    record First (m : ℕ) : Type 0 where
      ring : Ring m
      least : (x : ℕ) → Ring x → comes_first intervals x m ≡ false

    -- the first of the circle is the first of its own ancestors
    no_first : (m : ℕ) → First m → ⊥
    no_first m first =
        let turned = turns m first.ring in
        let keeps = kept m turned.turn turned.is in
        let all = line_ring most_spans turned.turn turned.ring in
        let own = in_trail next most_spans c (Some turned.turn) m low (ap (up next c) (sym turned.is) ∙ round m first.ring) in
        let found : first_among intervals (ancestors parents m) ≡ Some m =
        ap (λ o. first_among intervals (line parents most_spans o)) (parent_turns m first.ring)
        ∙ ap (first_among intervals) all.0
        ∙ first_is intervals m (trail next most_spans (Some turned.turn)) own (λ x h. first.least x (all.1 x h)) in
        let is : is_first_of_circle intervals parents m ≡ true = ap (λ o. option_eq nat_eq o (Some m)) found ∙ self m in
        true≢false (sym is ∙ keeps.no_circle)
      where
        self : (k : ℕ) → nat_eq k k ≡ true
        self k = grind (arith, nat_tests)

        turned_sum : (j : ℕ) → j + suc c ≡ suc c + j
        turned_sum j = omega arith

        round : (x : ℕ) → Ring x → up next (suc c) (Some x) ≡ Some x
        round x (j, le, at) =
            ap (up next (suc c)) (sym at) ∙ sym (up-add next j (suc c) (Some y)) ∙ ap (λ k. up next k (Some y)) (turned_sum j) ∙ up-add next (suc c) j (Some y) ∙ ap (up next j) again ∙ at

    no_circle_left : ⊥
    no_circle_left =
        let least = least_of intervals y (trail next c (next y)) in
        let all = line_ring (suc c) y (0, omega arith, refl) in
        no_first least.place (record { ring = all.1 least.place least.within; least = λ x ring. least.least x (in_ring x ring) })
      where
        in_ring : (x : ℕ) → Ring x → IsIn x (trail next (suc c) (Some y))
        in_ring x (j, le, at) = in_trail next (suc c) j (Some y) x (omega arith) at

  -- a span of so few has a root above it
  pub has_root : length parents ≤ most_spans → (p : ℕ) → p < length parents → (d : ℕ) × (d ≤ most_spans) × HasRoot broken d p
  has_root few p low = elim (climb next (length parents) p) [
    | inl found ↦ (
        let lower = found.1 in
        (found.0, omega arith, (found.2, above_up found.0 (Some p) ∙ found.3, found.4))
        )
    | inr long ↦ absurd (elim (circle next (suc (length parents)) p) [
      | inl distinct ↦ (
          let count = long_trail next (length parents) p long.0 long.1 in
          let most = few_distinct (trail next (suc (length parents)) (Some p)) (length parents) distinct
          (below_trail next 0 (length parents) p low (λ x z e. let keeps = kept x z e in within x z keeps.parent) (suc (length parents)) (Some p) (λ x e. subst (λ (z : ℕ). z < length parents) (same_Some p x e) low)) in
          absurd (omega (arith, count, most))
          )
      | inr ring ↦ (let short = ring.2 in no_circle_left ring.0 ring.1 (omega arith) ring.3)
    ])
  ]

  -- the parents that are left are of so many spans
  pub parent_below : (p q : ℕ) → parent_at broken p ≡ Some q → q < length parents
  parent_below p q h = by (nat_lt p (length parents)) refl
    where
      some_known : (o : Option (Option ℕ)) → known o ≡ Some q → o ≡ Some (Some q)
      some_known None e = absurd (none-some q e)
      some_known (Some r) e = ap Some e

      by : (b : Bool) → nat_lt p (length parents) ≡ b → q < length parents
      by true e =
          let is : parent_without_circles intervals parents p ≡ Some q = same_option (parent_without_circles intervals parents p) (Some q) (sym (broken_at p (grind (arith, nat_tests))) ∙ some_known (slice_get broken p) h) in
          let keeps = kept_by p q (is_first_of_circle intervals parents p) refl is in
          within p q keeps.parent
        where
          same_option : (x y : Option ℕ) → Some x ≡ Some y → x ≡ y
          same_option x y f = cc
      by false e = absurd (none-some q (sym (ap known (broken_past p (grind (arith, nat_tests)))) ∙ h))
