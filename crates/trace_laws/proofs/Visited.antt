-- Each span is entered once and left once, where each has a root above it.
use Rattle.std.proofs.Common.{◌≡◌, ℕ, suc, zero, ◌+◌, ◌≤◌, List, [], ◌∷◌, true, Option, Some, None, refl, sym, ap, ◌∙◌, inl, inr, subst, arith, zero-add}
use Rattle.std.specs.Prelude.{flat_map, nat_eq, option_and_then, is_none}
use Rattle.std.specs.Option.{option_eq}
use Rattle.std.proofs.lemmas.Bool.{true≢false}
use Rattle.std.proofs.lemmas.Bool.Decides.{nat_tests}
use Rattle.std.proofs.lemmas.Option.{none-some, same_Some}
use Rattle.trace_stages.specs.declared.tour.visit.Visit.{Visit}
use Rattle.trace_stages.specs.declared.tour.visit.Visit.TheVariants.{Enters, Leaves}
use Rattle.trace_stages.specs.Visits.{children, entered, is_child_of, is_root, most_generations, parent_at, roots, visits}
use Rattle.trace_laws.proofs.Members.{AreDistinct, IsIn, distinct_append, distinct_filter, distinct_flat_map, filter_in, flat_map_in, in_back, in_either, in_filter, in_flat_map, in_front}

-- the span that stands so many generations above
abbrev pub above : List (Option ℕ) → ℕ → Option ℕ → Option ℕ
above parents zero first = first
above parents (suc n) first = above parents n (option_and_then (parent_at parents) first)

-- a span without a parent stands so many generations above
abbrev pub HasRoot : List (Option ℕ) → ℕ → ℕ → Type 0
HasRoot parents n place = (root : ℕ) × (above parents n (Some place) ≡ Some root) × (parent_at parents root ≡ None)

abbrev pub place_of : Visit → ℕ
place_of (Enters place) = place
place_of (Leaves place) = place

module _ (parents : List (Option ℕ)) where
  none_above : (n : ℕ) → above parents n None ≡ None
  none_above zero = refl
  none_above (suc n) = none_above n

  suc_sum : (m n : ℕ) → suc m + n ≡ suc (m + n)
  suc_sum m n = omega arith

  above-add : (m n : ℕ) (first : Option ℕ) → above parents (m + n) first ≡ above parents n (above parents m first)
  above-add zero n first = ap (λ k. above parents k first) (zero-add n)
  above-add (suc m) n first = ap (λ k. above parents k first) (suc_sum m n) ∙ above-add m n (option_and_then (parent_at parents) first)

  above_suc : (n : ℕ) (first : Option ℕ) → above parents (suc n) first ≡ option_and_then (parent_at parents) (above parents n first)
  above_suc zero first = refl
  above_suc (suc n) first = above_suc n (option_and_then (parent_at parents) first)

  -- there is one depth
  one_depth : (d e : ℕ) (first : Option ℕ) (r s : ℕ) → above parents d first ≡ Some r → parent_at parents r ≡ None → above parents e first ≡ Some s → parent_at parents s ≡ None → d ≡ e
  one_depth zero zero first r s at root other also = refl
  one_depth zero (suc e) first r s at root other also =
      absurd (none-some s (sym (none_above e) ∙ sym (ap (above parents e) (ap (option_and_then (parent_at parents)) at ∙ root)) ∙ other))
  one_depth (suc d) zero first r s at root other also =
      absurd (none-some r (sym (none_above d) ∙ sym (ap (above parents d) (ap (option_and_then (parent_at parents)) other ∙ also)) ∙ at))
  one_depth (suc d) (suc e) first r s at root other also = ap suc (one_depth d e (option_and_then (parent_at parents) first) r s at root other also)

  pub same_depth : (d e place : ℕ) → HasRoot parents d place → HasRoot parents e place → d ≡ e
  same_depth d e place first second = one_depth d e (Some place) first.0 second.0 first.1 first.2 second.1 second.2

  pub deeper : (k d place top : ℕ) → above parents k (Some place) ≡ Some top → HasRoot parents d top → HasRoot parents (k + d) place
  deeper k d place top at root = (root.0, above-add k d (Some place) ∙ ap (above parents d) at ∙ root.1, root.2)

  child_deeper : (d place parent : ℕ) → parent_at parents place ≡ Some parent → HasRoot parents d parent → HasRoot parents (suc d) place
  child_deeper d place parent at root = (root.0, ap (above parents d) at ∙ root.1, root.2)

  not_own : (k d place : ℕ) → HasRoot parents d place → above parents (suc k) (Some place) ≡ Some place → ⊥
  not_own k d place root at =
      let same = same_depth d (suc k + d) place root (deeper (suc k) d place place at root) in
      absurd (omega arith)

  -- ---- children

  is_some_nat : (o : Option ℕ) (parent : ℕ) → option_eq nat_eq o (Some parent) ≡ true → o ≡ Some parent
  is_some_nat None parent h = absurd (true≢false (sym h))
  is_some_nat (Some p) parent h = let e : p ≡ parent = grind (arith, nat_tests) in ap Some e

  nat_is_some : (o : Option ℕ) (parent : ℕ) → o ≡ Some parent → option_eq nat_eq o (Some parent) ≡ true
  nat_is_some o parent h = let e : nat_eq parent parent ≡ true = grind (arith, nat_tests) in ap (λ p. option_eq nat_eq p (Some parent)) h ∙ e

  pub child_of : (order : List ℕ) (parent place : ℕ) → IsIn place (children parents order parent) → IsIn place order × (parent_at parents place ≡ Some parent)
  child_of order parent place h =
      let found = in_filter (is_child_of parents parent) order place h in
      (found.0, is_some_nat (parent_at parents place) parent found.1)

  pub of_child : (order : List ℕ) (parent place : ℕ) → IsIn place order → parent_at parents place ≡ Some parent → IsIn place (children parents order parent)
  of_child order parent place h at = filter_in (is_child_of parents parent) order place h (nat_is_some (parent_at parents place) parent at)

  -- ---- what is below a span

  abbrev Below : ℕ → ℕ → Type 0
  Below top place = (k : ℕ) × (above parents k (Some place) ≡ Some top)

  -- the visits of a span are those of spans below it
  visits_below : (order : List ℕ) (n top : ℕ) (visit : Visit) → IsIn visit (entered parents order n top) → Below top (place_of visit)
  unfolding entered
  visits_below order zero top visit h = elim h [
    | inl e ↦ (0, ap Some (ap place_of e))
    | inr t ↦ elim t [ inl e ↦ (0, ap Some (ap place_of e)) | inr none ↦ absurd none ]
  ]
  visits_below order (suc n) top visit h = elim h [
    | inl e ↦ (0, ap Some (ap place_of e))
    | inr t ↦ elim (in_either visit (flat_map (entered parents order n) (children parents order top)) (Leaves top ∷ []) t) [
      | inl l ↦ (
          let found = in_flat_map (entered parents order n) (children parents order top) visit l in
          let child = child_of order top found.0 found.1 in
          let under = visits_below order n found.0 visit found.2 in
          (suc under.0, above_suc under.0 (Some (place_of visit)) ∙ ap (option_and_then (parent_at parents)) under.1 ∙ child.1)
          )
      | inr r ↦ elim r [ inl e ↦ (0, ap Some (ap place_of e)) | inr none ↦ absurd none ]
    ]
  ]

  -- and each span below it is entered and left
  IsVisited : List Visit → ℕ → Type 0
  IsVisited all place = IsIn (Enters place) all × IsIn (Leaves place) all

  entered_self : (order : List ℕ) (n place : ℕ) → IsIn (Enters place) (entered parents order n place) × IsIn (Leaves place) (entered parents order n place)
  unfolding entered
  entered_self order zero place = (inl refl, inr (inl refl))
  entered_self order (suc n) place = (inl refl, inr (in_back (Leaves place) (flat_map (entered parents order n) (children parents order place)) (Leaves place ∷ []) (inl refl)))

  -- the span right below the one that stands so many generations above
  split_above : (k place top : ℕ) → above parents (suc k) (Some place) ≡ Some top → (next : ℕ) × (above parents k (Some place) ≡ Some next) × (parent_at parents next ≡ Some top)
  split_above k place top at = by (above parents k (Some place)) refl (sym (above_suc k (Some place)) ∙ at)
    where
      by : (o : Option ℕ) → above parents k (Some place) ≡ o → option_and_then (parent_at parents) o ≡ Some top → (next : ℕ) × (above parents k (Some place) ≡ Some next) × (parent_at parents next ≡ Some top)
      by None is up = absurd (none-some top up)
      by (Some next) is up = (next, is, up)

  below_visited : (order : List ℕ) (n k top place : ℕ) → ((p q : ℕ) → parent_at parents p ≡ Some q → IsIn p order) → k ≤ n → above parents k (Some place) ≡ Some top
      → IsIn (Enters place) (entered parents order n top) × IsIn (Leaves place) (entered parents order n top)
  unfolding entered
  below_visited order n zero top place all low at =
      let same = same_Some place top at in
      subst (λ (t : ℕ). IsIn (Enters place) (entered parents order n t) × IsIn (Leaves place) (entered parents order n t)) same (entered_self order n place)
  below_visited order zero (suc k) top place all low at = absurd (omega arith)
  below_visited order (suc n) (suc k) top place all low at =
      let split = split_above k place top at in
      let under = below_visited order n k split.0 place all (omega arith) split.1 in
      let child = of_child order top split.0 (all split.0 top split.2) split.2 in
      let inside = λ (visit : Visit) (h : IsIn visit (entered parents order n split.0)).
      in_front visit (flat_map (entered parents order n) (children parents order top)) (Leaves top ∷ []) (flat_map_in (entered parents order n) (children parents order top) split.0 visit child h) in
      (inr (inside (Enters place) under.0), inr (inside (Leaves place) under.1))

  -- ---- no visit comes twice

  apart_visits : (a b : ℕ) → Enters a ≡ Leaves b → ⊥
  apart_visits a b e = cc

  same_below : (i j d r s place : ℕ) → HasRoot parents d r → HasRoot parents d s → above parents i (Some place) ≡ Some r → above parents j (Some place) ≡ Some s → r ≡ s
  same_below i j d r s place first second up also =
      let same : i + d ≡ j + d = same_depth (i + d) (j + d) place (deeper i d place r up first) (deeper j d place s also second) in
      let equal : i ≡ j = omega arith in
      same_Some r s (sym up ∙ ap (λ k. above parents k (Some place)) equal ∙ also)

  -- of spans at one depth
  distinct_visits : (order : List ℕ) (n d : ℕ) (places : List ℕ) → AreDistinct places → ((p : ℕ) → IsIn p places → HasRoot parents d p) → ((p : ℕ) → IsIn p places → AreDistinct (entered parents order n p))
      → AreDistinct (flat_map (entered parents order n) places)
  distinct_visits order n d places all deep each =
      distinct_flat_map (entered parents order n) places all each
      (λ r s visit at also first second.
      let one = visits_below order n r visit first in
      let other = visits_below order n s visit second in
      same_below one.0 other.0 d r s (place_of visit) (deep r at) (deep s also) one.1 other.1)

  child_not_above : (order : List ℕ) (n d top : ℕ) (visit : Visit) → HasRoot parents d top → place_of visit ≡ top → IsIn visit (flat_map (entered parents order n) (children parents order top)) → ⊥
  child_not_above order n d top visit root is h =
      let found = in_flat_map (entered parents order n) (children parents order top) visit h in
      let child = child_of order top found.0 found.1 in
      let under = visits_below order n found.0 visit found.2 in
      not_own under.0 d top root (above_suc under.0 (Some top) ∙ ap (option_and_then (parent_at parents)) (ap (λ p. above parents under.0 (Some p)) (sym is) ∙ under.1) ∙ child.1)

  pub distinct_entered : (order : List ℕ) → AreDistinct order → (n d top : ℕ) → HasRoot parents d top → AreDistinct (entered parents order n top)
  unfolding entered
  distinct_entered order distinct zero d top root = (λ h. elim h [ inl e ↦ apart_visits top top e | inr none ↦ none ], (λ h. h, tt))
  distinct_entered order distinct (suc n) d top root =
      let below = children parents order top in
      let deep = λ (p : ℕ) (h : IsIn p below). let child = child_of order top p h in child_deeper d p top child.1 root in
      let inside = distinct_visits order n (suc d) below (distinct_filter (is_child_of parents top) order distinct) deep (λ p h. distinct_entered order distinct n (suc d) p (deep p h)) in (
        λ h. elim (in_either (Enters top) (flat_map (entered parents order n) below) (Leaves top ∷ []) h) [
          | inl l ↦ child_not_above order n d top (Enters top) root refl l
          | inr r ↦ elim r [ inl e ↦ apart_visits top top e | inr none ↦ none ]
        ],
        distinct_append (flat_map (entered parents order n) below) (Leaves top ∷ []) inside (λ h. h, tt)
            (λ visit l r. elim r [ inl e ↦ child_not_above order n d top visit root (ap place_of e) l | inr none ↦ none ]),
      )

  -- ---- all visits

  is_root_none : (o : Option ℕ) → is_none o ≡ true → o ≡ None
  is_root_none None h = refl
  is_root_none (Some p) h = absurd (true≢false (sym h))

  pub distinct_all : (order : List ℕ) → AreDistinct order → AreDistinct (visits parents order)
  distinct_all order distinct =
      distinct_visits order most_generations 0 (roots parents order) (distinct_filter (is_root parents) order distinct)
      (λ p h. let found = in_filter (is_root parents) order p h in (p, refl, is_root_none (parent_at parents p) found.1))
      (λ p h. let found = in_filter (is_root parents) order p h in distinct_entered order distinct most_generations 0 p (p, refl, is_root_none (parent_at parents p) found.1))

  pub all_visited : (order : List ℕ) (d place : ℕ) → ((p q : ℕ) → parent_at parents p ≡ Some q → IsIn p order × IsIn q order) → IsIn place order → d ≤ most_generations → HasRoot parents d place
      → IsIn (Enters place) (visits parents order) × IsIn (Leaves place) (visits parents order)
  all_visited order d place all here low root =
      let top = root_in d place root.0 root.1 here in
      let is_top : is_none (parent_at parents root.0) ≡ true = ap is_none root.2 in
      let at_root = filter_in (is_root parents) order root.0 top is_top in
      let under = below_visited order most_generations d root.0 place (λ p q up. let both = all p q up in both.0) low root.1 in
      (flat_map_in (entered parents order most_generations) (roots parents order) root.0 (Enters place) at_root under.0, flat_map_in (entered parents order most_generations) (roots parents order) root.0 (Leaves place) at_root under.1)
    where
      root_in : (k p top : ℕ) → above parents k (Some p) ≡ Some top → IsIn p order → IsIn top order
      root_in zero p top at within = subst (λ (q : ℕ). IsIn q order) (same_Some p top at) within
      root_in (suc k) p top at within = let split = split_above k p top at in let both = all split.0 top split.2 in both.1

  -- each visit is of a span in the order
  pub visits_in_order : (order : List ℕ) (visit : Visit) → IsIn visit (visits parents order) → IsIn (place_of visit) order
  unfolding entered
  visits_in_order order visit h =
      let found = in_flat_map (entered parents order most_generations) (roots parents order) visit h in
      let top = in_filter (is_root parents) order found.0 found.1 in
      entered_in_order most_generations found.0 visit top.0 found.2
    where
      entered_in_order : (n top : ℕ) (v : Visit) → IsIn top order → IsIn v (entered parents order n top) → IsIn (place_of v) order
      entered_in_order zero top v here is = elim is [
        | inl e ↦ subst (λ (p : ℕ). IsIn p order) (sym (ap place_of e)) here
        | inr t ↦ elim t [ inl e ↦ subst (λ (p : ℕ). IsIn p order) (sym (ap place_of e)) here | inr none ↦ absurd none ]
      ]
      entered_in_order (suc n) top v here is = elim is [
        | inl e ↦ subst (λ (p : ℕ). IsIn p order) (sym (ap place_of e)) here
        | inr t ↦ elim (in_either v (flat_map (entered parents order n) (children parents order top)) (Leaves top ∷ []) t) [
          | inl l ↦ (
              let under = in_flat_map (entered parents order n) (children parents order top) v l in
              let child = child_of order top under.0 under.1 in
              entered_in_order n under.0 v child.0 under.2
              )
          | inr r ↦ elim r [ inl e ↦ subst (λ (p : ℕ). IsIn p order) (sym (ap place_of e)) here | inr none ↦ absurd none ]
        ]
      ]
