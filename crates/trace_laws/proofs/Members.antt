-- What lists have, and that they have it once.
use Rattle.std.proofs.Common.{◌≡◌, List, [], ◌∷◌, ◌++◌, Bool, true, false, cond, map, refl, sym, ap, ◌∙◌, inl, inr, subst}
use Rattle.std.specs.Prelude.{◌⊎◌, filter, flat_map}
use Rattle.std.specs.List.{AllByRecursion as Each}
use Rattle.std.proofs.lemmas.Bool.{true≢false}

abbrev pub IsIn : {X : Type 0} → X → List X → Type 0
IsIn x [] = ⊥
IsIn x (y ∷ ys) = (x ≡ y) ⊎ IsIn x ys

-- no two are equal
abbrev pub AreDistinct : {X : Type 0} → List X → Type 0
AreDistinct [] = Unit {0}
AreDistinct (x ∷ xs) = (IsIn x xs → ⊥) × AreDistinct xs

module _ {X : Type 0} where
  pub in_front : (x : X) (xs ys : List X) → IsIn x xs → IsIn x (xs ++ ys)
  in_front x [] ys h = absurd h
  in_front x (y ∷ rest) ys h = elim h [ inl e ↦ inl e | inr t ↦ inr (in_front x rest ys t) ]

  pub in_back : (x : X) (xs ys : List X) → IsIn x ys → IsIn x (xs ++ ys)
  in_back x [] ys h = h
  in_back x (y ∷ rest) ys h = inr (in_back x rest ys h)

  pub in_either : (x : X) (xs ys : List X) → IsIn x (xs ++ ys) → IsIn x xs ⊎ IsIn x ys
  in_either x [] ys h = inr h
  in_either x (y ∷ rest) ys h = elim h [ inl e ↦ inl (inl e) | inr t ↦ elim (in_either x rest ys t) [ inl l ↦ inl (inr l) | inr r ↦ inr r ] ]

  pub each_in : (P : X → Type 0) (xs : List X) (x : X) → Each P xs → IsIn x xs → P x
  each_in P [] x all h = absurd h
  each_in P (y ∷ ys) x all h = elim h [ inl e ↦ subst P (sym e) all.0 | inr t ↦ each_in P ys x all.1 t ]

  pub each_of : (P : X → Type 0) (xs : List X) → ((x : X) → IsIn x xs → P x) → Each P xs
  each_of P [] h = tt
  each_of P (y ∷ ys) h = (h y (inl refl), each_of P ys (λ x t. h x (inr t)))

  pub distinct_append : (xs ys : List X) → AreDistinct xs → AreDistinct ys → ((x : X) → IsIn x xs → IsIn x ys → ⊥) → AreDistinct (xs ++ ys)
  distinct_append [] ys first second apart = second
  distinct_append (x ∷ xs) ys first second apart = (
    λ h. elim (in_either x xs ys h) [ inl l ↦ first.0 l | inr r ↦ apart x (inl refl) r ],
    distinct_append xs ys first.1 second (λ z l r. apart z (inr l) r),
  )

  if_kept : (b : Bool) (y : X) (rest : List X) (x : X) → IsIn x (cond b (y ∷ rest) rest) → ((b ≡ true) × (x ≡ y)) ⊎ IsIn x rest
  if_kept true y rest x h = elim h [ inl e ↦ inl (refl, e) | inr t ↦ inr t ]
  if_kept false y rest x h = inr h

  then_kept : (b : Bool) (y : X) (rest : List X) (x : X) → (b ≡ true → x ≡ y → ⊥) ⊎ ((b ≡ true) × (x ≡ y)) → IsIn x rest → IsIn x (cond b (y ∷ rest) rest)
  then_kept true y rest x how t = inr t
  then_kept false y rest x how t = t

  now_kept : (b : Bool) (y : X) (rest : List X) → b ≡ true → IsIn y (cond b (y ∷ rest) rest)
  now_kept true y rest e = inl refl
  now_kept false y rest e = absurd (true≢false (sym e))

  later_kept : (b : Bool) (y : X) (rest : List X) (x : X) → IsIn x rest → IsIn x (cond b (y ∷ rest) rest)
  later_kept true y rest x t = inr t
  later_kept false y rest x t = t

  pub in_filter : (p : X → Bool) (xs : List X) (x : X) → IsIn x (filter p xs) → IsIn x xs × (p x ≡ true)
  in_filter p [] x h = absurd h
  in_filter p (y ∷ ys) x h = elim (if_kept (p y) y (filter p ys) x h) [
    | inl e ↦ (inl e.1, ap p e.1 ∙ e.0)
    | inr t ↦ (let rest = in_filter p ys x t in (inr rest.0, rest.1))
  ]

  pub filter_in : (p : X → Bool) (xs : List X) (x : X) → IsIn x xs → p x ≡ true → IsIn x (filter p xs)
  filter_in p [] x h is = absurd h
  filter_in p (y ∷ ys) x h is = elim h [
    | inl e ↦ subst (λ (z : X). IsIn z (filter p (y ∷ ys))) (sym e) (now_kept (p y) y (filter p ys) (ap p (sym e) ∙ is))
    | inr t ↦ later_kept (p y) y (filter p ys) x (filter_in p ys x t is)
  ]

  distinct_kept : (b : Bool) (y : X) (rest : List X) → (IsIn y rest → ⊥) → AreDistinct rest → AreDistinct (cond b (y ∷ rest) rest)
  distinct_kept true y rest new all = (new, all)
  distinct_kept false y rest new all = all

  pub distinct_filter : (p : X → Bool) (xs : List X) → AreDistinct xs → AreDistinct (filter p xs)
  distinct_filter p [] all = tt
  distinct_filter p (y ∷ ys) all = distinct_kept (p y) y (filter p ys) (λ h. let found = in_filter p ys y h in all.0 found.0) (distinct_filter p ys all.1)

module _ {X Y : Type 0} (f : X → List Y) where
  pub in_flat_map : (xs : List X) (y : Y) → IsIn y (flat_map f xs) → (x : X) × IsIn x xs × IsIn y (f x)
  in_flat_map [] y h = absurd h
  in_flat_map (x ∷ xs) y h = elim (in_either y (f x) (flat_map f xs) h) [
    | inl l ↦ (x, inl refl, l)
    | inr r ↦ (let rest = in_flat_map xs y r in (rest.0, inr rest.1, rest.2))
  ]

  pub flat_map_in : (xs : List X) (x : X) (y : Y) → IsIn x xs → IsIn y (f x) → IsIn y (flat_map f xs)
  flat_map_in [] x y h is = absurd h
  flat_map_in (z ∷ zs) x y h is = elim h [
    | inl e ↦ in_front y (f z) (flat_map f zs) (subst (λ (w : X). IsIn y (f w)) e is)
    | inr t ↦ in_back y (f z) (flat_map f zs) (flat_map_in zs x y t is)
  ]

  pub distinct_flat_map : (xs : List X) → AreDistinct xs → ((x : X) → IsIn x xs → AreDistinct (f x)) → ((x z : X) (y : Y) → IsIn x xs → IsIn z xs → IsIn y (f x) → IsIn y (f z) → x ≡ z) → AreDistinct (flat_map f xs)
  distinct_flat_map [] all each apart = tt
  distinct_flat_map (x ∷ xs) all each apart =
      distinct_append (f x) (flat_map f xs) (each x (inl refl)) (distinct_flat_map xs all.1 (λ z t. each z (inr t)) (λ z w y l r. apart z w y (inr l) (inr r)))
      (λ y l r. let found = in_flat_map xs y r in all.0 (subst (λ (w : X). IsIn w xs) (sym (apart x found.0 y (inl refl) (inr found.1) l found.2)) found.1))

module _ {X Y : Type 0} (f : X → Y) where
  pub in_map : (xs : List X) (y : Y) → IsIn y (map f xs) → (x : X) × IsIn x xs × (y ≡ f x)
  in_map [] y h = absurd h
  in_map (x ∷ xs) y h = elim h [
    | inl e ↦ (x, inl refl, e)
    | inr t ↦ (let rest = in_map xs y t in (rest.0, inr rest.1, rest.2))
  ]

  pub map_in : (xs : List X) (x : X) → IsIn x xs → IsIn (f x) (map f xs)
  map_in [] x h = absurd h
  map_in (z ∷ zs) x h = elim h [ inl e ↦ inl (ap f e) | inr t ↦ inr (map_in zs x t) ]

  pub distinct_map : (xs : List X) → AreDistinct xs → ((x z : X) → IsIn x xs → IsIn z xs → f x ≡ f z → x ≡ z) → AreDistinct (map f xs)
  distinct_map [] all apart = tt
  distinct_map (x ∷ xs) all apart = (
    λ h. let found = in_map xs (f x) h in all.0 (subst (λ (w : X). IsIn w xs) (sym (apart x found.0 (inl refl) (inr found.1) found.2)) found.1),
    distinct_map xs all.1 (λ z w l r e. apart z w (inr l) (inr r) e),
  )
