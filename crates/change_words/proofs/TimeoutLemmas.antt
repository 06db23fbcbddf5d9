-- Ends that are gone over one by one.
use Rattle.std.proofs.Common.{◌≡◌, ◌∙◌, ℕ, ◌+◌, ◌<◌, List, [], ◌∷◌, ◌++◌, length, take, get_or, map, Bool, true, false, cond, Result, Ok, Err, OnOk, sym, ap}
use Rattle.std.specs.Prelude.{filter}
use Rattle.std.proofs.lemmas.List.{append-nil, map_more}
use Rattle.std.proofs.lemmas.List.Elements.{filter_more}

pub mapped_more : {X Y : Type 0} (f : X → Y) (xs : List X) (i : ℕ) (x : X) (y : Y) (made next : List Y) → i < length xs → x ≡ get_or xs i x → y ≡ f x → made ≡ map f (take i xs) → next ≡ made ++ y ∷ [] → next ≡ map f (take (i + 1) xs)
mapped_more {X} {Y} f xs i x y made next low here is so_far added =
    added
    ∙ ap (λ (l : List Y). l ++ y ∷ []) so_far
    ∙ ap (λ (z : Y). map f (take i xs) ++ z ∷ []) (is ∙ ap f here)
    ∙ sym (map_more f xs i x low)

filter_here : {X : Type 0} (p : X → Bool) (xs : List X) (i : ℕ) (x : X) → i < length xs → x ≡ get_or xs i x → filter p (take (i + 1) xs) ≡ filter p (take i xs) ++ cond (p x) (x ∷ []) []
filter_here {X} p xs i x low here =
    filter_more p xs i x low ∙ ap (λ (z : X). filter p (take i xs) ++ cond (p z) (z ∷ []) []) (sym here)

-- one element, if it passes
pub one_kept : {X : Type 0} (p : X → Bool) (x : X) (made next : List X) → p x ≡ true → next ≡ made ++ x ∷ [] → next ≡ made ++ filter p (x ∷ [])
one_kept {X} p x made next passes added = added ∙ sym (ap (λ (b : Bool). made ++ cond b (x ∷ []) []) passes)

pub one_left : {X : Type 0} (p : X → Bool) (x : X) (made : List X) → p x ≡ false → made ≡ made ++ filter p (x ∷ [])
one_left {X} p x made fails = sym (ap (λ (b : Bool). made ++ cond b (x ∷ []) []) fails ∙ append-nil made)

pub filtered_more : {X : Type 0} (p : X → Bool) (xs : List X) (i : ℕ) (x : X) (made next : List X) → i < length xs → x ≡ get_or xs i x → made ≡ filter p (take i xs) → next ≡ made ++ filter p (x ∷ []) → next ≡ filter p (take (i + 1) xs)
filtered_more {X} p xs i x made next low here so_far added =
    added
    ∙ ap (λ (l : List X). l ++ filter p (x ∷ [])) so_far
    ∙ sym (filter_here p xs i x low here)

pub if_kept : {X T E : Type 0} (r : Result T E) (p : X → Bool) (x : X) (made next : List X) → p x ≡ true → OnOk r (next ≡ made ++ x ∷ []) → OnOk r (next ≡ made ++ filter p (x ∷ []))
if_kept {X} (Ok done) p x made next passes added = one_kept p x made next passes added
if_kept {X} (Err fault) p x made next passes added = tt
