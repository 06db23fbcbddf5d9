-- A list that is made item by item.
use Rattle.std.proofs.Common.{◌≡◌, ◌∙◌, ℕ, ◌+◌, ◌<◌, List, [], ◌∷◌, ◌++◌, length, take, get_or, map, sym, ap}
use Rattle.std.proofs.lemmas.List.{map_more}

pub mapped_more : {X Y : Type 0} (f : X → Y) (xs : List X) (i : ℕ) (x : X) (y : Y) (made next : List Y) → i < length xs → x ≡ get_or xs i x → y ≡ f x → made ≡ map f (take i xs) → next ≡ made ++ y ∷ [] → next ≡ map f (take (i + 1) xs)
mapped_more {X} {Y} f xs i x y made next low here is so_far added =
    added
    ∙ ap (λ (l : List Y). l ++ y ∷ []) so_far
    ∙ ap (λ (z : Y). map f (take i xs) ++ z ∷ []) (is ∙ ap f here)
    ∙ sym (map_more f xs i x low)
