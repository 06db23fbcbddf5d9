-- Lists of values that are made of others.
use Rattle.std.proofs.Common.{ℕ, ◌≡◌, ◌+◌, ◌<◌, List, [], ◌∷◌, ◌++◌, length, get_or, map, take, sym, ap, ◌∙◌, append_assoc, append-nil}
use Rattle.std.proofs.lemmas.List.{map-append, take_more}

-- The values that were made, and what is left to be made.
pub made_more : {V X D : Type 0} (view : V → D) (json : X → D) (made more : List V) (left rest all : List X) (value : V) (x : X) →
    more ≡ made ++ value ∷ [] → left ≡ x ∷ rest → view value ≡ json x → map view made ++ map json left ≡ map json all → map view more ++ map json rest ≡ map json all
made_more view json made more left rest all value x is next same whole =
    ap (λ vs. map view vs ++ map json rest) is
    ∙ ap (λ vs. vs ++ map json rest) (map-append view made (value ∷ []))
    ∙ append_assoc (map view made) (view value ∷ []) (map json rest)
    ∙ ap (λ d. map view made ++ d ∷ map json rest) same
    ∙ ap (λ xs. map view made ++ map json xs) (sym next)
    ∙ whole

-- Where nothing is left, all were made.
pub made_all : {V X D : Type 0} (view : V → D) (json : X → D) (made : List V) (left all : List X) → left ≡ [] → map view made ++ map json left ≡ map json all → map view made ≡ map json all
made_all view json made left all none whole = sym (append-nil (map view made)) ∙ ap (λ xs. map view made ++ map json xs) (sym none) ∙ whole

-- The values that were made of the first elements, and the value of the next one.
pub made_next : {V X D : Type 0} (view : V → D) (json : X → D) (made more : List V) (xs : List X) (i : ℕ) (value : V) (x : X) →
    i < length xs → x ≡ get_or xs i x → more ≡ made ++ value ∷ [] → view value ≡ json x → map view made ≡ map json (take i xs) → map view more ≡ map json (take (i + 1) xs)
made_next view json made more xs i value x there at is same whole =
    ap (map view) is
    ∙ map-append view made (value ∷ [])
    ∙ ap (λ ds. ds ++ view value ∷ []) whole
    ∙ ap (λ d. map json (take i xs) ++ d ∷ []) (same ∙ ap json at)
    ∙ sym (ap (map json) (take_more xs i x there) ∙ map-append json (take i xs) (get_or xs i x ∷ []))
