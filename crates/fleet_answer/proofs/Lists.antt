-- Lists that are made from others.
use Rattle.std.proofs.Common.{ℕ, ◌≡◌, ◌+◌, ◌<◌, ◌≤◌, List, [], ◌∷◌, ◌++◌, length, get_or, map, take, sym, ap, ◌∙◌, subst, append_assoc, append-nil}
use Rattle.std.specs.List.{AllZip}
use Rattle.std.proofs.lemmas.List.{take_all, take_more}

-- The rows that were made, and what is left to be made.
pub rows_more : {V X : Type 0} (row : X → V) (made more : List V) (left rest all : List X) (value : V) (x : X) →
    more ≡ made ++ value ∷ [] → left ≡ x ∷ rest → value ≡ row x → made ++ map row left ≡ map row all → more ++ map row rest ≡ map row all
rows_more row made more left rest all value x is next same whole =
    ap (λ vs. vs ++ map row rest) is
    ∙ append_assoc made (value ∷ []) (map row rest)
    ∙ ap (λ v. made ++ v ∷ map row rest) same
    ∙ ap (λ xs. made ++ map row xs) (sym next)
    ∙ whole

-- Where nothing is left, all were made.
pub rows_all : {V X : Type 0} (row : X → V) (made : List V) (left all : List X) → left ≡ [] → made ++ map row left ≡ map row all → made ≡ map row all
rows_all row made left all none whole = sym (append-nil made) ∙ ap (λ xs. made ++ map row xs) (sym none) ∙ whole

zip_push : {X V : Type 0} (is_row : X → V → Type 0) (xs : List X) (rows : List V) (x : X) (row : V) → AllZip is_row xs rows → is_row x row → AllZip is_row (xs ++ x ∷ []) (rows ++ row ∷ [])
zip_push is_row [] [] x row are is = (is, tt)
zip_push is_row (y ∷ xs) (other ∷ rows) x row are is = (are.0, zip_push is_row xs rows x row are.1 is)
zip_push is_row [] (other ∷ rows) x row are is = absurd are
zip_push is_row (y ∷ xs) [] x row are is = absurd are

-- The rows of the first elements, and that of the next one.
pub zip_next : {X V : Type 0} (is_row : X → V → Type 0) (rows more : List V) (xs : List X) (i : ℕ) (row : V) (x : X) →
    i < length xs → x ≡ get_or xs i x → more ≡ rows ++ row ∷ [] → is_row x row → AllZip is_row (take i xs) rows → AllZip is_row (take (i + 1) xs) more
zip_next {X} is_row rows more xs i row x there at is own are =
    subst (λ (those : List X). AllZip is_row those more) (ap (λ y. take i xs ++ y ∷ []) at ∙ sym (take_more xs i x there))
    (subst (AllZip is_row (take i xs ++ x ∷ [])) (sym is) (zip_push is_row (take i xs) rows x row are own))

-- Where none is left, each has its row.
pub zip_all : {X V : Type 0} (is_row : X → V → Type 0) (rows : List V) (xs : List X) (i : ℕ) → length xs ≤ i → AllZip is_row (take i xs) rows → AllZip is_row xs rows
zip_all {X} is_row rows xs i past are = subst (λ (those : List X). AllZip is_row those rows) (take_all i xs past) are
