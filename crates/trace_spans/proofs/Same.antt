-- Whether two lists are the same, place by place.
use Rattle.std.proofs.Common.{◌≡◌, ℕ, ◌+◌, ◌<◌, List, [], ◌∷◌, ◌++◌, length, get_or, take, sym, ap, ◌∙◌, arith}
use Rattle.std.proofs.lemmas.List.{get_or_default, take_all, take_more}

pub more_same : {X : Type 0} (xs ys : List X) (i : ℕ) (x y : X) → i < length xs → i < length ys → x ≡ get_or xs i x → y ≡ get_or ys i y → x ≡ y → take i xs ≡ take i ys → take (i + 1) xs ≡ take (i + 1) ys
more_same xs ys i x y lt within e f same so_far =
    take_more xs i x lt
    ∙ ap (λ front. front ++ get_or xs i x ∷ []) so_far
    ∙ ap (λ z. take i ys ++ z ∷ []) (sym e ∙ same ∙ f)
    ∙ sym (take_more ys i y within)

pub apart_at : {X : Type 0} (xs ys : List X) (i : ℕ) (x y : X) → i < length ys → x ≡ get_or xs i x → y ≡ get_or ys i y → (x ≡ y → ⊥) → xs ≡ ys → ⊥
apart_at xs ys i x y within e f apart same = apart (e ∙ ap (λ zs. get_or zs i x) same ∙ get_or_default ys i x y within ∙ sym f)

pub all_same : {X : Type 0} (xs ys : List X) (n : ℕ) → length xs ≡ n → length ys ≡ n → take n xs ≡ take n ys → xs ≡ ys
all_same xs ys n long as_long same = sym (take_all n xs (omega arith)) ∙ same ∙ take_all n ys (omega arith)
