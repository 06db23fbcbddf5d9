-- Stored lists: read at a place, and extended.
use Rattle.std.proofs.Common.{◌≡◌, ℕ, zero, suc, List, [], ◌∷◌, ◌++◌, None, refl, get_or}
use Rattle.std.specs.Prelude.{slice_get}

-- past the end the default is read
pub read_none : {A : Type 0} (xs : List A) (place : ℕ) (default : A) → slice_get xs place ≡ None → default ≡ get_or xs place default
read_none [] place default is = refl
read_none (x ∷ xs) zero default is = cc
read_none (x ∷ xs) (suc place) default is = read_none xs place default is

-- one more default at the end
pub push_default : {A : Type 0} (xs : List A) (default : A) (place : ℕ) → get_or (xs ++ default ∷ []) place default ≡ get_or xs place default
push_default [] default zero = refl
push_default [] default (suc place) = refl
push_default (x ∷ xs) default zero = refl
push_default (x ∷ xs) default (suc place) = push_default xs default place
