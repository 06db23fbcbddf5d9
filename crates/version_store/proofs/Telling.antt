-- What a list answers past its end.
use Rattle.std.proofs.Common.{◌≡◌, ℕ, zero, suc, List, [], ◌∷◌, Option, None, Some, refl, arith, get_or, length}
use Rattle.std.specs.Prelude.{slice_get}
use Rattle.stage_graph.specs.declared.stage.Stage.{Stage}
use Rattle.stage_graph.specs.Plain.{stage_at}

pub told_past : {A : Type 0} (xs : List A) (place : ℕ) (default : A) → slice_get xs place ≡ None → default ≡ get_or xs place default
told_past [] place default is = refl
told_past (x ∷ xs) zero default is = cc
told_past (x ∷ xs) (suc place) default is = told_past xs place default is

-- what it answers where something stands
pub told_at : {A : Type 0} (xs : List A) (place : ℕ) (default x : A) → slice_get xs place ≡ Some x → get_or xs place default ≡ x
told_at [] place default x is = cc
told_at (y ∷ ys) zero default x is = cc
told_at (y ∷ ys) (suc place) default x is = told_at ys place default x is

-- no stage stands where a list of as many has nothing
pub empty_past : {A : Type 0} (xs : List A) (stages : List (Option Stage)) (place : ℕ) → length xs ≡ length stages → slice_get xs place ≡ None → stage_at stages place ≡ None
empty_past [] [] place same is = refl
empty_past [] (stage ∷ stages) place same is = cc
empty_past (x ∷ xs) [] place same is = cc
empty_past (x ∷ xs) (stage ∷ stages) zero same is = cc
empty_past (x ∷ xs) (stage ∷ stages) (suc place) same is = empty_past xs stages place (omega arith) is
