-- The text at a place.
use Rattle.std.proofs.Common.{◌≡◌, ℕ, zero, suc, ◌<◌, ◌≤◌, List, [], ◌∷◌, ◌++◌, length, refl, ap, arith, Bor}
use Rattle.std.specs.Prelude.{slice_index_or}
use Rattle.json_trees.specs.Cells.{Texts, text_at}

pub text_there : (ts : Texts) (place : ℕ) (t : Bor (List ℕ)) → place < length ts → t ≡ slice_index_or ts place t → t.now ≡ text_at ts place
text_there [] place t within is = absurd (omega (arith, within))
text_there (u ∷ ts) zero t within is = ap (λ x. x.now) is
text_there (u ∷ ts) (suc place) t within is = text_there ts place t (omega (arith, within)) is

pub text_past : (ts : Texts) (place : ℕ) → length ts ≤ place → [] ≡ text_at ts place
text_past [] place past = refl
text_past (u ∷ ts) zero past = absurd (omega (arith, past))
text_past (u ∷ ts) (suc place) past = text_past ts place (omega (arith, past))

pub at_seam : (ts : Texts) (t : Bor (List ℕ)) (more : Texts) → text_at (ts ++ t ∷ more) (length ts) ≡ t.now
at_seam [] t more = refl
at_seam (u ∷ ts) t more = at_seam ts t more
