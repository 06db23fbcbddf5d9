-- The dependents that are told, one after another.
use Rattle.std.proofs.Common.{◌≡◌, ℕ, ◌+◌, ◌<◌, Bool, true, false, List, length, get_or, take, refl, ap, sym, ◌∙◌}
use Rattle.std.specs.Prelude.{◌==◌, ◌&&◌, ◌||◌}
use Rattle.std.proofs.lemmas.List.Folds.{list_any_more}
use Rattle.propagate.proofs.Members.{or_assoc}
use Rattle.propagate.proofs.Reading.{among_readers}

-- one more dependent, which is told
pub one_told : (is_told : ℕ → Bool) (dependents : List ℕ) (i s : ℕ) (was : Bool) → i < length dependents → is_told (get_or dependents i 0) ≡ true
    → ((was || among_readers is_told (take i dependents) s) || (is_told (get_or dependents i 0) && s == get_or dependents i 0)) ≡ (was || among_readers is_told (take (i + 1) dependents) s)
one_told is_told dependents i s was within told =
    or_assoc was (among_readers is_told (take i dependents) s) (is_told (get_or dependents i 0) && s == get_or dependents i 0)
    ∙ ap (λ b. was || (among_readers is_told (take i dependents) s || b)) (turn (is_told (get_or dependents i 0)) (s == get_or dependents i 0))
    ∙ ap (λ b. was || b) (sym (list_any_more (λ dependent. (s == dependent) && is_told dependent) dependents i 0 within)) where
      turn : (a b : Bool) → (a && b) ≡ (b && a)
      turn true true = refl
      turn true false = refl
      turn false true = refl
      turn false false = refl

-- and one that is not
pub none_told : (is_told : ℕ → Bool) (dependents : List ℕ) (i s : ℕ) (was : Bool) → i < length dependents → is_told (get_or dependents i 0) ≡ false
    → (was || among_readers is_told (take i dependents) s) ≡ (was || among_readers is_told (take (i + 1) dependents) s)
none_told is_told dependents i s was within told =
    ap (λ b. was || b) (sym (list_any_more (λ dependent. (s == dependent) && is_told dependent) dependents i 0 within
    ∙ turn (among_readers is_told (take i dependents) s) (s == get_or dependents i 0) (is_told (get_or dependents i 0)) told)) where
      turn : (a b c : Bool) → c ≡ false → (a || (b && c)) ≡ a
      turn true b c e = refl
      turn false true c e = e
      turn false false c e = refl
