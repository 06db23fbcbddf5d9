-- What was found at a place of a list.
use Rattle.std.proofs.Common.{◌≡◌, ℕ, ℤ, List, [], ◌∷◌, Bor, length, Option, Some, None, refl, sym, subst, arith}
use Rattle.std.specs.Prelude.{IfSome, slice_get}
use Rattle.std.specs.Option.{option_copied}
use Rattle.std.specs.Slice.{IsItemAt}
use Rattle.std.proofs.lemmas.Option.{none-some, same_Some, slice_get_past, slice_get_read}
use Rattle.trace_relations.specs.KeptMoves.{IsAtMost}

pub got : {X : Type 0} (xs : List X) (i : ℕ) (x : Bor X) → IsItemAt xs i (Some x) → slice_get xs i ≡ Some x.now
got xs i x is = slice_get_read xs (length xs) i x.now refl is.3.0 is.1

pub got_none : {X : Type 0} (xs : List X) (i : ℕ) → IsItemAt xs i None → slice_get xs i ≡ None
got_none xs i is = slice_get_past xs i is.3

pub copied_at : {X : Type 0} (xs : List X) (i : ℕ) (r : Option (Bor X)) → IsItemAt xs i r → option_copied r ≡ slice_get xs i
copied_at xs i None is = sym (got_none xs i is)
copied_at xs i (Some x) is = sym (got xs i x is)

-- a bound of which it is known
pub if_some : (m : ℕ) (o : Option ℤ) (by : ℤ) → o ≡ Some by → IfSome o (IsAtMost m) → IsAtMost m by
if_some m None by is at = absurd (none-some by is)
if_some m (Some other) by is at = subst (IsAtMost m) (same_Some other by is) at

pub no_items : {X : Type 0} (xs : List X) → length xs ≡ 0 → xs ≡ []
no_items [] none = refl
no_items (x ∷ xs) none = absurd (omega arith)
