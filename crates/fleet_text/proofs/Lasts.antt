-- The last key of a table, against another one.
use Rattle.std.proofs.Common.{ℕ, zero, suc, ◌≡◌, Bool, true, false, List, [], ◌∷◌, Some, Decides, sym, refl, ap, ◌∙◌, subst}
use Rattle.std.specs.Cmp.{IsTotalOrder}
use Rattle.std.specs.List.{All, AllByRecursion, slice_get}
use Rattle.std.specs.Map.{keys_of}
use Rattle.std.specs.Ordering.{is_lt, ordering_reverse}
use Rattle.std.specs.declared.cmp.Ordering.{Ordering}
use Rattle.std.specs.declared.cmp.Ordering.TheVariants.{Less, Equal, Greater}
use Rattle.std.proofs.lemmas.Bool.{false≢true}
use Rattle.std.proofs.lemmas.List.Elements.{All-from_recursion, recursion_from_All}

is_less : (r : Ordering) → is_lt r ≡ true → r ≡ Less
is_less Less is = refl
is_less Equal is = absurd (false≢true is)
is_less Greater is = absurd (false≢true is)

-- what is not above the last is below what the last is below
not_above : {K : Type 0} {R : K → K → Ordering} (o : IsTotalOrder R) (last key other : K) → R last key ≡ Less → is_lt (R last other) ≡ false → R other key ≡ Less
not_above {R = R} o last key other below not_less =
    elim (R last other) as (λ r. R last other ≡ r → R other key ≡ Less) [
      | Less ↦ λ is. absurd (false≢true (sym not_less ∙ ap is_lt is))
      | Equal ↦ λ is. sym (o.congr last other key is) ∙ below
      | Greater ↦ λ is. o.trans other last key (o.antisymm other last ∙ ap ordering_reverse is) below
    ] refl

each_below : {K : Type 0} {R : K → K → Ordering} (o : IsTotalOrder R) (last key : K) (keys : List K) → R last key ≡ Less → AllByRecursion (λ other. is_lt (R last other) ≡ false) keys → AllByRecursion (λ other. R other key ≡ Less) keys
each_below o last key [] below none = tt
each_below o last key (k ∷ ks) below none = (not_above o last key k below none.0, each_below o last key ks below none.1)

key_at : {K X : Type 0} (P : K → Type 0) (es : List (K × X)) (i : ℕ) (key : K) (value : X) → slice_get es i ≡ Some (key, value) → AllByRecursion P (keys_of es) → P key
key_at P [] i key value there each = absurd (cc there)
key_at {K = K} {X = X} P (e ∷ es) zero key value there each =
    let same : e ≡ (key, value) = cc in
    subst P (ap (λ (p : K × X). p.0) same) each.0
key_at P (e ∷ es) (suc i) key value there each = key_at P es i key value there each.1

pub last_decides : {K X : Type 0} {R : K → K → Ordering} (o : IsTotalOrder R) (es : List (K × X)) (i : ℕ) (last : K) (own : X) (key : K) (result : Bool) → slice_get es i ≡ Some (last, own) → All (λ other. is_lt (R last other) ≡ false) (keys_of es) → result ≡ is_lt (R last key) →
    Decides result (All (λ other. R other key ≡ Less) (keys_of es))
last_decides {R = R} o es i last own key result there none is = (
  λ yes.
      All-from_recursion (λ other. R other key ≡ Less) (keys_of es)
      (each_below o last key (keys_of es) (is_less (R last key) (sym is ∙ yes)) (recursion_from_All (λ other. is_lt (R last other) ≡ false) (keys_of es) none)),
  λ each. is ∙ ap is_lt (key_at (λ other. R other key ≡ Less) es i last own there (recursion_from_All (λ other. R other key ≡ Less) (keys_of es) each)),
)
