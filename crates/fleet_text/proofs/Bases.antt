-- Whether what summaries are of is the same.
use Rattle.std.proofs.Common.{ℕ, ◌≡◌, List, Bool, Some, Decides, bytes_eq, sym, ap, ◌∙◌}
use Rattle.std.proofs.lemmas.Option.{same_Some}
use Rattle.std.proofs.lemmas.Slice.Eq.{bytes_eq-Decides}

pub some_same : (x y : List ℕ) (result : Bool) → result ≡ bytes_eq x y → Decides result (Some x ≡ Some y)
some_same x y result is = (λ yes. ap (λ (text : List ℕ). Some text) ((bytes_eq-Decides x y).0 (sym is ∙ yes)), λ same. is ∙ (bytes_eq-Decides x y).1 (same_Some x y same))
