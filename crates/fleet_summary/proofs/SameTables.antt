-- Tables in order of their keys that answer alike are the same.
use Rattle.std.proofs.Common.{ℕ, ◌≡◌, ◌<◌, cond, List, [], ◌∷◌, Option, Some, None, IfSome, unwrap_or, sym, refl, ap, ◌∙◌, arith}
use Rattle.std.specs.BTreeMap.{is_at}
use Rattle.std.specs.Cmp.{IsTotalOrder}
use Rattle.std.specs.List.{AllByRecursion}
use Rattle.std.specs.List.Sorted.{IsStrictlySortedBy}
use Rattle.std.specs.Map.{keys_of, lookup}
use Rattle.std.specs.Ordering.{is_eq, ordering_reverse}
use Rattle.std.specs.declared.cmp.Ordering.{Ordering}
use Rattle.std.specs.declared.cmp.Ordering.TheVariants.{Less, Equal, Greater}
use Rattle.std.proofs.lemmas.Cmp.{tied_itself}
use Rattle.std.proofs.lemmas.Map.Keys.{sorted_head, sorted_tail}
use Rattle.fleet_summary.proofs.Tables.{above_tied}

not_found : {K X : Type 0} (R : K → K → Ordering) (key : K) (es : List (K × X)) → AllByRecursion (λ other. R key other ≡ Less) (keys_of es) → lookup (is_at (R key)) es ≡ None
not_found R key [] above = refl
not_found R key (e ∷ es) above = ap (λ r. cond (is_eq r) (Some e.1) (lookup (is_at (R key)) es)) above.0 ∙ not_found R key es above.1

found : {K X : Type 0} {R : K → K → Ordering} (o : IsTotalOrder R) (e : K × X) (es : List (K × X)) → lookup (is_at (R e.0)) (e ∷ es) ≡ Some e.1
found {R = R} o e es = ap (λ r. cond (is_eq r) (Some e.1) (lookup (is_at (R e.0)) es)) (tied_itself o e.0)

above_less : {K : Type 0} {R : K → K → Ordering} (o : IsTotalOrder R) (key first : K) (keys : List K) → R key first ≡ Less → AllByRecursion (λ other. R first other ≡ Less) keys → AllByRecursion (λ other. R key other ≡ Less) keys
above_less o key first [] less above = tt
above_less o key first (k ∷ ks) less above = (o.trans key first k less above.0, above_less o key first ks less above.1)

no_clash : {X : Type 0} (x : X) → Some x ≡ None → ⊥
no_clash x e = cc

-- a key below the first of a table is not in it
missed : {K X : Type 0} {R : K → K → Ordering} (o : IsTotalOrder R) (e f : K × X) (es fs : List (K × X)) → R e.0 f.0 ≡ Less → IsStrictlySortedBy R (keys_of (f ∷ fs)) →
    lookup (is_at (R e.0)) (e ∷ es) ≡ lookup (is_at (R e.0)) (f ∷ fs) → ⊥
missed {R = R} o e f es fs less ordered same =
    no_clash e.1 (sym (found o e es) ∙ same ∙ not_found R e.0 (f ∷ fs) (less, above_less o e.0 f.0 (keys_of fs) less (sorted_head R f.0 (keys_of fs) ordered)))

tails : {K X : Type 0} {R : K → K → Ordering} (o : IsTotalOrder R) (e f : K × X) (es fs : List (K × X)) → e.0 ≡ f.0 → IsStrictlySortedBy R (keys_of (e ∷ es)) → IsStrictlySortedBy R (keys_of (f ∷ fs)) →
    (key : K) → lookup (is_at (R key)) (e ∷ es) ≡ lookup (is_at (R key)) (f ∷ fs) → lookup (is_at (R key)) es ≡ lookup (is_at (R key)) fs
tails {R = R} o e f es fs keys ordered others key same =
    let first : (r : Ordering) → R key e.0 ≡ r → lookup (is_at (R key)) (e ∷ es) ≡ cond (is_eq r) (Some e.1) (lookup (is_at (R key)) es) =
    λ r is. ap (λ s. cond (is_eq s) (Some e.1) (lookup (is_at (R key)) es)) is in
    let second : (r : Ordering) → R key e.0 ≡ r → lookup (is_at (R key)) (f ∷ fs) ≡ cond (is_eq r) (Some f.1) (lookup (is_at (R key)) fs) =
    λ r is. ap (λ s. cond (is_eq s) (Some f.1) (lookup (is_at (R key)) fs)) (sym (ap (R key) keys) ∙ is) in
    elim (R key e.0) as (λ r. R key e.0 ≡ r → lookup (is_at (R key)) es ≡ lookup (is_at (R key)) fs) [
      | Less ↦ λ is. sym (first Less is) ∙ same ∙ second Less is
      | Equal ↦ λ is.
          not_found R key es (above_tied o key e.0 (keys_of es) is (sorted_head R e.0 (keys_of es) ordered))
          ∙ sym (not_found R key fs (above_tied o key f.0 (keys_of fs) (sym (ap (R key) keys) ∙ is) (sorted_head R f.0 (keys_of fs) others)))
      | Greater ↦ λ is. sym (first Greater is) ∙ same ∙ second Greater is
    ] refl

pub same_table : {K X : Type 0} {R : K → K → Ordering} (o : IsTotalOrder R) → ((x y : K) → R x y ≡ Equal → x ≡ y) → (es fs : List (K × X)) → IsStrictlySortedBy R (keys_of es) → IsStrictlySortedBy R (keys_of fs) →
    ((key : K) → lookup (is_at (R key)) es ≡ lookup (is_at (R key)) fs) → es ≡ fs
same_table o exact [] [] ordered others same = refl
same_table o exact [] (f ∷ fs) ordered others same = absurd (no_clash f.1 (sym (found o f fs) ∙ sym (same f.0)))
same_table o exact (e ∷ es) [] ordered others same = absurd (no_clash e.1 (sym (found o e es) ∙ same e.0))
same_table {R = R} o exact (e ∷ es) (f ∷ fs) ordered others same =
    elim (R e.0 f.0) as (λ r. R e.0 f.0 ≡ r → e ∷ es ≡ f ∷ fs) [
      | Less ↦ λ is. absurd (missed o e f es fs is others (same e.0))
      | Equal ↦ λ is.
          let keys : e.0 ≡ f.0 = exact e.0 f.0 is in
          let both : Some e.1 ≡ Some f.1 = sym (found o e es) ∙ same e.0 ∙ ap (λ r. cond (is_eq r) (Some f.1) (lookup (is_at (R e.0)) fs)) is in
          let values : e.1 ≡ f.1 = ap (λ v. unwrap_or v e.1) both in
          let rest : es ≡ fs = same_table o exact es fs (sorted_tail R e.0 (keys_of es) ordered) (sorted_tail R f.0 (keys_of fs) others) (λ key. tails o e f es fs keys ordered others key (same key)) in
          λ i. (keys i, values i) ∷ rest i
      | Greater ↦ λ is. absurd (missed o f e fs es (o.antisymm f.0 e.0 ∙ ap ordering_reverse is) ordered (sym (same f.0)))
    ] refl

-- numbers above 0 are found alike where they are read alike
pub same_numbers : (first second : Option ℕ) → IfSome first (λ n. 0 < n) → IfSome second (λ n. 0 < n) → unwrap_or first 0 ≡ unwrap_or second 0 → first ≡ second
same_numbers None None some more same = refl
same_numbers None (Some n) some more same = absurd (omega arith)
same_numbers (Some n) None some more same = absurd (omega arith)
same_numbers (Some n) (Some m) some more same = ap (λ k. Some k) same
