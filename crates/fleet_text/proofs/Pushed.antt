-- An entry that is put after all others of a table.
use Rattle.std.proofs.Common.{ℕ, ◌≡◌, ◌+◌, ◌^◌, ◌<◌, false, cond, List, [], ◌∷◌, ◌++◌, Option, Some, None, sym, refl, ap, ◌∙◌, arith}
use Rattle.std.specs.BTreeMap.{is_at}
use Rattle.std.specs.Cmp.{IsTotalOrder, eq_by_cmp_equiv}
use Rattle.std.specs.List.{AllByRecursion}
use Rattle.std.specs.List.Sorted.{IsStrictlySortedBy}
use Rattle.std.specs.Map.{keys_of, lookup, values_of}
use Rattle.std.specs.Ordering.{is_eq, ordering_reverse}
use Rattle.std.specs.declared.cmp.Ordering.{Ordering}
use Rattle.std.specs.declared.cmp.Ordering.TheVariants.{Less, Equal, Greater}
use Rattle.std.proofs.lemmas.Map.Keys.{sorted_head, sorted_tail}
use Rattle.fleet_summary.specs.Histogram.{capped}
use Rattle.fleet_summary.proofs.Tables.{read_at, read_at-added}

-- the keys of a table come before one
abbrev pub AreBefore : {K X : Type 0} → (K → K → Ordering) → List (K × X) → K → Type 0
AreBefore R es key = AllByRecursion (λ other. R other key ≡ Less) (keys_of es)

pub keys-push : {K X : Type 0} (P : K → Type 0) (es : List (K × X)) (key : K) (value : X) → AllByRecursion P (keys_of es) → P key → AllByRecursion P (keys_of (es ++ (key, value) ∷ []))
keys-push P [] key value each own = (own, tt)
keys-push P (e ∷ es) key value each own = (each.0, keys-push P es key value each.1 own)

pub values-push : {K X : Type 0} (P : X → Type 0) (es : List (K × X)) (key : K) (value : X) → AllByRecursion P (values_of es) → P value → AllByRecursion P (values_of (es ++ (key, value) ∷ []))
values-push P [] key value each own = (own, tt)
values-push P (e ∷ es) key value each own = (each.0, values-push P es key value each.1 own)

pub sorted-push : {K X : Type 0} (R : K → K → Ordering) (es : List (K × X)) (key : K) (value : X) → IsStrictlySortedBy R (keys_of es) → AreBefore R es key → IsStrictlySortedBy R (keys_of (es ++ (key, value) ∷ []))
unfolding IsStrictlySortedBy
sorted-push R [] key value sorted before = (tt, tt)
sorted-push R (e ∷ es) key value sorted before = (keys-push (λ other. R e.0 other ≡ Less) es key value sorted.0 before.0, sorted-push R es key value sorted.1 before.1)

later_first : {K X : Type 0} {R : K → K → Ordering} (o : IsTotalOrder R) (key other first : K) (value own : X) → R first key ≡ Less → R other first ≡ Equal → Some own ≡ cond (is_eq (R key other)) (Some value) (Some own)
later_first {R = R} o key other first value own before tied =
    let turned : is_eq (R key other) ≡ is_eq (R other key) = (eq_by_cmp_equiv o).symm key other in
    let apart : is_eq (R other key) ≡ false = ap is_eq (o.congr other first key tied ∙ before) in
    sym (ap (λ b. cond b (Some value) (Some own)) (turned ∙ apart))

pub lookup-push : {K X : Type 0} {R : K → K → Ordering} (o : IsTotalOrder R) (es : List (K × X)) (key : K) (value : X) → AreBefore R es key → (other : K) →
    lookup (is_at (R other)) (es ++ (key, value) ∷ []) ≡ cond (is_at (R key) other) (Some value) (lookup (is_at (R other)) es)
lookup-push {R = R} o [] key value before other = ap (λ b. cond b (Some value) None) ((eq_by_cmp_equiv o).symm other key)
lookup-push {R = R} o (e ∷ es) key value before other =
    elim (R other e.0) as (λ r. R other e.0 ≡ r → cond (is_eq r) (Some e.1) (lookup (is_at (R other)) (es ++ (key, value) ∷ [])) ≡ cond (is_at (R key) other) (Some value) (cond (is_eq r) (Some e.1) (lookup (is_at (R other)) es))) [
      | Less ↦ λ is. lookup-push o es key value before.1 other
      | Equal ↦ λ is. later_first o key other e.0 value e.1 before.0 is
      | Greater ↦ λ is. lookup-push o es key value before.1 other
    ] refl

lookup-before : {K X : Type 0} {R : K → K → Ordering} (o : IsTotalOrder R) (es : List (K × X)) (key : K) → AreBefore R es key → lookup (is_at (R key)) es ≡ None
lookup-before o [] key before = refl
lookup-before {R = R} o (e ∷ es) key before =
    ap (λ r. cond (is_eq r) (Some e.1) (lookup (is_at (R key)) es)) (o.antisymm key e.0 ∙ ap ordering_reverse before.0) ∙ lookup-before o es key before.1

-- what is read of a table to which an entry was put is what was read there, and what the entry adds
pub read_at-push : {K X : Type 0} {R : K → K → Ordering} (o : IsTotalOrder R) (reads : Option X → ℕ) (es : List (K × X)) (key : K) (value : X) → reads None ≡ 0 → reads (Some value) < 2 ^ 64 →
    ((other : K) → read_at R reads es other < 2 ^ 64) → AreBefore R es key →
    (other : K) → read_at R reads (es ++ (key, value) ∷ []) other ≡ capped (read_at R reads es other + cond (is_eq (R other key)) (reads (Some value)) 0)
read_at-push {R = R} o reads es key value none few fits before =
    let nothing : read_at R reads es key ≡ 0 = ap reads (lookup-before o es key before) ∙ none in
    read_at-added o reads es (es ++ (key, value) ∷ []) key (Some value) (reads (Some value)) (omega (arith, nothing)) fits (lookup-push o es key value before)

-- ---- of the entries of a table in order

pub key_there : {K X : Type 0} (P : K → Type 0) (front : List (K × X)) (own : K × X) (rest : List (K × X)) → AllByRecursion P (keys_of (front ++ own ∷ rest)) → P own.0
key_there P [] own rest each = each.0
key_there P (e ∷ es) own rest each = key_there P es own rest each.1

pub value_there : {K X : Type 0} (P : X → Type 0) (front : List (K × X)) (own : K × X) (rest : List (K × X)) → AllByRecursion P (values_of (front ++ own ∷ rest)) → P own.1
value_there P [] own rest each = each.0
value_there P (e ∷ es) own rest each = value_there P es own rest each.1

pub before_there : {K X : Type 0} (R : K → K → Ordering) (front : List (K × X)) (own : K × X) (rest : List (K × X)) → IsStrictlySortedBy R (keys_of (front ++ own ∷ rest)) → AreBefore R front own.0
before_there R [] own rest sorted = tt
before_there R (e ∷ es) own rest sorted =
    (key_there (λ other. R e.0 other ≡ Less) es own rest (sorted_head R e.0 (keys_of (es ++ own ∷ rest)) sorted), before_there R es own rest (sorted_tail R e.0 (keys_of (es ++ own ∷ rest)) sorted))
