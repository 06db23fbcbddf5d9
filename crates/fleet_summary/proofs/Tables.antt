-- Tables in the order of their keys, each entry read as a number.
use Rattle.std.proofs.Common.{ℕ, ◌≡◌, ◌+◌, ◌^◌, ◌<◌, cond, List, [], ◌∷◌, Option, Some, None, sum_by, sym, refl, ap, ◌∙◌, arith}
use Rattle.std.specs.BTreeMap.{is_at}
use Rattle.std.specs.Cmp.{IsTotalOrder, eq_by_cmp_equiv}
use Rattle.std.specs.List.{AllByRecursion}
use Rattle.std.specs.List.Sorted.{IsStrictlySortedBy}
use Rattle.std.specs.Map.{keys_of, lookup}
use Rattle.std.specs.Ordering.{is_eq}
use Rattle.std.specs.declared.cmp.Ordering.{Ordering}
use Rattle.std.specs.declared.cmp.Ordering.TheVariants.{Less, Equal, Greater}
use Rattle.std.proofs.lemmas.List.Sums.{sum_by-cons}
use Rattle.std.proofs.lemmas.Map.Keys.{sorted_head, sorted_tail}
use Rattle.fleet_summary.specs.Histogram.{capped}

-- what is read at a key
abbrev pub read_at : {K X : Type 0} → (K → K → Ordering) → (Option X → ℕ) → List (K × X) → K → ℕ
read_at R reads es key = reads (lookup (is_at (R key)) es)

-- what an entry adds there
abbrev pub entry_at : {K X : Type 0} → (K → K → Ordering) → (Option X → ℕ) → K → K × X → ℕ
entry_at R reads key e = cond (is_eq (R key e.0)) (reads (Some e.1)) 0

abbrev pub sum_at : {K X : Type 0} → (K → K → Ordering) → (Option X → ℕ) → List (K × X) → K → ℕ
sum_at R reads es key = sum_by (entry_at R reads key) es

none_at : {K X : Type 0} (R : K → K → Ordering) (reads : Option X → ℕ) (key : K) (es : List (K × X)) → AllByRecursion (λ other. R key other ≡ Less) (keys_of es) → sum_at R reads es key ≡ 0
none_at R reads key [] above = refl
none_at R reads key (e ∷ es) above =
    let here : entry_at R reads key e ≡ 0 = ap (λ r. cond (is_eq r) (reads (Some e.1)) 0) above.0 in
    omega (arith, sum_by-cons (entry_at R reads key) e es, here, none_at R reads key es above.1)

pub above_tied : {K : Type 0} {R : K → K → Ordering} (o : IsTotalOrder R) (key first : K) (keys : List K) → R key first ≡ Equal → AllByRecursion (λ other. R first other ≡ Less) keys → AllByRecursion (λ other. R key other ≡ Less) keys
above_tied o key first [] tied above = tt
above_tied o key first (k ∷ ks) tied above = (o.congr key first k tied ∙ above.0, above_tied o key first ks tied above.1)

-- where the keys are in order, the sum of what the entries add is what is read
pub sum_at-ordered : {K X : Type 0} {R : K → K → Ordering} (o : IsTotalOrder R) (reads : Option X → ℕ) → reads None ≡ 0 → (es : List (K × X)) → IsStrictlySortedBy R (keys_of es) → (key : K) → sum_at R reads es key ≡ read_at R reads es key
sum_at-ordered {R = R} o reads none [] ordered key = sym none
sum_at-ordered {R = R} o reads none (e ∷ es) ordered key =
    let rest : sum_at R reads es key ≡ read_at R reads es key = sum_at-ordered o reads none es (sorted_tail R e.0 (keys_of es) ordered) key in
    let more : sum_at R reads (e ∷ es) key ≡ entry_at R reads key e + sum_at R reads es key = sum_by-cons (entry_at R reads key) e es in
    elim (R key e.0) as (λ r. R key e.0 ≡ r → sum_at R reads (e ∷ es) key ≡ read_at R reads (e ∷ es) key) [
      | Less ↦ λ is.
          let here : entry_at R reads key e ≡ 0 = ap (λ r. cond (is_eq r) (reads (Some e.1)) 0) is in
          let passed : read_at R reads (e ∷ es) key ≡ read_at R reads es key = ap (λ r. reads (cond (is_eq r) (Some e.1) (lookup (is_at (R key)) es))) is in
          omega (arith, rest, more, here, passed)
      | Equal ↦ λ is.
          let here : entry_at R reads key e ≡ reads (Some e.1) = ap (λ r. cond (is_eq r) (reads (Some e.1)) 0) is in
          let found : read_at R reads (e ∷ es) key ≡ reads (Some e.1) = ap (λ r. reads (cond (is_eq r) (Some e.1) (lookup (is_at (R key)) es))) is in
          let later : sum_at R reads es key ≡ 0 = none_at R reads key es (above_tied o key e.0 (keys_of es) is (sorted_head R e.0 (keys_of es) ordered)) in
          omega (arith, later, more, here, found)
      | Greater ↦ λ is.
          let here : entry_at R reads key e ≡ 0 = ap (λ r. cond (is_eq r) (reads (Some e.1)) 0) is in
          let passed : read_at R reads (e ∷ es) key ≡ read_at R reads es key = ap (λ r. reads (cond (is_eq r) (Some e.1) (lookup (is_at (R key)) es))) is in
          omega (arith, rest, more, here, passed)
    ] refl

lookup_tied : {K X : Type 0} {R : K → K → Ordering} (o : IsTotalOrder R) (key other : K) (es : List (K × X)) → R key other ≡ Equal → lookup (is_at (R key)) es ≡ lookup (is_at (R other)) es
lookup_tied o key other [] tied = refl
lookup_tied {R = R} o key other (e ∷ es) tied =
    ap (λ r. cond (is_eq r) (Some e.1) (lookup (is_at (R key)) es)) (o.congr key other e.0 tied)
    ∙ ap (λ found. cond (is_eq (R other e.0)) (Some e.1) found) (lookup_tied o key other es tied)

-- After a number was added at a key, it stands there, and what stands at the other keys is as it was.
pub read_at-added : {K X : Type 0} {R : K → K → Ordering} (o : IsTotalOrder R) (reads : Option X → ℕ) (before after : List (K × X)) (key : K) (put : Option X) (number : ℕ) →
    reads put ≡ capped (read_at R reads before key + number) → ((other : K) → read_at R reads before other < 2 ^ 64) →
    ((other : K) → lookup (is_at (R other)) after ≡ cond (is_at (R key) other) put (lookup (is_at (R other)) before)) →
    (other : K) → read_at R reads after other ≡ capped (read_at R reads before other + cond (is_eq (R other key)) number 0)
read_at-added {R = R} o reads before after key put number is fits updates other =
    let turned : is_eq (R key other) ≡ is_eq (R other key) = (eq_by_cmp_equiv o).symm key other in
    elim (R other key) as (λ r. R other key ≡ r → read_at R reads after other ≡ capped (read_at R reads before other + cond (is_eq r) number 0)) [
      | Less ↦ λ there.
          let kept : read_at R reads after other ≡ read_at R reads before other =
          ap reads (updates other) ∙ ap (λ b. reads (cond b put (lookup (is_at (R other)) before))) (turned ∙ ap is_eq there) in
          omega (arith, kept, fits other)
      | Equal ↦ λ there.
          let set : read_at R reads after other ≡ reads put =
          ap reads (updates other) ∙ ap (λ b. reads (cond b put (lookup (is_at (R other)) before))) (turned ∙ ap is_eq there) in
          let own : read_at R reads before other ≡ read_at R reads before key = ap reads (lookup_tied o other key before there) in
          omega (arith, set, own, is)
      | Greater ↦ λ there.
          let kept : read_at R reads after other ≡ read_at R reads before other =
          ap reads (updates other) ∙ ap (λ b. reads (cond b put (lookup (is_at (R other)) before))) (turned ∙ ap is_eq there) in
          omega (arith, kept, fits other)
    ] refl

-- What was added of a table, and what is left of it, come to the whole.
abbrev pub IsPart : {K X : Type 0} → (K → K → Ordering) → (Option X → ℕ) → (K → ℕ) → (K → ℕ) → List (K × X) → List (K × X) → Type 0
IsPart {K} R reads before now added left = (key : K) → capped (now key + sum_at R reads left key) ≡ capped (before key + sum_at R reads added key)

pub IsPart-none : {K X : Type 0} (R : K → K → Ordering) (reads : Option X → ℕ) (before : K → ℕ) (added left : List (K × X)) → left ≡ added → IsPart R reads before before added left
IsPart-none R reads before added left is key = ap (λ es. capped (before key + sum_at R reads es key)) is

pub IsPart-more : {K X : Type 0} (R : K → K → Ordering) (reads : Option X → ℕ) (before now later : K → ℕ) (added left rest : List (K × X)) (own : K) (value : X) →
    left ≡ (own, value) ∷ rest → IsPart R reads before now added left → ((key : K) → later key ≡ capped (now key + cond (is_eq (R key own)) (reads (Some value)) 0)) → IsPart R reads before later added rest
IsPart-more R reads before now later added left rest own value is part adds key =
    let more : sum_at R reads left key ≡ cond (is_eq (R key own)) (reads (Some value)) 0 + sum_at R reads rest key =
    ap (λ es. sum_at R reads es key) is ∙ sum_by-cons (entry_at R reads key) (own, value) rest in
    let whole : capped (now key + sum_at R reads left key) ≡ capped (before key + sum_at R reads added key) = part key in
    let next : later key ≡ capped (now key + cond (is_eq (R key own)) (reads (Some value)) 0) = adds key in
    omega (arith, more, whole, next)

pub IsPart-all : {K X : Type 0} {R : K → K → Ordering} (o : IsTotalOrder R) (reads : Option X → ℕ) → reads None ≡ 0 → (before now : K → ℕ) (added left : List (K × X)) →
    left ≡ [] → IsPart R reads before now added left → IsStrictlySortedBy R (keys_of added) → ((key : K) → now key < 2 ^ 64) → (key : K) → now key ≡ capped (before key + read_at R reads added key)
IsPart-all {R = R} o reads nothing before now added left none part ordered fits key =
    let rest : sum_at R reads left key ≡ 0 = ap (λ es. sum_at R reads es key) none in
    let whole : capped (now key + sum_at R reads left key) ≡ capped (before key + sum_at R reads added key) = part key in
    omega (arith, rest, whole, sum_at-ordered o reads nothing added ordered key, fits key)
