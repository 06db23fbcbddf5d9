-- The numbers of groups by their names, with one group more.
use Rattle.std.proofs.Common.{◌≡◌, ℕ, zero, suc, ◌+◌, ◌<◌, ◌≤◌, true, false, cond, List, [], ◌∷◌, ◌++◌, Some, None, length, refl, ap, sym, ◌∙◌, arith, ⊎_elim}
use Rattle.std.specs.Prelude.{slice_get}
use Rattle.std.specs.BTreeMap.{is_at}
use Rattle.std.specs.List.Sorted.{IsStrictlySortedBy}
use Rattle.std.specs.Map.{keys_of}
use Rattle.std.specs.Option.{option_map}
use Rattle.std.specs.Ordering.{is_eq, ordering_reverse}
use Rattle.std.specs.declared.cmp.Ordering.{Ordering}
use Rattle.std.specs.declared.cmp.Ordering.TheVariants.{Less, Equal, Greater}
use Rattle.std.proofs.lemmas.Bool.{cases_Bool, cases_lt, cond-false, cond-true, false≢true}
use Rattle.std.proofs.lemmas.Option.{same_Some, slice_get_past}
use Rattle.fleet_summary.specs.Names.{name_cmp}
use Rattle.fleet_summary.proofs.Keys.{name_cmp-exact, name_cmp-total}
use Rattle.span_groups.specs.declared.grouping.Group.{Group}
use Rattle.span_groups.specs.Grouping.{name_of}
use Rattle.span_groups.specs.Groups.{empty_group, number_known, AreKnown}

-- ---- one group more at the end

pub pushed_get : {A : Type 0} (list : List A) (k : ℕ) (item : A) → k < length list → slice_get (list ++ item ∷ []) k ≡ slice_get list k
pushed_get [] k item within = absurd (omega arith)
pushed_get (first ∷ list) zero item within = refl
pushed_get (first ∷ list) (suc k) item within = pushed_get list k item (omega arith)

pub pushed_last : {A : Type 0} (list : List A) (k : ℕ) (item : A) → k ≡ length list → slice_get (list ++ item ∷ []) k ≡ Some item
pushed_last [] zero item here = refl
pushed_last [] (suc k) item here = absurd (omega (arith, here))
pushed_last (first ∷ list) zero item here = absurd (omega (arith, here))
pushed_last (first ∷ list) (suc k) item here = pushed_last list k item (omega (arith, here))

pushed_past : {A : Type 0} (list : List A) (k : ℕ) (item : A) → length list < k → slice_get (list ++ item ∷ []) k ≡ None
pushed_past [] zero item past = absurd (omega arith)
pushed_past [] (suc k) item past = refl
pushed_past (first ∷ list) zero item past = absurd (omega arith)
pushed_past (first ∷ list) (suc k) item past = pushed_past list k item (omega arith)

nothing : {A : Type 0} {x : A} → None ≡ Some x → ⊥
nothing e = cc

-- what stood at a number still does
pub named_still : (groups : List Group) (group : Group) (number : ℕ) (name : List ℕ) → name_of groups number ≡ Some name → name_of (groups ++ group ∷ []) number ≡ Some name
named_still groups group number name here =
    ⊎_elim
    (λ within. ap (option_map (λ (group : Group). group.name)) (pushed_get groups number group within) ∙ here)
    (λ past. absurd (nothing (sym (ap (option_map (λ (group : Group). group.name)) (slice_get_past groups number past)) ∙ here)))
    (cases_lt number (length groups))

-- ---- and what is known then

equal_names : (one other : List ℕ) → is_at (name_cmp one) other ≡ true → one ≡ other
equal_names one other is = name_cmp-exact one other (of (name_cmp one other) is) where
  of : (order : Ordering) → is_eq order ≡ true → order ≡ Equal
  of Less is = absurd (false≢true is)
  of Equal is = refl
  of Greater is = absurd (false≢true is)

module _ (known : List (List ℕ × ℕ)) (groups : List Group) (are : AreKnown known groups) (name : List ℕ) (fresh : number_known known name ≡ None)
    (then : List (List ℕ × ℕ)) (updates : (other : List ℕ) → number_known then other ≡ (cond (is_at (name_cmp name) other) (Some (length groups)) (number_known known other))) where
  there_then : (other : List ℕ) (number : ℕ) → number_known then other ≡ Some number → name_of (groups ++ empty_group name ∷ []) number ≡ Some other
  there_then other number is =
      ⊎_elim
      (λ same.
      let own : name ≡ other = equal_names name other same in
      let here : length groups ≡ number = same_Some (length groups) number (sym (updates other ∙ cond-true (is_at (name_cmp name) other) (Some (length groups)) (number_known known other) same) ∙ is) in
      ap (option_map (λ (group : Group). group.name)) (pushed_last groups number (empty_group name) (sym here)) ∙ ap (λ (name : List ℕ). Some name) own)
      (λ apart.
      named_still groups (empty_group name) number other
      (are.there other number (sym (updates other ∙ cond-false (is_at (name_cmp name) other) (Some (length groups)) (number_known known other) apart) ∙ is)))
      (cases_Bool (is_at (name_cmp name) other))

  -- a name that was known is another one
  apart_from : (other : List ℕ) (number : ℕ) → number_known known other ≡ Some number → is_at (name_cmp name) other ≡ false
  apart_from other number is =
      ⊎_elim
      (λ same. absurd (nothing (sym fresh ∙ ap (number_known known) (equal_names name other same) ∙ is)))
      (λ apart. apart)
      (cases_Bool (is_at (name_cmp name) other))

  all_then : (own : is_at (name_cmp name) name ≡ true) (other : List ℕ) (number : ℕ) → name_of (groups ++ empty_group name ∷ []) number ≡ Some other → number_known then other ≡ Some number
  all_then own other number is =
      ⊎_elim
      (λ within.
      let was : number_known known other ≡ Some number =
      are.all other number (sym (ap (option_map (λ (group : Group). group.name)) (pushed_get groups number (empty_group name) within)) ∙ is) in
      updates other ∙ cond-false (is_at (name_cmp name) other) (Some (length groups)) (number_known known other) (apart_from other number was) ∙ was)
      (λ past.
      ⊎_elim
      (λ (below : length groups < number).
      absurd (nothing (sym (ap (option_map (λ (group : Group). group.name)) (pushed_past groups number (empty_group name) below)) ∙ is)))
      (λ (upto : number ≤ length groups).
      let here : number ≡ length groups = omega (arith, past, upto) in
      let same : name ≡ other = same_Some name other (sym (ap (option_map (λ (group : Group). group.name)) (pushed_last groups number (empty_group name) here)) ∙ is) in
      ap (number_known then) (sym same)
      ∙ updates name
      ∙ cond-true (is_at (name_cmp name) name) (Some (length groups)) (number_known known name) own
      ∙ ap (λ (k : ℕ). Some k) (sym here))
      (cases_lt (length groups) number))
      (cases_lt number (length groups))

  pub known_more : IsStrictlySortedBy name_cmp (keys_of then) → is_at (name_cmp name) name ≡ true → AreKnown then (groups ++ empty_group name ∷ [])
  known_more ordered own = record { ordered = ordered; there = there_then; all = all_then own }

-- a name is equal to itself, as two orders that are each other's reverse are none but equal
pub own_name : (name : List ℕ) → is_at (name_cmp name) name ≡ true
own_name name = of (name_cmp name name) (name_cmp-total.antisymm name name) where
  of : (order : Ordering) → order ≡ ordering_reverse order → is_eq order ≡ true
  of Less is = cc
  of Equal is = refl
  of Greater is = cc

-- a number that is found is that of the name's group
pub found_there : (known : List (List ℕ × ℕ)) (groups : List Group) → AreKnown known groups → (name : List ℕ) (number : ℕ) → number_known known name ≡ Some number → name_of groups number ≡ Some name
found_there known groups are name number is = are.there name number is
