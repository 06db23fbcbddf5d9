-- Groups of some names, with one name more, and the grouping that comes of them.
use Rattle.std.proofs.Common.{◌≡◌, ℕ, zero, suc, ◌+◌, ◌-◌, ◌^◌, ◌<◌, ◌≤◌, Bool, false, cond, List, [], ◌∷◌, ◌++◌, Option, Some, None, length, get_or, refl, ap, sym, ◌∙◌, arith, subst, ⊎_elim}
use Rattle.std.specs.Prelude.{All, bytes_eq, count_by, map, slice_get, slice_index_or, slice_set, if◌then◌else◌, is_some}
use Rattle.std.specs.Option.{option_and_then, option_map, option_map_or}
use Rattle.std.proofs.lemmas.Bool.{cases_eq, cases_lt, cond-false, cond-true, false_from_ne_true}
use Rattle.std.proofs.Math.ListN.{get_or-append}
use Rattle.std.proofs.lemmas.List.{get_or-set_other, get_or-set_same, length-append, length-set, map-append}
use Rattle.std.proofs.lemmas.List.Elements.{All-cons, All-nil, All-push}
use Rattle.std.proofs.lemmas.List.Sums.{count_by-le-length, sum_by-cons, sum_by_push}
use Rattle.std.proofs.lemmas.Option.{same_Some, slice_get-get_or, slice_get_within}
use Rattle.std.proofs.lemmas.Slice.Eq.{bytes_eq-Decides}
use Rattle.fleet_summary.specs.Histogram.{capped}
use Rattle.span_groups.specs.declared.grouping.Group.{Group}
use Rattle.span_groups.specs.declared.making.StageOf.{StageOf}
use Rattle.span_groups.specs.Grouping.{counted_at, name_of}
use Rattle.span_groups.specs.Groups.{counted_as, counted_by, empty_group, number_known, AreApart, AreCounted, AreInhabited, AreKnown, AreNumbers}
use Rattle.span_groups.specs.Numbered.{numbered}
use Rattle.span_groups.proofs.Numbering.{named_still, pushed_last}

heads : {A : Type 0} {x y : A} {xs ys : List A} → x ∷ xs ≡ y ∷ ys → x ≡ y
heads e = cc

tails : {A : Type 0} {x y : A} {xs ys : List A} → x ∷ xs ≡ y ∷ ys → xs ≡ ys
tails e = cc

-- ---- the numbers of the groups of names

-- they are the same as long as each group keeps its name
pub numbers_still : (groups groups_then : List Group) → ((number : ℕ) (name : List ℕ) → name_of groups number ≡ Some name → name_of groups_then number ≡ Some name)
    → (names : List (List ℕ)) (numbers : List ℕ) → AreNumbers names groups numbers → AreNumbers names groups_then numbers
numbers_still groups groups_then kept [] [] are = refl
numbers_still groups groups_then kept [] (number ∷ numbers) are = cc
numbers_still groups groups_then kept (name ∷ names) [] are = cc
numbers_still groups groups_then kept (name ∷ names) (number ∷ numbers) are =
    ap (λ (one : Option (List ℕ)). one ∷ map (name_of groups_then) numbers) (kept number name (heads are))
    ∙ ap (λ (rest : List (Option (List ℕ))). Some name ∷ rest) (numbers_still groups groups_then kept names numbers (tails are))

-- with one name more
pub numbers_more : (groups : List Group) (names : List (List ℕ)) (numbers : List ℕ) (name : List ℕ) (number : ℕ) → AreNumbers names groups numbers → name_of groups number ≡ Some name
    → AreNumbers (names ++ name ∷ []) groups (numbers ++ number ∷ [])
numbers_more groups names numbers name number are here =
    map-append (name_of groups) numbers (number ∷ [])
    ∙ ap (λ (before : List (Option (List ℕ))). before ++ name_of groups number ∷ []) are
    ∙ ap (λ (one : Option (List ℕ)). map (λ (name : List ℕ). Some name) names ++ one ∷ []) here
    ∙ sym (map-append (λ (name : List ℕ). Some name) names (name ∷ []))

pub as_many : (groups : List Group) (names : List (List ℕ)) (numbers : List ℕ) → AreNumbers names groups numbers → length names ≡ length numbers
as_many groups [] [] are = refl
as_many groups [] (number ∷ numbers) are = cc
as_many groups (name ∷ names) [] are = cc
as_many groups (name ∷ names) (number ∷ numbers) are = ap suc (as_many groups names numbers (tails are))

-- each name has a group
pub each_grouped : (groups : List Group) (names : List (List ℕ)) (numbers : List ℕ) → AreNumbers names groups numbers → All (λ name. (number : ℕ) × (name_of groups number ≡ Some name)) names
each_grouped groups [] numbers are = All-nil (λ name. (number : ℕ) × (name_of groups number ≡ Some name))
each_grouped groups (name ∷ names) [] are = cc
each_grouped groups (name ∷ names) (number ∷ numbers) are =
    All-cons (λ name. (number : ℕ) × (name_of groups number ≡ Some name)) name names (number, heads are) (each_grouped groups names numbers (tails are))

-- ---- a name that is not known

module _ (known : List (List ℕ × ℕ)) (groups : List Group) (are : AreKnown known groups) where
  pub none_of_it : (name : List ℕ) → number_known known name ≡ None → (names : List (List ℕ)) (numbers : List ℕ) → AreNumbers names groups numbers → count_by (bytes_eq name) names ≡ 0
  none_of_it name fresh [] numbers each = refl
  none_of_it name fresh (first ∷ names) [] each = cc
  none_of_it name fresh (first ∷ names) (number ∷ numbers) each =
      let other : bytes_eq name first ≡ false =
      false_from_ne_true (bytes_eq name first) (λ same.
      let own : name ≡ first = (bytes_eq-Decides name first).0 same in
      nothing (sym fresh ∙ are.all name number (heads each ∙ ap (λ (one : List ℕ). Some one) (sym own)))) in
      let both : count_by (bytes_eq name) (first ∷ names) ≡ cond (bytes_eq name first) 1 0 + count_by (bytes_eq name) names =
      sum_by-cons (λ (one : List ℕ). cond (bytes_eq name one) 1 0) first names in
      let none : cond {A = ℕ} (bytes_eq name first) 1 0 ≡ 0 = cond-false (bytes_eq name first) 1 0 other in
      let rest : count_by (bytes_eq name) names ≡ 0 = none_of_it name fresh names numbers (tails each) in
      omega (arith, both, none, rest) where
        nothing : {number : ℕ} → None ≡ Some number → ⊥
        nothing e = cc

  -- so a group of that name with no span is counted
  pub counted_fresh : (names : List (List ℕ)) (numbers : List ℕ) (name : List ℕ) → AreNumbers names groups numbers → AreCounted names groups → number_known known name ≡ None
      → AreCounted names (groups ++ empty_group name ∷ [])
  counted_fresh names numbers name each counted fresh =
      All-push (λ (group : Group). group.spans ≡ count_by (bytes_eq group.name) names) groups (empty_group name) counted (sym (none_of_it name fresh names numbers each))

  -- no two groups have one name
  pub apart : AreApart groups
  apart one other name here there = same_Some one other (sym (are.all name one here) ∙ are.all name other there)

-- the groups with one of the name, where there was none: each keeps its name, and is counted
module _ (known : List (List ℕ × ℕ)) (groups groups_then : List Group) (name : List ℕ)
    (grown : groups_then ≡ (if is_some (number_known known name) then groups else groups ++ empty_group name ∷ [])) where
  grown_as : (found : Option ℕ) → number_known known name ≡ found → groups_then ≡ (if is_some found then groups else groups ++ empty_group name ∷ [])
  grown_as found is = grown ∙ ap (λ (one : Option ℕ). if is_some one then groups else groups ++ empty_group name ∷ []) is

  pub named_then : (number : ℕ) (other : List ℕ) → name_of groups number ≡ Some other → name_of groups_then number ≡ Some other
  named_then number other here = of (number_known known name) refl where
    of : (found : Option ℕ) → number_known known name ≡ found → name_of groups_then number ≡ Some other
    of None is = ap (λ (list : List Group). name_of list number) (grown_as None is) ∙ named_still groups (empty_group name) number other here
    of (Some own) is = ap (λ (list : List Group). name_of list number) (grown_as (Some own) is) ∙ here

  pub counted_then : AreKnown known groups → (names : List (List ℕ)) (numbers : List ℕ) → AreNumbers names groups numbers → AreCounted names groups → AreCounted names groups_then
  counted_then are names numbers each counted = of (number_known known name) refl where
    of : (found : Option ℕ) → number_known known name ≡ found → AreCounted names groups_then
    of None is = subst (AreCounted names) (sym (grown_as None is)) (counted_fresh known groups are names numbers name each counted is)
    of (Some own) is = subst (AreCounted names) (sym (grown_as (Some own) is)) counted

  -- each but that of the name has a span, where each had one before
  pub inhabited_then : AreInhabited groups → (known_then : List (List ℕ × ℕ)) → AreKnown known_then groups_then → (number : ℕ) → name_of groups_then number ≡ Some name
      → (k : ℕ) (d : Group) → k < length groups_then → (k ≡ number → ⊥) → 0 < (get_or groups_then k d).spans
  inhabited_then were known_then are number own k d short differ = of (number_known known name) refl where
    stands : groups_then ≡ groups ++ empty_group name ∷ [] → k < length groups → get_or groups_then k d ≡ get_or groups k d
    stands grew within = ap (λ (list : List Group). get_or list k d) grew ∙ get_or-append groups (empty_group name ∷ []) d k within

    named : groups_then ≡ groups ++ empty_group name ∷ [] → k ≡ length groups → name_of groups_then k ≡ Some name
    named grew last = ap (option_map (λ (group : Group). group.name)) (ap (λ (list : List Group). slice_get list k) grew ∙ pushed_last groups k (empty_group name) last)

    of : (found : Option ℕ) → number_known known name ≡ found → 0 < (get_or groups_then k d).spans
    of (Some there) is =
        let same : groups_then ≡ groups = grown_as (Some there) is in
        subst (λ (list : List Group). 0 < (get_or list k d).spans) (sym same) (were k d (subst (λ (list : List Group). k < length list) same short))
    of None is =
        let grew : groups_then ≡ groups ++ empty_group name ∷ [] = grown_as None is in
        let long : length groups_then ≡ length groups + 1 = ap (λ (list : List Group). length list) grew ∙ length-append groups (empty_group name ∷ []) in
        ⊎_elim
        (λ within. subst (λ (group : Group). 0 < group.spans) (sym (stands grew within)) (were k d within))
        (λ past. absurd (differ (apart known_then groups_then are k number name (named grew (omega (arith, long, short, past))) own)))
        (cases_lt k (length groups))

-- ---- a span more of a group

one_more : (spans : ℕ) → 0 < capped (spans + 1)
one_more spans = omega arith

-- a group with one span more has one, and so has each where each other one has
inhabited_set : (groups : List Group) (number : ℕ) (group : Group) → slice_get groups number ≡ Some group
    → ((k : ℕ) (d : Group) → k < length groups → (k ≡ number → ⊥) → 0 < (get_or groups k d).spans)
    → AreInhabited (slice_set groups number (record group { spans = capped (group.spans + 1) }))
inhabited_set groups number group here others k d short =
    let more : Group = record group { spans = capped (group.spans + 1) } in
    let long : length (slice_set groups number more) ≡ length groups = length-set groups number more in
    ⊎_elim
    (λ (same : k ≡ number).
    subst (λ (one : Group). 0 < one.spans)
    (sym (ap (λ (at : ℕ). get_or (slice_set groups number more) at d) same ∙ get_or-set_same groups number more d (slice_get_within groups number group here)))
    (one_more group.spans))
    (λ (differ : k ≡ number → ⊥).
    subst (λ (one : Group). 0 < one.spans) (sym (get_or-set_other groups number k more d differ)) (others k d (omega (arith, short, long)) differ))
    (cases_eq k number)

-- each group keeps its name
pub recounted : (groups : List Group) (number spans : ℕ) (group : Group) → slice_get groups number ≡ Some group → (k : ℕ) → name_of (slice_set groups number (record group { spans = spans })) k ≡ name_of groups k
recounted [] number spans group here k = cc
recounted (first ∷ groups) zero spans group here zero = ap (λ (one : Group). Some one.name) (sym (same_Some first group here))
recounted (first ∷ groups) zero spans group here (suc k) = refl
recounted (first ∷ groups) (suc number) spans group here zero = refl
recounted (first ∷ groups) (suc number) spans group here (suc k) = recounted groups number spans group here k

-- the numbers are known as before
pub known_still : (known : List (List ℕ × ℕ)) (groups groups_then : List Group) → ((k : ℕ) → name_of groups_then k ≡ name_of groups k) → AreKnown known groups → AreKnown known groups_then
known_still known groups groups_then same are = record {
  ordered = are.ordered;
  there = λ name number is. same number ∙ are.there name number is;
  all = λ name number is. are.all name number (sym (same number) ∙ is);
}

module _ (known : List (List ℕ × ℕ)) (groups : List Group) (are : AreKnown known groups) (names : List (List ℕ)) (counted : AreCounted names groups) (name : List ℕ)
    (few : length names + 1 ≤ 2 ^ 64 - 1) (number : ℕ) (group : Group) (here : slice_get groups number ≡ Some group) (own : group.name ≡ name) where
  abbrev more : Group
  more = record group { spans = capped (group.spans + 1) }

  within : number < length groups
  within = slice_get_within groups number group here

  -- of the group with the name there is one more
  own_count : more.spans ≡ count_by (bytes_eq more.name) (names ++ name ∷ [])
  own_count =
      let stands : get_or groups number group ≡ group = same_Some (get_or groups number group) group (sym (slice_get-get_or groups number group within) ∙ here) in
      let was : group.spans ≡ count_by (bytes_eq group.name) names = subst (λ (one : Group). one.spans ≡ count_by (bytes_eq one.name) names) stands (counted number group within) in
      let upto : count_by (bytes_eq group.name) names ≤ length names = count_by-le-length (bytes_eq group.name) names in
      let one_more : count_by (bytes_eq group.name) (names ++ name ∷ []) ≡ count_by (bytes_eq group.name) names + cond (bytes_eq group.name name) 1 0 =
      sum_by_push (λ (one : List ℕ). cond (bytes_eq group.name one) 1 0) names name in
      let one : cond {A = ℕ} (bytes_eq group.name name) 1 0 ≡ 1 = cond-true (bytes_eq group.name name) 1 0 ((bytes_eq-Decides group.name name).1 own) in
      uncapped group.spans (count_by (bytes_eq group.name) names) (cond (bytes_eq group.name name) 1 0) was upto one ∙ sym one_more where
        uncapped : (spans count more : ℕ) → spans ≡ count → count ≤ length names → more ≡ 1 → capped (spans + 1) ≡ count + more
        uncapped spans count more was upto one = omega (arith, few)

  -- of each other as many as before
  other_count : (k : ℕ) (d : Group) → k < length groups → (k ≡ number → ⊥) → (get_or groups k d).spans ≡ count_by (bytes_eq (get_or groups k d).name) (names ++ name ∷ [])
  other_count k d short differ =
      let other : Group = get_or groups k d in
      let named : name_of groups k ≡ Some other.name = ap (option_map (λ (group : Group). group.name)) (slice_get-get_or groups k d short) in
      let mine : name_of groups number ≡ Some name = ap (option_map (λ (group : Group). group.name)) here ∙ ap (λ (one : List ℕ). Some one) own in
      let apart_from : bytes_eq other.name name ≡ false =
      false_from_ne_true (bytes_eq other.name name) (λ same.
      differ (apart known groups are k number name (named ∙ ap (λ (one : List ℕ). Some one) ((bytes_eq-Decides other.name name).0 same)) mine)) in
      let one_more : count_by (bytes_eq other.name) (names ++ name ∷ []) ≡ count_by (bytes_eq other.name) names + cond (bytes_eq other.name name) 1 0 =
      sum_by_push (λ (one : List ℕ). cond (bytes_eq other.name one) 1 0) names name in
      let none : cond {A = ℕ} (bytes_eq other.name name) 1 0 ≡ 0 = cond-false (bytes_eq other.name name) 1 0 apart_from in
      let was : other.spans ≡ count_by (bytes_eq other.name) names = counted k d short in
      omega (arith, one_more, none, was)

  counted_set : AreCounted (names ++ name ∷ []) (slice_set groups number more)
  counted_set k d short =
      let long : length (slice_set groups number more) ≡ length groups = length-set groups number more in
      ⊎_elim
      (λ (same : k ≡ number).
      subst (λ (one : Group). one.spans ≡ count_by (bytes_eq one.name) (names ++ name ∷ []))
      (sym (ap (λ (at : ℕ). get_or (slice_set groups number more) at d) same ∙ get_or-set_same groups number more d within))
      own_count)
      (λ (differ : k ≡ number → ⊥).
      subst (λ (one : Group). one.spans ≡ count_by (bytes_eq one.name) (names ++ name ∷ []))
      (sym (get_or-set_other groups number k more d differ))
      (other_count k d (omega (arith, short, long)) differ))
      (cases_eq k number)

-- the groups with one span more of the group of a number, which has the name
module _ (groups groups_then : List Group) (name : List ℕ) (number : ℕ) (here : name_of groups number ≡ Some name)
    (counts : groups_then ≡ option_map_or (λ (group : Group). slice_set groups number (record group { spans = capped (group.spans + 1) })) (slice_get groups number) groups) where
  pub same_names : (k : ℕ) → name_of groups_then k ≡ name_of groups k
  same_names k = of (slice_get groups number) refl where
    of : (found : Option Group) → slice_get groups number ≡ found → name_of groups_then k ≡ name_of groups k
    of None is = nothing (sym (ap (option_map (λ (group : Group). group.name)) is) ∙ here) where
      nothing : None ≡ Some name → name_of groups_then k ≡ name_of groups k
      nothing e = cc
    of (Some group) is =
        ap (λ (list : List Group). name_of list k)
        (counts ∙ ap (λ (found : Option Group). option_map_or (λ (group : Group). slice_set groups number (record group { spans = capped (group.spans + 1) })) found groups) is)
        ∙ recounted groups number (capped (group.spans + 1)) group is k

  pub counted_more : (known : List (List ℕ × ℕ)) → AreKnown known groups → (names : List (List ℕ)) → AreCounted names groups → length names + 1 ≤ 2 ^ 64 - 1 → AreCounted (names ++ name ∷ []) groups_then
  counted_more known are names counted few = of (slice_get groups number) refl where
    of : (found : Option Group) → slice_get groups number ≡ found → AreCounted (names ++ name ∷ []) groups_then
    of None is = nothing (sym (ap (option_map (λ (group : Group). group.name)) is) ∙ here) where
      nothing : None ≡ Some name → AreCounted (names ++ name ∷ []) groups_then
      nothing e = cc
    of (Some group) is =
        subst (AreCounted (names ++ name ∷ []))
        (sym (counts ∙ ap (λ (found : Option Group). option_map_or (λ (group : Group). slice_set groups number (record group { spans = capped (group.spans + 1) })) found groups) is))
        (counted_set known groups are names counted name few number group is (same_Some group.name name (sym (ap (option_map (λ (group : Group). group.name)) is) ∙ here)))

  pub inhabited_more : ((k : ℕ) (d : Group) → k < length groups → (k ≡ number → ⊥) → 0 < (get_or groups k d).spans) → AreInhabited groups_then
  inhabited_more others = of (slice_get groups number) refl where
    of : (found : Option Group) → slice_get groups number ≡ found → AreInhabited groups_then
    of None is = nothing (sym (ap (option_map (λ (group : Group). group.name)) is) ∙ here) where
      nothing : None ≡ Some name → AreInhabited groups_then
      nothing e = cc
    of (Some group) is =
        subst AreInhabited
        (sym (counts ∙ ap (λ (found : Option Group). option_map_or (λ (group : Group). slice_set groups number (record group { spans = capped (group.spans + 1) })) found groups) is))
        (inhabited_set groups number group is others)

-- ---- the stages

-- a stage counts to the group of its span's name
module _ (groups : List Group) (stage : StageOf) where
  counted_one : (names : List (List ℕ)) (numbers : List ℕ) → AreNumbers names groups numbers → (span : ℕ)
      → option_and_then (counted_as groups) (option_map (λ (group : ℕ). record { group = group; stage = stage }) (slice_get numbers span))
      ≡ option_map (λ (name : List ℕ). (name, stage)) (slice_get names span)
  counted_one [] [] are span = refl
  counted_one [] (number ∷ numbers) are span = cc
  counted_one (name ∷ names) [] are span = cc
  counted_one (name ∷ names) (number ∷ numbers) are zero = ap (option_map (λ (name : List ℕ). (name, stage))) (heads are)
  counted_one (name ∷ names) (number ∷ numbers) are (suc span) = counted_one names numbers (tails are) span

pub all_counted : (groups : List Group) (names : List (List ℕ)) (numbers : List ℕ) → AreNumbers names groups numbers → (stages : List (Option StageOf)) (place : ℕ)
    → option_and_then (counted_as groups) (counted_at (map (numbered numbers) stages) place) ≡ option_and_then (counted_by names) (slice_index_or stages place None)
all_counted groups names numbers are stages place =
    ap (option_and_then (counted_as groups)) (mapped stages place) ∙ of (slice_index_or stages place None) where
      mapped : (stages : List (Option StageOf)) (place : ℕ) → counted_at (map (numbered numbers) stages) place ≡ numbered numbers (slice_index_or stages place None)
      mapped [] zero = refl
      mapped [] (suc place) = refl
      mapped (stage ∷ stages) zero = refl
      mapped (stage ∷ stages) (suc place) = mapped stages place

      of : (stage : Option StageOf) → option_and_then (counted_as groups) (numbered numbers stage) ≡ option_and_then (counted_by names) stage
      of None = refl
      of (Some stage) = counted_one groups stage names numbers are stage.span
