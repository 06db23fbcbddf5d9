-- A join, or own work, that a stage needs first is put with it; what else is put has its reason.
use Rattle.std.proofs.Common.{◌≡◌, ℕ, suc, zero, ◌+◌, ◌<◌, ◌≤◌, inl, inr, List, [], ◌∷◌, ◌++◌, Bool, true, false, cond, length, map, Option, Some, None, refl, sym, ap, ◌∙◌, subst, arith, length-append}
use Rattle.std.specs.Prelude.{◌⊎◌, ◌&&◌, ◌||◌, fold, is_some, nat_eq, not, reverse, slice_get}
use Rattle.std.specs.List.{list_any}
use Rattle.std.proofs.lemmas.Bool.{eqb-true, false≢true}
use Rattle.std.proofs.lemmas.List.Sorted.{Contains-permutation, IsPermutation-reverse, IsPermutation-sym, length_permutation}
use Rattle.std.proofs.lemmas.Option.{none-some, same_Some}
use Rattle.trace_stages.specs.Known.{gave_up, had_at}
use Rattle.trace_stages.specs.Order.{attempts_before, first_source, is_entry, is_join, is_work, most_needed, needed, needs, put_end, put_last, put_stage, source_of, tried_before, visited}
use Rattle.trace_stages.specs.Scene.{PlainScene}
use Rattle.trace_stages.specs.declared.tour.visit.Visit.{Visit}
use Rattle.trace_stages.specs.declared.tour.visit.Visit.TheVariants.{Enters, Leaves}
use Rattle.trace_stages.specs.declared.walk.holding.OwnWork.{OwnWork}
use Rattle.trace_stages.specs.declared.walk.stage_id.StageId.{StageId}
use Rattle.trace_stages.specs.declared.walk.stage_id.StageId.TheVariants.{Start, Whole, Entry, Join, Work, Tried, Limit, Answer}
use Rattle.trace_laws.proofs.Each.{In, contains_in, in-append, in-back, in-front, in_contains}

-- ---- what may be needed first

abbrev pub IsNeeded : StageId → Type 0
IsNeeded (Start place) = ⊥
IsNeeded (Whole place) = ⊥
IsNeeded (Tried place) = ⊥
IsNeeded (Limit place) = ⊥
IsNeeded (Answer place) = ⊥
IsNeeded (Work span number) = Unit {0}
IsNeeded (Entry span number) = Unit {0}
IsNeeded (Join span number) = Unit {0}

-- the source of a stage that may be needed first
abbrev pub lead : PlainScene → StageId → Option StageId
lead scene (Start place) = source_of scene (Start place)
lead scene (Whole place) = cond (gave_up scene.known place) None (source_of scene (Whole place))
lead scene (Tried place) = None
lead scene (Limit place) = None
lead scene (Answer place) = source_of scene (Answer place)
lead scene (Work span number) = first_source scene (Work span number)
lead scene (Entry span number) = first_source scene (Entry span number)
lead scene (Join span number) = first_source scene (Join span number)

in_reversed : {X : Type 0} (xs : List X) (x : X) → In xs x → In (reverse xs) x
in_reversed xs x here = contains_in (reverse xs) x (Contains-permutation xs (reverse xs) x (IsPermutation-reverse xs) (in_contains xs x here))

in_unreversed : {X : Type 0} (xs : List X) (x : X) → In (reverse xs) x → In xs x
in_unreversed xs x here = contains_in xs x (Contains-permutation (reverse xs) xs x (IsPermutation-sym xs (reverse xs) (IsPermutation-reverse xs)) (in_contains (reverse xs) x here))

both_true : (a b : Bool) → (a && b) ≡ true → (a ≡ true) × (b ≡ true)
both_true true b is = (refl, is)
both_true false b is = absurd (false≢true is)

same_join : (span number : ℕ) (id : StageId) → is_join span number id ≡ true → id ≡ Join span number
same_join span number (Start place) is = absurd (false≢true is)
same_join span number (Whole place) is = absurd (false≢true is)
same_join span number (Tried place) is = absurd (false≢true is)
same_join span number (Limit place) is = absurd (false≢true is)
same_join span number (Answer place) is = absurd (false≢true is)
same_join span number (Work other count) is = absurd (false≢true is)
same_join span number (Entry other count) is = absurd (false≢true is)
same_join span number (Join other count) is =
    let both = both_true (nat_eq span other) (nat_eq number count) is in
    ap (λ o. Join o count) (sym (eqb-true span other both.0)) ∙ ap (Join span) (sym (eqb-true number count both.1))

same_entry : (span number : ℕ) (id : StageId) → is_entry span number id ≡ true → id ≡ Entry span number
same_entry span number (Start place) is = absurd (false≢true is)
same_entry span number (Whole place) is = absurd (false≢true is)
same_entry span number (Tried place) is = absurd (false≢true is)
same_entry span number (Limit place) is = absurd (false≢true is)
same_entry span number (Answer place) is = absurd (false≢true is)
same_entry span number (Work other count) is = absurd (false≢true is)
same_entry span number (Join other count) is = absurd (false≢true is)
same_entry span number (Entry other count) is =
    let both = both_true (nat_eq span other) (nat_eq number count) is in
    ap (λ o. Entry o count) (sym (eqb-true span other both.0)) ∙ ap (Entry span) (sym (eqb-true number count both.1))

same_work : (span number : ℕ) (id : StageId) → is_work span number id ≡ true → id ≡ Work span number
same_work span number (Start place) is = absurd (false≢true is)
same_work span number (Whole place) is = absurd (false≢true is)
same_work span number (Tried place) is = absurd (false≢true is)
same_work span number (Limit place) is = absurd (false≢true is)
same_work span number (Answer place) is = absurd (false≢true is)
same_work span number (Entry other count) is = absurd (false≢true is)
same_work span number (Join other count) is = absurd (false≢true is)
same_work span number (Work other count) is =
    let both = both_true (nat_eq span other) (nat_eq number count) is in
    ap (λ o. Work o count) (sym (eqb-true span other both.0)) ∙ ap (Work span) (sym (eqb-true number count both.1))

any_of : (test : StageId → Bool) (id : StageId) → ((x : StageId) → test x ≡ true → x ≡ id) → (order : List StageId) → list_any test order ≡ true → In order id
any_of test id only [] found = absurd (false≢true found)
any_of test id only (x ∷ xs) found = by_test (test x) refl found (any_of test id only xs)
  where
    by_test : (b : Bool) → test x ≡ b → (b || list_any test xs) ≡ true → (list_any test xs ≡ true → In xs id) → (x ≡ id) ⊎ In xs id
    by_test true is found again = inl (only x is)
    by_test false is found again = inr (again found)

not_false : (b : Bool) → not b ≡ false → b ≡ true
not_false true is = refl
not_false false is = absurd (false≢true (sym is))

-- what isn't needed any more is put
put_before : (order : List StageId) (id : StageId) → IsNeeded id → needs order id ≡ false → In order id
put_before order (Start place) need is = absurd need
put_before order (Whole place) need is = absurd need
put_before order (Tried place) need is = absurd need
put_before order (Limit place) need is = absurd need
put_before order (Answer place) need is = absurd need
put_before order (Work span number) need is = any_of (is_work span number) (Work span number) (same_work span number) order (not_false (list_any (is_work span number) order) is)
put_before order (Entry span number) need is = any_of (is_entry span number) (Entry span number) (same_entry span number) order (not_false (list_any (is_entry span number) order) is)
put_before order (Join span number) need is = any_of (is_join span number) (Join span number) (same_join span number) order (not_false (list_any (is_join span number) order) is)

-- and only a join or own work is needed
only_needed : (order : List StageId) (id : StageId) → needs order id ≡ true → IsNeeded id
only_needed order (Start place) is = absurd (false≢true is)
only_needed order (Whole place) is = absurd (false≢true is)
only_needed order (Tried place) is = absurd (false≢true is)
only_needed order (Limit place) is = absurd (false≢true is)
only_needed order (Answer place) is = absurd (false≢true is)
only_needed order (Work span number) is = tt
only_needed order (Entry span number) is = tt
only_needed order (Join span number) is = tt

module _ (scene : PlainScene) where
  lead_first : (id : StageId) → IsNeeded id → lead scene id ≡ first_source scene id
  lead_first (Start place) need = absurd need
  lead_first (Whole place) need = absurd need
  lead_first (Tried place) need = absurd need
  lead_first (Limit place) need = absurd need
  lead_first (Answer place) need = absurd need
  lead_first (Work span number) need = refl
  lead_first (Entry span number) need = refl
  lead_first (Join span number) need = refl

  -- ---- the chain of what is needed

  record IsChain (order those : List StageId) (source : Option StageId) : Type 0 where
    pub begins : (s : StageId) → source ≡ Some s → IsNeeded s → In those s ⊎ In order s
    pub goes_on : (x s : StageId) → In those x → lead scene x ≡ Some s → IsNeeded s → In those s ⊎ In order s
    pub needed_all : (x : StageId) → In those x → IsNeeded x

  pushed : (order those : List StageId) (id s : StageId) → In those s ⊎ In (order ++ id ∷ []) s → In (id ∷ those) s ⊎ In order s
  pushed order those id s (inl among) = inl (inr among)
  pushed order those id s (inr before) = elim (in-append order (id ∷ []) s before) [
    | inl old ↦ inr old
    | inr new ↦ elim new [ inl same ↦ inl (inl same) | inr never ↦ absurd never ]
  ]

  chain_if : (order those : List StageId) (id : StageId) (b : Bool) → needs order id ≡ b → (b ≡ true → IsChain (order ++ id ∷ []) those (first_source scene id)) → IsChain order (cond b (id ∷ those) []) (Some id)
  chain_if order those id true is again =
      let rest = again refl in
      record {
        begins = λ s same need. inl (inl (same_Some id s same));
        goes_on = λ x s here leads need. elim here [
          | inl same ↦ pushed order those id s (rest.begins s (sym (lead_first id (only_needed order id is)) ∙ ap (lead scene) same ∙ leads) need)
          | inr further ↦ pushed order those id s (rest.goes_on x s further leads need)
        ];
        needed_all = λ x here. elim here [
          | inl same ↦ subst IsNeeded same (only_needed order id is)
          | inr further ↦ rest.needed_all x further
        ];
      }
  chain_if order those id false is again = record {
    begins = λ s same need. inr (subst (In order) (same_Some id s same) (put_before order id (subst IsNeeded (sym (same_Some id s same)) need) is));
    goes_on = λ x s here. absurd here;
    needed_all = λ x here. absurd here;
  }

  cond_length : (b : Bool) (id : StageId) (those : List StageId) (n : ℕ) → length (cond b (id ∷ those) []) < suc n → b ≡ true → length those < n
  cond_length true id those n lt same = omega arith
  cond_length false id those n lt same = absurd (false≢true same)

  chain : (n : ℕ) (order : List StageId) (source : Option StageId) → length (needed scene order n source) < n → IsChain order (needed scene order n source) source
  unfolding needed
  chain zero order source short = absurd (omega arith)
  chain (suc n) order None short = record { begins = λ s none. absurd (none-some s none); goes_on = λ x s here. absurd here; needed_all = λ x here. absurd here }
  chain (suc n) order (Some id) short =
      chain_if order (needed scene (order ++ id ∷ []) n (first_source scene id)) id (needs order id) refl
      (λ same. chain n (order ++ id ∷ []) (first_source scene id) (cond_length (needs order id) id (needed scene (order ++ id ∷ []) n (first_source scene id)) n short same))

  -- ---- the order

  -- the lead of each, if it is needed first, is put too
  abbrev pub AreLed : List StageId → Type 0
  AreLed order = (x s : StageId) → In order x → lead scene x ≡ Some s → IsNeeded s → In order s

  pub put_keeps : (order : List StageId) (id other : StageId) → In order other → In (put_stage scene order id) other
  put_keeps order id other here = in-front order (reverse (needed scene order most_needed (source_of scene id)) ++ id ∷ []) other here

  pub puts_itself : (order : List StageId) (id : StageId) → In (put_stage scene order id) id
  puts_itself order id =
      in-back order (reverse (needed scene order most_needed (source_of scene id)) ++ id ∷ []) id
      (in-back (reverse (needed scene order most_needed (source_of scene id))) (id ∷ []) id (inl refl))

  length_put : (order : List StageId) (id : StageId) → length (put_stage scene order id) ≡ length order + (length (needed scene order most_needed (source_of scene id)) + 1)
  length_put order id =
      let outer : length (put_stage scene order id) ≡ length order + length (reverse (needed scene order most_needed (source_of scene id)) ++ id ∷ []) = length-append order (reverse (needed scene order most_needed (source_of scene id)) ++ id ∷ []) in
      let inner : length (reverse (needed scene order most_needed (source_of scene id)) ++ id ∷ []) ≡ length (reverse (needed scene order most_needed (source_of scene id))) + 1 = length-append (reverse (needed scene order most_needed (source_of scene id))) (id ∷ []) in
      let same : length (reverse (needed scene order most_needed (source_of scene id))) ≡ length (needed scene order most_needed (source_of scene id)) = length_permutation (needed scene order most_needed (source_of scene id)) (reverse (needed scene order most_needed (source_of scene id))) (IsPermutation-reverse (needed scene order most_needed (source_of scene id))) in
      sums (length (put_stage scene order id)) (length order) _ _ _ outer inner same
    where
      sums : (a b c d e : ℕ) → a ≡ b + c → c ≡ d + 1 → d ≡ e → a ≡ b + (e + 1)
      sums a b c d e one two three = omega arith

  few_needed : (order : List StageId) (id : StageId) → length (put_stage scene order id) ≤ most_needed → length (needed scene order most_needed (source_of scene id)) < most_needed
  few_needed order id few = less (length (put_stage scene order id)) (length order) (length (needed scene order most_needed (source_of scene id))) (length_put order id) few
    where
      less : (a b c : ℕ) → a ≡ b + (c + 1) → a ≤ 65_536 → c < 65_536
      less a b c same le = omega arith

  put_led : (order : List StageId) (id : StageId) → lead scene id ≡ source_of scene id → length (put_stage scene order id) ≤ most_needed → AreLed order → AreLed (put_stage scene order id)
  put_led order id leads_from few led x s here leads need =
      let those = needed scene order most_needed (source_of scene id) in
      let links = chain most_needed order (source_of scene id) (few_needed order id few) in
      let either : (y : StageId) → In (needed scene order most_needed (source_of scene id)) y ⊎ In order y → In (put_stage scene order id) y = λ y at. elim at [
        | inl among ↦ in-back order (reverse those ++ id ∷ []) y (in-front (reverse those) (id ∷ []) y (in_reversed those y among))
        | inr old ↦ put_keeps order id y old
      ] in
      elim (in-append order (reverse those ++ id ∷ []) x here) [
        | inl old ↦ put_keeps order id s (led x s old leads need)
        | inr new ↦ elim (in-append (reverse those) (id ∷ []) x new) [
          | inl among ↦ either s (links.goes_on x s (in_unreversed those x among) leads need)
          | inr last ↦ elim last [
            | inl same ↦ either s (links.begins s (sym leads_from ∙ ap (lead scene) same ∙ leads) need)
            | inr never ↦ absurd never
          ]
        ]
      ]

  -- what has no lead changes nothing
  add_led : (order added : List StageId) → ((x : StageId) → In added x → lead scene x ≡ None) → AreLed order → AreLed (order ++ added)
  add_led order added none led x s here leads need = elim (in-append order added x here) [
    | inl old ↦ in-front order added s (led x s old leads need)
    | inr new ↦ absurd (none-some s (sym (none x new) ∙ leads))
  ]

  append_shorter : {X : Type 0} (xs ys : List X) (n : ℕ) → length (xs ++ ys) ≤ n → length xs ≤ n
  append_shorter xs ys n le = less (length (xs ++ ys)) (length xs) (length ys) n (length-append xs ys) le
    where
      less : (a b c n : ℕ) → a ≡ b + c → a ≤ n → b ≤ n
      less a b c n same le = omega arith

  tried_none : (places : List ℕ) (x : StageId) → In (map Tried places) x → lead scene x ≡ None
  tried_none [] x here = absurd here
  tried_none (place ∷ places) x (inl same) = ap (lead scene) (sym same)
  tried_none (place ∷ places) x (inr further) = tried_none places x further

  tried_before_none : (place : ℕ) (x : StageId) → In (tried_before scene place) x → lead scene x ≡ None
  tried_before_none place x here = by_next (is_some (scene.known.relations.attempts.next place)) here
    where
      by_next : (b : Bool) → In (cond b [] (map Tried (attempts_before scene most_needed (scene.known.relations.attempts.previous place)))) x → lead scene x ≡ None
      by_next true here = absurd here
      by_next false here = tried_none (attempts_before scene most_needed (scene.known.relations.attempts.previous place)) x here

  end_led : (order : List StageId) (place : ℕ) (b : Bool) → gave_up scene.known place ≡ b
      → length (cond b (put_stage scene order (Answer place) ++ (Limit place ∷ Whole place ∷ [])) (put_stage scene order (Whole place))) ≤ most_needed → AreLed order
      → AreLed (cond b (put_stage scene order (Answer place) ++ (Limit place ∷ Whole place ∷ [])) (put_stage scene order (Whole place)))
  end_led order place true gave few led =
      add_led (put_stage scene order (Answer place)) (Limit place ∷ Whole place ∷ []) (λ x here. elim here [
        | inl same ↦ ap (lead scene) (sym same)
        | inr further ↦ elim further [
          | inl same ↦ ap (lead scene) (sym same) ∙ ap (λ b. cond b None (source_of scene (Whole place))) gave
          | inr never ↦ absurd never
        ]
      ])
      (put_led order (Answer place) refl (append_shorter (put_stage scene order (Answer place)) (Limit place ∷ Whole place ∷ []) most_needed few) led)
  end_led order place false gave few led = put_led order (Whole place) (ap (λ b. cond b None (source_of scene (Whole place))) gave) few led

  visit_led : (order : List StageId) (visit : Visit) → length (visited scene order visit) ≤ most_needed → AreLed order → AreLed (visited scene order visit)
  visit_led order (Enters place) few led = by_two (scene.known.has_two place) few
    where
      by_two : (b : Bool) → length (cond b (put_stage scene order (Start place)) order) ≤ most_needed → AreLed (cond b (put_stage scene order (Start place)) order)
      by_two true few = put_led order (Start place) refl few led
      by_two false few = led
  visit_led order (Leaves place) few led =
      add_led (put_end scene order place) (tried_before scene place) (tried_before_none place)
      (end_led order place (gave_up scene.known place) refl (append_shorter (put_end scene order place) (tried_before scene place) most_needed few) led)

  end_longer : (order : List StageId) (place : ℕ) (b : Bool) → length order ≤ length (cond b (put_stage scene order (Answer place) ++ (Limit place ∷ Whole place ∷ [])) (put_stage scene order (Whole place)))
  end_longer order place true =
      longer (length (put_stage scene order (Answer place) ++ (Limit place ∷ Whole place ∷ []))) (length (put_stage scene order (Answer place))) 2 (length order) _
      (length-append (put_stage scene order (Answer place)) (Limit place ∷ Whole place ∷ [])) (length_put order (Answer place))
    where
      longer : (a b c d e : ℕ) → a ≡ b + c → b ≡ d + (e + 1) → d ≤ a
      longer a b c d e one two = omega arith
  end_longer order place false = longer (length (put_stage scene order (Whole place))) (length order) _ (length_put order (Whole place))
    where
      longer : (a b c : ℕ) → a ≡ b + (c + 1) → b ≤ a
      longer a b c same = omega arith

  visit_longer : (order : List StageId) (visit : Visit) → length order ≤ length (visited scene order visit)
  visit_longer order (Enters place) = by_two (scene.known.has_two place)
    where
      longer : (a b c : ℕ) → a ≡ b + (c + 1) → b ≤ a
      longer a b c same = omega arith

      by_two : (b : Bool) → length order ≤ length (cond b (put_stage scene order (Start place)) order)
      by_two true = longer (length (put_stage scene order (Start place))) (length order) _ (length_put order (Start place))
      by_two false = omega arith
  visit_longer order (Leaves place) =
      longer (length (put_last scene order place)) (length (put_end scene order place)) (length (tried_before scene place)) (length order) (length-append (put_end scene order place) (tried_before scene place)) (end_longer order place (gave_up scene.known place))
    where
      longer : (a b c d : ℕ) → a ≡ b + c → d ≤ b → d ≤ a
      longer a b c d same le = omega arith

  all_longer : (order : List StageId) (some : List Visit) → length order ≤ length (fold (visited scene) order some)
  all_longer order [] = omega arith
  all_longer order (visit ∷ some) = through (length order) (length (visited scene order visit)) (length (fold (visited scene) (visited scene order visit) some)) (visit_longer order visit) (all_longer (visited scene order visit) some)
    where
      through : (a b c : ℕ) → a ≤ b → b ≤ c → a ≤ c
      through a b c one two = omega arith

  pub all_led : (order : List StageId) (some : List Visit) → length (fold (visited scene) order some) ≤ most_needed → AreLed order → AreLed (fold (visited scene) order some)
  all_led order [] few led = led
  all_led order (visit ∷ some) few led =
      all_led (visited scene order visit) some few
      (visit_led order visit (through (length (visited scene order visit)) (length (fold (visited scene) (visited scene order visit) some)) most_needed (all_longer (visited scene order visit) some) few) led)
    where
      through : (a b c : ℕ) → a ≤ b → b ≤ c → a ≤ c
      through a b c one two = omega arith

  -- ---- the reasons of what is put

  -- a limit is that of a span which gave calls up; what a call came to is put where it was tried again; own work was done
  abbrev pub HasReason : StageId → Type 0
  HasReason (Start place) = Unit {0}
  HasReason (Whole place) = Unit {0}
  HasReason (Tried place) = (again : ℕ) × (scene.known.relations.attempts.next place ≡ Some again)
  HasReason (Limit place) = gave_up scene.known place ≡ true
  HasReason (Answer place) = gave_up scene.known place ≡ true
  HasReason (Work span number) = (work : OwnWork) × (slice_get (had_at scene.known.hads span).works number ≡ Some work)
  HasReason (Entry span number) = Unit {0}
  HasReason (Join span number) = Unit {0}

  abbrev pub HaveReasons : List StageId → Type 0
  HaveReasons order = (x : StageId) → In order x → HasReason x

  module _ (leads_on : (place call : ℕ) → scene.known.relations.attempts.previous place ≡ Some call → scene.known.relations.attempts.next call ≡ Some place)
      (leads_well : (id s : StageId) → HasReason id → lead scene id ≡ Some s → IsNeeded s → HasReason s) where
    needed_if : (order those : List StageId) (id : StageId) (b : Bool) → needs order id ≡ b → (IsNeeded id → HasReason id) → (IsNeeded id → HasReason id → HaveReasons those) → HaveReasons (cond b (id ∷ those) [])
    needed_if order those id true is reason again x (inl same) = subst HasReason same (reason (only_needed order id is))
    needed_if order those id true is reason again x (inr further) = let need = only_needed order id is in again need (reason need) x further
    needed_if order those id false is reason again x here = absurd here

    all_needed : (n : ℕ) (order : List StageId) (source : Option StageId) → ((s : StageId) → source ≡ Some s → IsNeeded s → HasReason s) → HaveReasons (needed scene order n source)
    unfolding needed
    all_needed zero order source reason x here = absurd here
    all_needed (suc n) order None reason x here = absurd here
    all_needed (suc n) order (Some id) reason x here =
        needed_if order (needed scene (order ++ id ∷ []) n (first_source scene id)) id (needs order id) refl (reason id refl)
        (λ need given y at. all_needed n (order ++ id ∷ []) (first_source scene id) (λ s first wants. leads_well id s given (lead_first id need ∙ first) wants) y at) x here

    put_reason : (order : List StageId) (id : StageId) → lead scene id ≡ source_of scene id → HasReason id → HaveReasons order → HaveReasons (put_stage scene order id)
    put_reason order id leads reason all x here = elim (in-append order (reverse (needed scene order most_needed (source_of scene id)) ++ id ∷ []) x here) [
      | inl old ↦ all x old
      | inr new ↦ elim (in-append (reverse (needed scene order most_needed (source_of scene id))) (id ∷ []) x new) [
        | inl among ↦
            all_needed most_needed order (source_of scene id) (λ s first wants. leads_well id s reason (leads ∙ first) wants) x (in_unreversed (needed scene order most_needed (source_of scene id)) x among)
        | inr last ↦ elim last [ inl same ↦ subst HasReason same reason | inr never ↦ absurd never ]
      ]
    ]

    before_reason : (n place : ℕ) (previous : Option ℕ) → scene.known.relations.attempts.previous place ≡ previous → (x : StageId) → In (map Tried (attempts_before scene n previous)) x → HasReason x
    unfolding attempts_before
    before_reason zero place previous is x here = absurd here
    before_reason (suc n) place None is x here = absurd here
    before_reason (suc n) place (Some call) is x (inl same) = subst HasReason same (place, leads_on place call is)
    before_reason (suc n) place (Some call) is x (inr further) = before_reason n call (scene.known.relations.attempts.previous call) refl x further

    tried_reason : (place : ℕ) (b : Bool) (x : StageId) → In (cond b [] (map Tried (attempts_before scene most_needed (scene.known.relations.attempts.previous place)))) x → HasReason x
    tried_reason place true x here = absurd here
    tried_reason place false x here = before_reason most_needed place (scene.known.relations.attempts.previous place) refl x here

    end_reason : (order : List StageId) (place : ℕ) (b : Bool) → gave_up scene.known place ≡ b → HaveReasons order
        → HaveReasons (cond b (put_stage scene order (Answer place) ++ (Limit place ∷ Whole place ∷ [])) (put_stage scene order (Whole place)))
    end_reason order place true gave all x here = elim (in-append (put_stage scene order (Answer place)) (Limit place ∷ Whole place ∷ []) x here) [
      | inl old ↦ put_reason order (Answer place) refl gave all x old
      | inr new ↦ elim new [
        | inl same ↦ subst HasReason same gave
        | inr further ↦ elim further [ inl same ↦ subst HasReason same tt | inr never ↦ absurd never ]
      ]
    ]
    end_reason order place false gave all x here = put_reason order (Whole place) (ap (λ b. cond b None (source_of scene (Whole place))) gave) tt all x here

    visit_reason : (order : List StageId) (visit : Visit) → HaveReasons order → HaveReasons (visited scene order visit)
    visit_reason order (Enters place) all x here = by_two (scene.known.has_two place) x here
      where
        by_two : (b : Bool) → HaveReasons (cond b (put_stage scene order (Start place)) order)
        by_two true = put_reason order (Start place) refl tt all
        by_two false = all
    visit_reason order (Leaves place) all x here = elim (in-append (put_end scene order place) (tried_before scene place) x here) [
      | inl old ↦ end_reason order place (gave_up scene.known place) refl all x old
      | inr new ↦ tried_reason place (is_some (scene.known.relations.attempts.next place)) x new
    ]

    pub all_reasons : (order : List StageId) (some : List Visit) → HaveReasons order → HaveReasons (fold (visited scene) order some)
    all_reasons order [] all = all
    all_reasons order (visit ∷ some) all = all_reasons (visited scene order visit) some (visit_reason order visit all)

  -- ---- what visits put

  visit_keeps : (order : List StageId) (visit : Visit) (other : StageId) → In order other → In (visited scene order visit) other
  visit_keeps order (Enters place) other here = by_two (scene.known.has_two place)
    where
      by_two : (b : Bool) → In (cond b (put_stage scene order (Start place)) order) other
      by_two true = put_keeps order (Start place) other here
      by_two false = here
  visit_keeps order (Leaves place) other here = in-front (put_end scene order place) (tried_before scene place) other (by_gave (gave_up scene.known place))
    where
      by_gave : (b : Bool) → In (cond b (put_stage scene order (Answer place) ++ (Limit place ∷ Whole place ∷ [])) (put_stage scene order (Whole place))) other
      by_gave true = in-front (put_stage scene order (Answer place)) (Limit place ∷ Whole place ∷ []) other (put_keeps order (Answer place) other here)
      by_gave false = put_keeps order (Whole place) other here

  all_keep : (order : List StageId) (some : List Visit) (other : StageId) → In order other → In (fold (visited scene) order some) other
  all_keep order [] other here = here
  all_keep order (visit ∷ some) other here = all_keep (visited scene order visit) some other (visit_keeps order visit other here)

  -- what one visit puts is put in the end
  pub put_by : (visit : Visit) (id : StageId) → ((order : List StageId) → In (visited scene order visit) id) → (order : List StageId) (some : List Visit) → In some visit → In (fold (visited scene) order some) id
  put_by visit id puts order [] here = absurd here
  put_by visit id puts order (first ∷ some) (inl same) = all_keep (visited scene order first) some id (subst (λ v. In (visited scene order v) id) (sym same) (puts order))
  put_by visit id puts order (first ∷ some) (inr further) = put_by visit id puts (visited scene order first) some further

  pub start_put : (place : ℕ) → scene.known.has_two place ≡ true → (order : List StageId) (some : List Visit) → In some (Enters place) → In (fold (visited scene) order some) (Start place)
  start_put place two = put_by (Enters place) (Start place) (λ order. subst (λ b. In (cond b (put_stage scene order (Start place)) order) (Start place)) (sym two) (puts_itself order (Start place)))

  pub whole_put : (place : ℕ) (order : List StageId) (some : List Visit) → In some (Leaves place) → In (fold (visited scene) order some) (Whole place)
  whole_put place = put_by (Leaves place) (Whole place) (λ order. in-front (put_end scene order place) (tried_before scene place) (Whole place) (by_gave order (gave_up scene.known place)))
    where
      by_gave : (order : List StageId) (b : Bool) → In (cond b (put_stage scene order (Answer place) ++ (Limit place ∷ Whole place ∷ [])) (put_stage scene order (Whole place))) (Whole place)
      by_gave order true = in-back (put_stage scene order (Answer place)) (Limit place ∷ Whole place ∷ []) (Whole place) (inr (inl refl))
      by_gave order false = puts_itself order (Whole place)

  pub limit_put : (place : ℕ) → gave_up scene.known place ≡ true → (order : List StageId) (some : List Visit) → In some (Leaves place) → In (fold (visited scene) order some) (Limit place)
  limit_put place gave = put_by (Leaves place) (Limit place) (λ order. in-front (put_end scene order place) (tried_before scene place) (Limit place)
      (subst (λ b. In (cond b (put_stage scene order (Answer place) ++ (Limit place ∷ Whole place ∷ [])) (put_stage scene order (Whole place))) (Limit place)) (sym gave)
      (in-back (put_stage scene order (Answer place)) (Limit place ∷ Whole place ∷ []) (Limit place) (inl refl))))

  pub answer_put : (place : ℕ) → gave_up scene.known place ≡ true → (order : List StageId) (some : List Visit) → In some (Leaves place) → In (fold (visited scene) order some) (Answer place)
  answer_put place gave = put_by (Leaves place) (Answer place) (λ order. in-front (put_end scene order place) (tried_before scene place) (Answer place)
      (subst (λ b. In (cond b (put_stage scene order (Answer place) ++ (Limit place ∷ Whole place ∷ [])) (put_stage scene order (Whole place))) (Answer place)) (sym gave)
      (in-front (put_stage scene order (Answer place)) (Limit place ∷ Whole place ∷ []) (Answer place) (puts_itself order (Answer place)))))

  pub tried_put : (place call : ℕ) → scene.known.relations.attempts.next place ≡ None → In (map Tried (attempts_before scene most_needed (scene.known.relations.attempts.previous place))) (Tried call)
      → (order : List StageId) (some : List Visit) → In some (Leaves place) → In (fold (visited scene) order some) (Tried call)
  tried_put place call last here = put_by (Leaves place) (Tried call) (λ order. in-back (put_end scene order place) (tried_before scene place) (Tried call)
      (subst (λ found. In (cond (is_some found) [] (map Tried (attempts_before scene most_needed (scene.known.relations.attempts.previous place)))) (Tried call)) (sym last) here))
