-- The order of stages has each once, and what a stage needs before that stage.
use Rattle.std.proofs.Common.{◌≡◌, ℕ, suc, zero, ◌+◌, ◌<◌, ◌≤◌, List, [], ◌∷◌, ◌++◌, Bool, true, false, cond, length, fold, reverse, Option, Some, None, refl, sym, ap, ◌∙◌, inl, inr, subst, arith}
use Rattle.std.specs.Prelude.{◌⊎◌, ◌&&◌, ◌||◌, nat_eq, not}
use Rattle.std.specs.List.{list_any}
use Rattle.std.proofs.lemmas.Bool.{true≢false}
use Rattle.std.proofs.lemmas.Bool.Decides.{nat_tests}
use Rattle.std.proofs.lemmas.List.{append-nil, append_assoc, length-append, length-reverse, reverse-append}
use Rattle.std.proofs.lemmas.Option.{none-some, same_Some}
use Rattle.trace_stages.specs.Known.{gave_up}
use Rattle.trace_stages.specs.Order.{first_source, is_entry, is_join, is_work, most_needed, needed, needs, ordered, put_end, put_stage, source_of, tried_before, visited}
use Rattle.trace_stages.specs.Scene.{PlainScene}
use Rattle.trace_stages.specs.declared.tour.visit.Visit.{Visit}
use Rattle.trace_stages.specs.declared.tour.visit.Visit.TheVariants.{Enters, Leaves}
use Rattle.trace_stages.specs.declared.walk.stage_id.StageId.{StageId}
use Rattle.trace_stages.specs.declared.walk.stage_id.StageId.TheVariants.{Start, Whole, Entry, Join, Work, Tried, Limit, Answer}
use Rattle.trace_laws.proofs.Members.{AreDistinct, IsIn, distinct_append, in_back, in_either, in_front}

-- ---- joins and own work that are put, or not yet

abbrev pub IsNeeded : StageId → Type 0
IsNeeded (Entry span number) = Unit {0}
IsNeeded (Join span number) = Unit {0}
IsNeeded (Work span number) = Unit {0}
IsNeeded other = ⊥

both_same : (a b c d : ℕ) → (nat_eq a b && nat_eq c d) ≡ true → (a ≡ b) × (c ≡ d)
both_same a b c d h = (grind (arith, nat_tests), grind (arith, nat_tests))

same_both : (a c : ℕ) → (nat_eq a a && nat_eq c c) ≡ true
same_both a c = grind (arith, nat_tests)

join_is : (span number : ℕ) (id : StageId) → is_join span number id ≡ true → Join span number ≡ id
join_is span number (Join other count) h = let same = both_same span other number count h in let a : span ≡ other = same.0 in let b : number ≡ count = same.1 in cc
join_is span number other h = absurd (true≢false (sym h))

entry_is : (span number : ℕ) (id : StageId) → is_entry span number id ≡ true → Entry span number ≡ id
entry_is span number (Entry other count) h = let same = both_same span other number count h in let a : span ≡ other = same.0 in let b : number ≡ count = same.1 in cc
entry_is span number other h = absurd (true≢false (sym h))

work_is : (span number : ℕ) (id : StageId) → is_work span number id ≡ true → Work span number ≡ id
work_is span number (Work other count) h = let same = both_same span other number count h in let a : span ≡ other = same.0 in let b : number ≡ count = same.1 in cc
work_is span number other h = absurd (true≢false (sym h))

any_is : (p : StageId → Bool) (id : StageId) → ((x : StageId) → p x ≡ true → id ≡ x) → (order : List StageId) → list_any p order ≡ true → IsIn id order
any_is p id is [] h = absurd (true≢false (sym h))
any_is p id is (x ∷ xs) h = by (p x) refl (any_is p id is xs) h
  where
    by : (b : Bool) → p x ≡ b → (list_any p xs ≡ true → IsIn id xs) → (b || list_any p xs) ≡ true → IsIn id (x ∷ xs)
    by true e rest any = inl (is x e)
    by false e rest any = inr (rest any)

or_true : (b : Bool) → (b || true) ≡ true
or_true true = refl
or_true false = refl

is_any : (p : StageId → Bool) (id : StageId) → p id ≡ true → (order : List StageId) → IsIn id order → list_any p order ≡ true
is_any p id is [] h = absurd h
is_any p id is (x ∷ xs) h = elim h [
  | inl e ↦ ap (λ b. b || list_any p xs) (ap p (sym e) ∙ is)
  | inr t ↦ ap (λ b. p x || b) (is_any p id is xs t) ∙ or_true (p x)
]

not_true : (b : Bool) → not b ≡ true → b ≡ false
not_true true h = absurd (true≢false (sym h))
not_true false h = refl

not_false : (b : Bool) → not b ≡ false → b ≡ true
not_false true h = refl
not_false false h = absurd (true≢false h)

needs_needed : (order : List StageId) (id : StageId) → needs order id ≡ true → IsNeeded id
needs_needed order (Entry span number) h = tt
needs_needed order (Join span number) h = tt
needs_needed order (Work span number) h = tt
needs_needed order other h = absurd (true≢false (sym h))

needs_new : (order : List StageId) (id : StageId) → needs order id ≡ true → IsIn id order → ⊥
needs_new order (Entry span number) h here = true≢false (sym (is_any (is_entry span number) (Entry span number) (same_both span number) order here) ∙ not_true _ h)
needs_new order (Join span number) h here = true≢false (sym (is_any (is_join span number) (Join span number) (same_both span number) order here) ∙ not_true _ h)
needs_new order (Work span number) h here = true≢false (sym (is_any (is_work span number) (Work span number) (same_both span number) order here) ∙ not_true _ h)
needs_new order other h here = true≢false (sym h)

needs_none : (order : List StageId) (id : StageId) → needs order id ≡ false → IsNeeded id → IsIn id order
needs_none order (Entry span number) h is = any_is (is_entry span number) (Entry span number) (entry_is span number) order (not_false _ h)
needs_none order (Join span number) h is = any_is (is_join span number) (Join span number) (join_is span number) order (not_false _ h)
needs_none order (Work span number) h is = any_is (is_work span number) (Work span number) (work_is span number) order (not_false _ h)
needs_none order other h is = absurd is

-- ---- reversed lists

module _ {X : Type 0} where
  last_first : (y : X) (ys : List X) → reverse (y ∷ ys) ≡ reverse ys ++ y ∷ []
  last_first y ys = reverse-append (y ∷ []) ys

  in_reverse : (xs : List X) (x : X) → IsIn x (reverse xs) → IsIn x xs
  in_reverse [] x h = h
  in_reverse (y ∷ ys) x h = elim (in_either x (reverse ys) (y ∷ []) (subst (λ (l : List X). IsIn x l) (last_first y ys) h)) [
    | inl l ↦ inr (in_reverse ys x l)
    | inr r ↦ elim r [ inl e ↦ inl e | inr none ↦ absurd none ]
  ]

  reverse_in : (xs : List X) (x : X) → IsIn x xs → IsIn x (reverse xs)
  reverse_in [] x h = h
  reverse_in (y ∷ ys) x h =
      let parts : IsIn x (reverse ys ++ y ∷ []) = elim h [ inl e ↦ in_back x (reverse ys) (y ∷ []) (inl e) | inr t ↦ in_front x (reverse ys) (y ∷ []) (reverse_in ys x t) ] in
      subst (λ (l : List X). IsIn x l) (sym (last_first y ys)) parts

  distinct_reverse : (xs : List X) → AreDistinct xs → AreDistinct (reverse xs)
  distinct_reverse [] all = tt
  distinct_reverse (y ∷ ys) all =
      let parts = distinct_append (reverse ys) (y ∷ []) (distinct_reverse ys all.1) (λ h. h, tt) (λ x l r. elim r [ inl e ↦ all.0 (subst (λ (z : X). IsIn z ys) e (in_reverse ys x l)) | inr none ↦ none ]) in
      subst (λ (l : List X). AreDistinct l) (sym (last_first y ys)) parts

-- ---- what is needed first

module _ (scene : PlainScene) (IsStage : StageId → Type 0) where
  -- the one source that may be a join or own work
  abbrev pub lead : StageId → Option StageId
  lead (Start place) = source_of scene (Start place)
  lead (Whole place) = cond (gave_up scene.known place) None (source_of scene (Whole place))
  lead (Answer place) = source_of scene (Answer place)
  lead (Entry span number) = first_source scene (Entry span number)
  lead (Join span number) = first_source scene (Join span number)
  lead (Work span number) = first_source scene (Work span number)
  lead other = None

  abbrev pub LeadsToStages : Type 0
  LeadsToStages = (id s : StageId) → IsStage id → lead id ≡ Some s → IsStage s

  lead_of_join : (id : StageId) → IsNeeded id → lead id ≡ first_source scene id
  lead_of_join (Entry span number) h = refl
  lead_of_join (Join span number) h = refl
  lead_of_join (Work span number) h = refl
  lead_of_join other h = absurd h

  record AreNeeded (order : List StageId) (source : Option StageId) (found : List StageId) : Type 0 where
    joins : (id : StageId) → IsIn id found → IsNeeded id
    new : (id : StageId) → IsIn id found → IsIn id order → ⊥
    distinct : AreDistinct found
    stages : (id : StageId) → IsIn id found → IsStage id

  record AreClosed (order : List StageId) (source : Option StageId) (found : List StageId) : Type 0 where
    source_in : (id : StageId) → source ≡ Some id → IsNeeded id → IsIn id (found ++ order)
    leads_in : (id s : StageId) → IsIn id found → lead id ≡ Some s → IsNeeded s → IsIn s (found ++ order)

  none_needed : (order : List StageId) (source : Option StageId) → AreNeeded order source []
  none_needed order source = record { joins = λ id h. absurd h; new = λ id h. absurd h; distinct = tt; stages = λ id h. absurd h }

  one_more : (order : List StageId) (id : StageId) (source : Option StageId) (found : List StageId) → needs order id ≡ true → IsStage id → AreNeeded (order ++ id ∷ []) source found → AreNeeded order (Some id) (id ∷ found)
  one_more order id source found need is rest = record {
    joins = λ x h. elim h [ inl e ↦ subst IsNeeded (sym e) (needs_needed order id need) | inr t ↦ rest.joins x t ];
    new = λ x h here. elim h [ inl e ↦ needs_new order id need (subst (λ (z : StageId). IsIn z order) e here) | inr t ↦ rest.new x t (in_front x order (id ∷ []) here) ];
    distinct = (λ h. rest.new id h (in_back id order (id ∷ []) (inl refl)), rest.distinct);
    stages = λ x h. elim h [ inl e ↦ subst IsStage (sym e) is | inr t ↦ rest.stages x t ];
  }

  moved : (order found : List StageId) (id x : StageId) → IsIn x (found ++ (order ++ id ∷ [])) → IsIn x (id ∷ (found ++ order))
  moved order found id x h = elim (in_either x found (order ++ id ∷ []) h) [
    | inl l ↦ inr (in_front x found order l)
    | inr r ↦ elim (in_either x order (id ∷ []) r) [ inl l ↦ inr (in_back x found order l) | inr e ↦ elim e [ inl same ↦ inl same | inr none ↦ absurd none ] ]
  ]

  one_closed : (order : List StageId) (id : StageId) (found : List StageId) → IsNeeded id → AreClosed (order ++ id ∷ []) (first_source scene id) found → AreClosed order (Some id) (id ∷ found)
  one_closed order id found join rest = record {
    source_in = λ x e h. inl (sym (same_Some id x e));
    leads_in = λ x s h e is. elim h [
      | inl same ↦ moved order found id s (rest.source_in s (sym (lead_of_join id join) ∙ ap lead (sym same) ∙ e) is)
      | inr t ↦ moved order found id s (rest.leads_in x s t e is)
    ];
  }

  abbrev needed_if : Bool → List StageId → ℕ → StageId → List StageId
  needed_if b order n id = cond b (id ∷ needed scene (order ++ id ∷ []) n (first_source scene id)) []

  are_needed : LeadsToStages → (n : ℕ) (order : List StageId) (source : Option StageId) → ((id : StageId) → source ≡ Some id → IsStage id) → AreNeeded order source (needed scene order n source)
  unfolding needed
  are_needed leads zero order source is = none_needed order source
  are_needed leads (suc n) order None is = none_needed order None
  are_needed leads (suc n) order (Some id) is =
      by (needs order id) refl (λ need. are_needed leads n (order ++ id ∷ []) (first_source scene id) (λ s e. leads id s (is id refl) (lead_of_join id (needs_needed order id need) ∙ e)))
    where
      by : (b : Bool) → needs order id ≡ b → (needs order id ≡ true → AreNeeded (order ++ id ∷ []) (first_source scene id) (needed scene (order ++ id ∷ []) n (first_source scene id))) → AreNeeded order (Some id) (needed_if b order n id)
      by true e rest = one_more order id (first_source scene id) (needed scene (order ++ id ∷ []) n (first_source scene id)) e (is id refl) (rest e)
      by false e rest = none_needed order (Some id)

  -- where fewer are needed than there may be, no join is left out
  are_closed : (n : ℕ) (order : List StageId) (source : Option StageId) → length (needed scene order n source) < n → AreClosed order source (needed scene order n source)
  unfolding needed
  are_closed zero order source few = absurd (omega arith)
  are_closed (suc n) order None few = record { source_in = λ id e h. absurd (none-some id e); leads_in = λ id s h. absurd h }
  are_closed (suc n) order (Some id) few = by (needs order id) refl few (λ fewer. are_closed n (order ++ id ∷ []) (first_source scene id) fewer)
    where
      by : (b : Bool) → needs order id ≡ b → length (needed_if b order n id) < suc n
          → (length (needed scene (order ++ id ∷ []) n (first_source scene id)) < n → AreClosed (order ++ id ∷ []) (first_source scene id) (needed scene (order ++ id ∷ []) n (first_source scene id)))
          → AreClosed order (Some id) (needed_if b order n id)
      by true e low rest = one_closed order id (needed scene (order ++ id ∷ []) n (first_source scene id)) (needs_needed order id e) (rest (omega arith))
      by false e low rest = record {
        source_in = λ x same h. subst (λ (z : StageId). IsIn z order) (same_Some id x same) (needs_none order id e (subst IsNeeded (sym (same_Some id x same)) h));
        leads_in = λ x s h. absurd h;
      }

  -- ---- a stage is put

  abbrev found_for : List StageId → StageId → List StageId
  found_for order id = needed scene order most_needed (source_of scene id)

  in_put : (order : List StageId) (id x : StageId) → IsIn x (put_stage scene order id) → IsIn x order ⊎ (IsIn x (found_for order id) ⊎ (x ≡ id))
  in_put order id x h = elim (in_either x order (reverse (found_for order id) ++ id ∷ []) h) [
    | inl l ↦ inl l
    | inr r ↦ elim (in_either x (reverse (found_for order id)) (id ∷ []) r) [ inl l ↦ inr (inl (in_reverse (found_for order id) x l)) | inr e ↦ elim e [ inl same ↦ inr (inr same) | inr none ↦ absurd none ] ]
  ]

  old_put : (order : List StageId) (id x : StageId) → IsIn x order → IsIn x (put_stage scene order id)
  old_put order id x h = in_front x order (reverse (found_for order id) ++ id ∷ []) h

  found_put : (order : List StageId) (id x : StageId) → IsIn x (found_for order id) → IsIn x (put_stage scene order id)
  found_put order id x h = in_back x order (reverse (found_for order id) ++ id ∷ []) (in_front x (reverse (found_for order id)) (id ∷ []) (reverse_in (found_for order id) x h))

  self_put : (order : List StageId) (id : StageId) → IsIn id (put_stage scene order id)
  self_put order id = in_back id order (reverse (found_for order id) ++ id ∷ []) (in_back id (reverse (found_for order id)) (id ∷ []) (inl refl))

  either_put : (order : List StageId) (id x : StageId) → IsIn x (found_for order id ++ order) → IsIn x (put_stage scene order id)
  either_put order id x h = elim (in_either x (found_for order id) order h) [ inl l ↦ found_put order id x l | inr r ↦ old_put order id x r ]

  length_put : (order : List StageId) (id : StageId) → length (put_stage scene order id) ≡ length order + (length (found_for order id) + 1)
  length_put order id =
      length-append order (reverse (found_for order id) ++ id ∷ [])
      ∙ ap (λ n. length order + n) (length-append (reverse (found_for order id)) (id ∷ []) ∙ ap (λ n. n + 1) (length-reverse (found_for order id)))

  pub record IsGoodOrder (order : List StageId) : Type 0 where
    pub distinct : AreDistinct order
    pub stages : (x : StageId) → IsIn x order → IsStage x
    pub closed : (x s : StageId) → IsIn x order → lead x ≡ Some s → IsNeeded s → IsIn s order

  is_put : LeadsToStages → (order : List StageId) (id : StageId) → IsGoodOrder order → (IsNeeded id → ⊥) → lead id ≡ source_of scene id → (IsIn id order → ⊥) → IsStage id
      → length (put_stage scene order id) ≤ most_needed → IsGoodOrder (put_stage scene order id)
  is_put leads order id good single leads_from new is few =
      let found = found_for order id in
      let need = are_needed leads most_needed order (source_of scene id) (λ s e. leads id s is (leads_from ∙ e)) in
      let closes = are_closed most_needed order (source_of scene id) (omega (arith, length_put order id)) in
      record {
        distinct = distinct_append order (reverse found ++ id ∷ []) good.distinct
            (distinct_append (reverse found) (id ∷ []) (distinct_reverse found need.distinct) (λ h. h, tt)
            (λ x l r. elim r [ inl e ↦ single (subst IsNeeded e (need.joins x (in_reverse found x l))) | inr none ↦ none ]))
            (λ x l r. elim (in_either x (reverse found) (id ∷ []) r) [
              | inl h ↦ need.new x (in_reverse found x h) l
              | inr h ↦ elim h [ inl e ↦ new (subst (λ (z : StageId). IsIn z order) e l) | inr none ↦ none ]
            ]);
        stages = λ x h. elim (in_put order id x h) [ inl l ↦ good.stages x l | inr r ↦ elim r [ inl f ↦ need.stages x f | inr e ↦ subst IsStage (sym e) is ] ];
        closed = λ x s h e join. elim (in_put order id x h) [
          | inl l ↦ old_put order id s (good.closed x s l e join)
          | inr r ↦ elim r [
            | inl f ↦ either_put order id s (closes.leads_in x s f e join)
            | inr same ↦ either_put order id s (closes.source_in s (sym leads_from ∙ ap lead (sym same) ∙ e) join)
          ]
        ];
      }

  -- with stages more, of which none leads to another
  appended : (order more : List StageId) → IsGoodOrder order → AreDistinct more → ((x : StageId) → IsIn x more → IsIn x order → ⊥) → ((x : StageId) → IsIn x more → IsStage x) → ((x : StageId) → IsIn x more → lead x ≡ None)
      → IsGoodOrder (order ++ more)
  appended order more good distinct new stages none = record {
    distinct = distinct_append order more good.distinct distinct (λ x l r. new x r l);
    stages = λ x h. elim (in_either x order more h) [ inl l ↦ good.stages x l | inr r ↦ stages x r ];
    closed = λ x s h e need. elim (in_either x order more h) [
      | inl l ↦ in_front s order more (good.closed x s l e need)
      | inr r ↦ absurd (none-some s (sym (none x r) ∙ e))
    ];
  }

-- ---- calls that were tried again

-- what is put behind the last attempt of a call
pub record TriesWell (scene : PlainScene) (IsStage : StageId → Type 0) (Of : ℕ → ℕ → Type 0) : Type 0 where
  pub distinct : (last : ℕ) → AreDistinct (tried_before scene last)
  pub of : (last : ℕ) (id : StageId) → IsIn id (tried_before scene last) → (place : ℕ) × (id ≡ Tried place) × Of place last
  pub one : (place last other : ℕ) → Of place last → Of place other → last ≡ other
  pub stages : (last : ℕ) (id : StageId) → IsIn id (tried_before scene last) → IsStage id

module _ (scene : PlainScene) (IsStage : StageId → Type 0) (Of : ℕ → ℕ → Type 0) (tries : TriesWell scene IsStage Of) (leads : LeadsToStages scene IsStage) where
  abbrev IsGood : List StageId → Type 0
  IsGood order = IsGoodOrder scene IsStage order

  abbrev put : List StageId → StageId → List StageId
  put order id = put_stage scene order id

  -- ---- visits

  abbrev pub OfSeen : List Visit → StageId → Type 0
  OfSeen seen (Start place) = IsIn (Enters place) seen
  OfSeen seen (Whole place) = IsIn (Leaves place) seen
  OfSeen seen (Limit place) = IsIn (Leaves place) seen
  OfSeen seen (Answer place) = IsIn (Leaves place) seen
  OfSeen seen (Tried place) = (last : ℕ) × Of place last × IsIn (Leaves last) seen
  OfSeen seen other = Unit {0}

  of_more : (seen more : List Visit) (id : StageId) → OfSeen seen id → OfSeen (seen ++ more) id
  of_more seen more (Start place) h = in_front (Enters place) seen more h
  of_more seen more (Whole place) h = in_front (Leaves place) seen more h
  of_more seen more (Limit place) h = in_front (Leaves place) seen more h
  of_more seen more (Answer place) h = in_front (Leaves place) seen more h
  of_more seen more (Tried place) h = (h.0, h.1, in_front (Leaves h.0) seen more h.2)
  of_more seen more other h = tt

  of_last : (seen more : List Visit) (id : StageId) → OfSeen more id → OfSeen (seen ++ more) id
  of_last seen more (Start place) h = in_back (Enters place) seen more h
  of_last seen more (Whole place) h = in_back (Leaves place) seen more h
  of_last seen more (Limit place) h = in_back (Leaves place) seen more h
  of_last seen more (Answer place) h = in_back (Leaves place) seen more h
  of_last seen more (Tried place) h = (h.0, h.1, in_back (Leaves h.0) seen more h.2)
  of_last seen more other h = tt

  of_needed : (seen : List Visit) (id : StageId) → IsNeeded id → OfSeen seen id
  of_needed seen (Entry span number) h = tt
  of_needed seen (Join span number) h = tt
  of_needed seen (Work span number) h = tt
  of_needed seen other h = absurd h

  -- the ends of a span
  abbrev pub ends_of : ℕ → List StageId
  ends_of place = cond (gave_up scene.known place) (Answer place ∷ Limit place ∷ Whole place ∷ []) (Whole place ∷ [])

  -- and what calls came to that were tried again, of which it was the last attempt
  abbrev pub left_by : ℕ → List StageId
  left_by place = ends_of place ++ tried_before scene place

  pub record IsOrdered (seen : List Visit) (order : List StageId) : Type 0 where
    pub good : IsGood order
    pub of_seen : (x : StageId) → IsIn x order → OfSeen seen x
    pub entered : (place : ℕ) → IsIn (Enters place) seen → scene.known.has_two place ≡ true → IsIn (Start place) order
    pub left : (place : ℕ) → IsIn (Leaves place) seen → (id : StageId) → IsIn id (left_by place) → IsIn id order

  -- what one visit puts
  record IsStep (visit : Visit) (order : List StageId) (after : List StageId) : Type 0 where
    good : IsGood after
    old : (x : StageId) → IsIn x order → IsIn x after
    of : (x : StageId) → IsIn x after → IsIn x order ⊎ OfSeen (visit ∷ []) x
    entered : (place : ℕ) → visit ≡ Enters place → scene.known.has_two place ≡ true → IsIn (Start place) after
    left : (place : ℕ) → visit ≡ Leaves place → (id : StageId) → IsIn id (left_by place) → IsIn id after

  stepped : (seen : List Visit) (order : List StageId) (visit : Visit) (after : List StageId) → IsOrdered seen order → IsStep visit order after → IsOrdered (seen ++ visit ∷ []) after
  stepped seen order visit after before step = record {
    good = step.good;
    of_seen = λ x h. elim (step.of x h) [ inl l ↦ of_more seen (visit ∷ []) x (before.of_seen x l) | inr r ↦ of_last seen (visit ∷ []) x r ];
    entered = λ place h two. elim (in_either (Enters place) seen (visit ∷ []) h) [
      | inl l ↦ step.old (Start place) (before.entered place l two)
      | inr r ↦ elim r [ inl e ↦ step.entered place (sym e) two | inr none ↦ absurd none ]
    ];
    left = λ place h id t. elim (in_either (Leaves place) seen (visit ∷ []) h) [
      | inl l ↦ step.old id (before.left place l id t)
      | inr r ↦ elim r [ inl e ↦ step.left place (sym e) id t | inr none ↦ absurd none ]
    ];
  }

  enter_differs : (a b : ℕ) → Enters a ≡ Leaves b → ⊥
  enter_differs a b e = cc

  same_enter : (a b : ℕ) → Enters a ≡ Enters b → a ≡ b
  same_enter a b e = cc

  same_leave : (a b : ℕ) → Leaves a ≡ Leaves b → a ≡ b
  same_leave a b e = cc

  -- what is put with a stage is old, or needed, or the stage
  put_of : (order : List StageId) (id : StageId) → IsStage id → lead scene IsStage id ≡ source_of scene id → (x : StageId) → IsIn x (put order id) → IsIn x order ⊎ (IsNeeded x ⊎ (x ≡ id))
  put_of order id is leads_from x h = elim (in_put scene IsStage order id x h) [
    | inl l ↦ inl l
    | inr r ↦ elim r [
      | inl f ↦ (
          let need = are_needed scene IsStage leads most_needed order (source_of scene id) (λ s e. leads id s is (leads_from ∙ e)) in
          inr (inl (need.joins x f))
          )
      | inr e ↦ inr (inr e)
    ]
  ]

  -- ---- a span is entered

  enters : (seen : List Visit) (order : List StageId) (place : ℕ) (b : Bool) → scene.known.has_two place ≡ b → (scene.known.has_two place ≡ true → IsStage (Start place)) → IsOrdered seen order → (IsIn (Enters place) seen → ⊥)
      → length (cond b (put order (Start place)) order) ≤ most_needed → IsStep (Enters place) order (cond b (put order (Start place)) order)
  enters seen order place true two is before new few = record {
    good = is_put scene IsStage leads order (Start place) before.good (λ h. h) refl (λ h. new (before.of_seen (Start place) h)) (is two) few;
    old = λ x h. old_put scene IsStage order (Start place) x h;
    of = λ x h. elim (put_of order (Start place) (is two) refl x h) [
      | inl l ↦ inl l
      | inr r ↦ elim r [ inl need ↦ inr (of_needed (Enters place ∷ []) x need) | inr e ↦ inr (subst (λ (z : StageId). OfSeen (Enters place ∷ []) z) (sym e) (inl refl)) ]
    ];
    entered = λ p e has. subst (λ (q : ℕ). IsIn (Start q) (put order (Start place))) (same_enter place p e) (self_put scene IsStage order (Start place));
    left = λ p e. absurd (enter_differs place p e);
  }
  enters seen order place false two is before new few = record {
    good = before.good;
    old = λ x h. h;
    of = λ x h. inl h;
    entered = λ p e has. absurd (true≢false (sym has ∙ ap scene.known.has_two (sym (same_enter place p e)) ∙ two));
    left = λ p e. absurd (enter_differs place p e);
  }

  -- ---- a span is left

  -- the stages that a span is left with
  pub record LeavesStages (place : ℕ) : Type 0 where
    pub whole : IsStage (Whole place)
    pub limit : gave_up scene.known place ≡ true → IsStage (Limit place)
    pub answer : gave_up scene.known place ≡ true → IsStage (Answer place)

  abbrev IsEndOf : ℕ → StageId → Type 0
  IsEndOf place x = (x ≡ Answer place) ⊎ ((x ≡ Limit place) ⊎ (x ≡ Whole place))

  -- with the ends of a span
  record HasEnds (order : List StageId) (place : ℕ) (after : List StageId) : Type 0 where
    good : IsGood after
    old : (x : StageId) → IsIn x order → IsIn x after
    of : (x : StageId) → IsIn x after → IsIn x order ⊎ (IsNeeded x ⊎ IsEndOf place x)
    own : (x : StageId) → IsIn x (ends_of place) → IsIn x after

  answer_limit : (p q : ℕ) → Answer p ≡ Limit q → ⊥
  answer_limit p q e = cc

  answer_whole : (p q : ℕ) → Answer p ≡ Whole q → ⊥
  answer_whole p q e = cc

  limit_whole : (p q : ℕ) → Limit p ≡ Whole q → ⊥
  limit_whole p q e = cc

  tried_answer : (p q : ℕ) → Tried p ≡ Answer q → ⊥
  tried_answer p q e = cc

  tried_limit : (p q : ℕ) → Tried p ≡ Limit q → ⊥
  tried_limit p q e = cc

  tried_whole : (p q : ℕ) → Tried p ≡ Whole q → ⊥
  tried_whole p q e = cc

  -- the limit and the end behind the answer
  new_limit : (seen : List Visit) (order : List StageId) (place : ℕ) → IsStage (Answer place) → IsOrdered seen order → (IsIn (Leaves place) seen → ⊥) → IsIn (Limit place) (put order (Answer place)) → ⊥
  new_limit seen order place is before new h = elim (put_of order (Answer place) is refl (Limit place) h) [
    | inl l ↦ new (before.of_seen (Limit place) l)
    | inr r ↦ elim r [ inl need ↦ need | inr e ↦ answer_limit place place (sym e) ]
  ]

  new_whole : (seen : List Visit) (order : List StageId) (place : ℕ) → IsStage (Answer place) → IsOrdered seen order → (IsIn (Leaves place) seen → ⊥) → IsIn (Whole place) (put order (Answer place)) → ⊥
  new_whole seen order place is before new h = elim (put_of order (Answer place) is refl (Whole place) h) [
    | inl l ↦ new (before.of_seen (Whole place) l)
    | inr r ↦ elim r [ inl need ↦ need | inr e ↦ answer_whole place place (sym e) ]
  ]

  abbrev two_ends : ℕ → List StageId
  two_ends place = Limit place ∷ Whole place ∷ []

  ends : (seen : List Visit) (order : List StageId) (place : ℕ) (b : Bool) → gave_up scene.known place ≡ b → LeavesStages place → IsOrdered seen order → (IsIn (Leaves place) seen → ⊥)
      → length (cond b (put order (Answer place) ++ two_ends place) (put order (Whole place))) ≤ most_needed
      → HasEnds order place (cond b (put order (Answer place) ++ two_ends place) (put order (Whole place)))
  ends seen order place true e are before new few =
      let base = is_put scene IsStage leads order (Answer place) before.good (λ h. h) refl (λ h. new (before.of_seen (Answer place) h)) (are.answer e) (omega (arith, length-append (put order (Answer place)) (two_ends place))) in
      record {
        good = appended scene IsStage (put order (Answer place)) (two_ends place) base
            (λ h. elim h [ inl same ↦ limit_whole place place same | inr none ↦ none ], (λ h. h, tt))
            (λ x h here. elim h [
              | inl same ↦ new_limit seen order place (are.answer e) before new (subst (λ (z : StageId). IsIn z (put order (Answer place))) same here)
              | inr t ↦ elim t [ inl same ↦ new_whole seen order place (are.answer e) before new (subst (λ (z : StageId). IsIn z (put order (Answer place))) same here) | inr none ↦ none ]
            ])
            (λ x h. elim h [
              | inl same ↦ subst IsStage (sym same) (are.limit e)
              | inr t ↦ elim t [ inl same ↦ subst IsStage (sym same) are.whole | inr none ↦ absurd none ]
            ])
            (λ x h. elim h [
              | inl same ↦ ap (lead scene IsStage) same
              | inr t ↦ elim t [ inl same ↦ ap (lead scene IsStage) same ∙ ap (λ c. cond c None (source_of scene (Whole place))) e | inr none ↦ absurd none ]
            ]);
        old = λ x h. in_front x (put order (Answer place)) (two_ends place) (old_put scene IsStage order (Answer place) x h);
        of = λ x h. elim (in_either x (put order (Answer place)) (two_ends place) h) [
          | inl l ↦ elim (put_of order (Answer place) (are.answer e) refl x l) [
            | inl old ↦ inl old
            | inr r ↦ elim r [ inl need ↦ inr (inl need) | inr same ↦ inr (inr (inl same)) ]
          ]
          | inr r ↦ elim r [ inl same ↦ inr (inr (inr (inl same))) | inr t ↦ elim t [ inl same ↦ inr (inr (inr (inr same))) | inr none ↦ absurd none ] ]
        ];
        own = λ x h. own_answer x (subst (λ (c : Bool). IsIn x (cond c (Answer place ∷ two_ends place) (Whole place ∷ []))) e h);
      }
    where
      own_answer : (x : StageId) → IsIn x (Answer place ∷ two_ends place) → IsIn x (put order (Answer place) ++ two_ends place)
      own_answer x h = elim h [
        | inl same ↦ in_front x (put order (Answer place)) (two_ends place) (subst (λ (z : StageId). IsIn z (put order (Answer place))) (sym same) (self_put scene IsStage order (Answer place)))
        | inr t ↦ in_back x (put order (Answer place)) (two_ends place) t
      ]
  ends seen order place false e are before new few =
      let leads_from : lead scene IsStage (Whole place) ≡ source_of scene (Whole place) = ap (λ c. cond c None (source_of scene (Whole place))) e in
      record {
        good = is_put scene IsStage leads order (Whole place) before.good (λ h. h) leads_from (λ h. new (before.of_seen (Whole place) h)) are.whole few;
        old = λ x h. old_put scene IsStage order (Whole place) x h;
        of = λ x h. elim (put_of order (Whole place) are.whole leads_from x h) [
          | inl old ↦ inl old
          | inr r ↦ elim r [ inl need ↦ inr (inl need) | inr same ↦ inr (inr (inr (inr same))) ]
        ];
        own = λ x h. own_whole x (subst (λ (c : Bool). IsIn x (cond c (Answer place ∷ two_ends place) (Whole place ∷ []))) e h);
      }
    where
      own_whole : (x : StageId) → IsIn x (Whole place ∷ []) → IsIn x (put order (Whole place))
      own_whole x h = elim h [
        | inl same ↦ subst (λ (z : StageId). IsIn z (put order (Whole place))) (sym same) (self_put scene IsStage order (Whole place))
        | inr none ↦ absurd none
      ]

  tried_needed : (place : ℕ) → IsNeeded (Tried place) → ⊥
  tried_needed place h = h

  end_seen : (place : ℕ) (x : StageId) → IsEndOf place x → OfSeen (Leaves place ∷ []) x
  end_seen place x h = elim h [
    | inl same ↦ subst (λ (z : StageId). OfSeen (Leaves place ∷ []) z) (sym same) (inl refl)
    | inr r ↦ elim r [ inl same ↦ subst (λ (z : StageId). OfSeen (Leaves place ∷ []) z) (sym same) (inl refl) | inr same ↦ subst (λ (z : StageId). OfSeen (Leaves place ∷ []) z) (sym same) (inl refl) ]
  ]

  tried_no_end : (p place : ℕ) → IsEndOf place (Tried p) → ⊥
  tried_no_end p place h = elim h [ inl same ↦ tried_answer p place same | inr r ↦ elim r [ inl same ↦ tried_limit p place same | inr same ↦ tried_whole p place same ] ]

  -- the last attempt of a call is left once
  new_tried : (seen : List Visit) (order : List StageId) (place p : ℕ) (after : List StageId) → IsOrdered seen order → (IsIn (Leaves place) seen → ⊥) → HasEnds order place after → Of p place → IsIn (Tried p) after → ⊥
  new_tried seen order place p after before new has of h = elim (has.of (Tried p) h) [
    | inl old ↦ (
        let was = before.of_seen (Tried p) old in
        new (subst (λ (q : ℕ). IsIn (Leaves q) seen) (tries.one p was.0 place was.1 of) was.2)
        )
    | inr r ↦ elim r [ inl need ↦ tried_needed p need | inr end ↦ tried_no_end p place end ]
  ]

  leaves : (seen : List Visit) (order : List StageId) (place : ℕ) (after : List StageId) → IsOrdered seen order → (IsIn (Leaves place) seen → ⊥) → HasEnds order place after → IsStep (Leaves place) order (after ++ tried_before scene place)
  leaves seen order place after before new has = record {
    good = appended scene IsStage after (tried_before scene place) has.good (tries.distinct place)
        (λ x h here. let of = tries.of place x h in new_tried seen order place of.0 after before new has of.2 (subst (λ (z : StageId). IsIn z after) of.1 here))
        (λ x h. tries.stages place x h)
        (λ x h. let of = tries.of place x h in ap (lead scene IsStage) of.1);
    old = λ x h. in_front x after (tried_before scene place) (has.old x h);
    of = λ x h. elim (in_either x after (tried_before scene place) h) [
      | inl l ↦ elim (has.of x l) [
        | inl old ↦ inl old
        | inr r ↦ elim r [ inl need ↦ inr (of_needed (Leaves place ∷ []) x need) | inr end ↦ inr (end_seen place x end) ]
      ]
      | inr t ↦ (
          let of = tries.of place x t in
          let seen_now : OfSeen (Leaves place ∷ []) (Tried of.0) = (place, of.2, inl refl) in
          inr (subst (λ (z : StageId). OfSeen (Leaves place ∷ []) z) (sym of.1) seen_now)
          )
    ];
    entered = λ p e. absurd (enter_differs p place (sym e));
    left = λ p e id t. left_at p (same_leave place p e) id t;
  }
    where
      left_at : (p : ℕ) → place ≡ p → (id : StageId) → IsIn id (left_by p) → IsIn id (after ++ tried_before scene place)
      left_at p same id t = by (in_either id (ends_of place) (tried_before scene place) (subst (λ (q : ℕ). IsIn id (left_by q)) (sym same) t))
        where
          by : IsIn id (ends_of place) ⊎ IsIn id (tried_before scene place) → IsIn id (after ++ tried_before scene place)
          by (inl end) = in_front id after (tried_before scene place) (has.own id end)
          by (inr tried) = in_back id after (tried_before scene place) tried

  -- ---- all visits

  abbrev IsOfStages : Visit → Type 0
  IsOfStages (Enters place) = scene.known.has_two place ≡ true → IsStage (Start place)
  IsOfStages (Leaves place) = LeavesStages place

  one_visited : (seen : List Visit) (order : List StageId) (visit : Visit) → IsOfStages visit → IsOrdered seen order → (IsIn visit seen → ⊥) → length (visited scene order visit) ≤ most_needed
      → IsOrdered (seen ++ visit ∷ []) (visited scene order visit)
  one_visited seen order (Enters place) of before new few =
      stepped seen order (Enters place) (visited scene order (Enters place)) before (enters seen order place (scene.known.has_two place) refl of before new few)
  one_visited seen order (Leaves place) of before new few =
      let few_ends : length (put_end scene order place) ≤ most_needed = omega (arith, length-append (put_end scene order place) (tried_before scene place)) in
      stepped seen order (Leaves place) (visited scene order (Leaves place)) before
      (leaves seen order place (put_end scene order place) before new (ends seen order place (gave_up scene.known place) refl of before new few_ends))

  grows_if : (b : Bool) (order : List StageId) (id : StageId) → length order ≤ length (cond b (put order id) order)
  grows_if true order id = omega (arith, length_put scene IsStage order id)
  grows_if false order id = omega arith

  grows_end : (b : Bool) (order : List StageId) (place : ℕ) → length order ≤ length (cond b (put order (Answer place) ++ two_ends place) (put order (Whole place)))
  grows_end true order place = omega (arith, length_put scene IsStage order (Answer place), length-append (put order (Answer place)) (two_ends place))
  grows_end false order place = omega (arith, length_put scene IsStage order (Whole place))

  visit_grows : (order : List StageId) (visit : Visit) → length order ≤ length (visited scene order visit)
  visit_grows order (Enters place) = grows_if (scene.known.has_two place) order (Start place)
  visit_grows order (Leaves place) =
      let first : length order ≤ length (put_end scene order place) = grows_end (gave_up scene.known place) order place in
      omega (arith, first, length-append (put_end scene order place) (tried_before scene place))

  visits_grow : (rest : List Visit) (order : List StageId) → length order ≤ length (fold (visited scene) order rest)
  visits_grow [] order = omega arith
  visits_grow (visit ∷ rest) order = omega (arith, visit_grows order visit, visits_grow rest (visited scene order visit))

  all_ordered : (rest seen : List Visit) (order : List StageId) → IsOrdered seen order → AreDistinct rest → ((v : Visit) → IsIn v rest → IsIn v seen → ⊥) → ((v : Visit) → IsIn v rest → IsOfStages v)
      → length (fold (visited scene) order rest) ≤ most_needed → IsOrdered (seen ++ rest) (fold (visited scene) order rest)
  all_ordered [] seen order is distinct new of few = subst (λ (l : List Visit). IsOrdered l order) (sym (append-nil seen)) is
  all_ordered (visit ∷ rest) seen order is distinct new of few =
      let one = one_visited seen order visit (of visit (inl refl)) is (new visit (inl refl)) (omega (arith, visits_grow rest (visited scene order visit))) in
      let others = all_ordered rest (seen ++ visit ∷ []) (visited scene order visit) one distinct.1
      (λ v h here. elim (in_either v seen (visit ∷ []) here) [
        | inl l ↦ new v (inr h) l
        | inr r ↦ elim r [ inl e ↦ distinct.0 (subst (λ (z : Visit). IsIn z rest) e h) | inr none ↦ none ]
      ])
      (λ v h. of v (inr h)) few in
      subst (λ (l : List Visit). IsOrdered l (fold (visited scene) (visited scene order visit) rest)) (append_assoc seen (visit ∷ []) rest) others

  -- the order of distinct visits
  pub is_ordered : (visits : List Visit) → AreDistinct visits → ((place : ℕ) → IsIn (Enters place) visits → scene.known.has_two place ≡ true → IsStage (Start place)) → ((place : ℕ) → IsIn (Leaves place) visits → LeavesStages place)
      → length (ordered scene visits) ≤ most_needed → IsOrdered visits (ordered scene visits)
  is_ordered visits distinct starts stages_left few =
      all_ordered visits [] []
      (record { good = record { distinct = tt; stages = λ x h. absurd h; closed = λ x s h. absurd h }; of_seen = λ x h. absurd h; entered = λ p h. absurd h; left = λ p h. absurd h })
      distinct (λ v h none. none) (λ v h. of v h) few
    where
      of : (v : Visit) → IsIn v visits → IsOfStages v
      of (Enters place) h = λ two. starts place h two
      of (Leaves place) h = stages_left place h
