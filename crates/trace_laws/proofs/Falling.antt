-- Each source of a stage has a lesser key: what spans have.
use Rattle.std.proofs.Common.{◌≡◌, ℕ, suc, zero, ◌+◌, ◌-◌, ◌<◌, ◌≤◌, inl, inr, List, [], ◌∷◌, ◌++◌, Bool, true, false, cond, length, map, Option, Some, None, refl, sym, ap, ◌∙◌, subst, arith, length-append}
use Rattle.std.specs.Prelude.{◌⊎◌, IfSome, filter, fold, is_none, is_some, min, nat_eq, slice_get, unwrap_or}
use Rattle.std.specs.List.{range_with_len}
use Rattle.std.specs.Option.{option_eq}
use Rattle.std.proofs.lemmas.Bool.{false≢true}
use Rattle.std.proofs.lemmas.List.{append-nil}
use Rattle.std.proofs.lemmas.Option.{none-some, same_Some, slice_get_within}
use Rattle.trace_relations.specs.Ancestry.{parent_at}
use Rattle.trace_relations.specs.Moments.{end_moment, interval_at}
use Rattle.trace_relations.specs.Relations.{PlainRelations}
use Rattle.trace_relations.specs.declared.as_told.AsTold.{AsTold}
use Rattle.trace_relations.specs.declared.moment.Interval.{Interval}
use Rattle.trace_relations.specs.declared.moment.Moment.{Moment}
use Rattle.trace_spans.specs.declared.span.Span.{Span}
use Rattle.trace_stages.specs.Called.{call_end}
use Rattle.trace_stages.specs.Fates.{fate_at}
use Rattle.trace_stages.specs.HandedOn.{all_handed, ends_later, handed_from, handed_sources, is_handed, last_of, later_of, takes_over, thrower}
use Rattle.trace_stages.specs.Known.{PlainKnown, gave_up, had_at}
use Rattle.trace_stages.specs.Moments.{AreMoments, At}
use Rattle.trace_stages.specs.Outcomes.{join_outcomes, outcome_of}
use Rattle.trace_stages.specs.Scene.{handed_join, list_at}
use Rattle.trace_stages.specs.StagesOf.{had, known_of}
use Rattle.trace_stages.specs.declared.stage.Exception.{Exception}
use Rattle.trace_stages.specs.declared.walk.holding.OwnWork.{OwnWork}
use Rattle.trace_stages.specs.declared.walk.joins.JoinsOf.TheVariants as joins_of
use Rattle.trace_stages.specs.declared.walk.stage_id.StageId.{StageId}
use Rattle.trace_stages.specs.declared.walk.stage_id.StageId.TheVariants.{Start, Whole, Join, Work, Tried}
use Rattle.trace_laws.proofs.Dictionary.{Below, Key}
use Rattle.trace_laws.proofs.Each.{Each, In, at-append, each-in, filter_each, in-at}
use Rattle.trace_laws.proofs.GivingUp.{end_exists, gave_up_is}
use Rattle.trace_laws.proofs.Having.{GivenCall, HadBase, Part, WaitedCall, WorkedWell, held_well}
use Rattle.trace_laws.proofs.Joining.{AreMade, are_made-push}
use Rattle.trace_laws.proofs.Keys.{Last, capped_top, child_below_end, child_key, given_key, had_is, high, high_end, high_start, join_height, joins_at, key, key_in, least, mark_below_end, own_joins, own_key, same_span, start_below_end, three-below, tried_key, work_below_end, work_height, work_is}
use Rattle.trace_laws.proofs.Numbers.{number}
use Rattle.trace_laws.proofs.Relations.{IsFamily, Waits, and_left, and_right, ended_place, inside_before_end, known_known, mapped_range, same_option, waits_is}
use Rattle.trace_laws.proofs.Ticking.{Settled}
use Rattle.trace_laws.proofs.Trying.{caller_waits, first_itself, first_last, first_parent, last_is, tried_by}

-- ---- numbers

lower_in : (a b h k : ℕ) → (a < h) ⊎ ((a ≤ h) × (1 < k)) → (a ≡ b) → (b < h) ⊎ ((b ≤ h) × (1 < k))
lower_in a b h k (inl lt) same = inl (omega arith)
lower_in a b h k (inr (le, less)) same = inr (omega arith, less)

pub lower_first : (a h k : ℕ) → (a < h) ⊎ ((a ≤ h) × (1 < k)) → (a < h) ⊎ ((a ≤ h) × (0 < k))
lower_first a h k (inl lt) = inl lt
lower_first a h k (inr (le, less)) = inr (le, omega arith)

two_less : (a b h : ℕ) → a + 2 ≤ b → b - 1 ≤ h → a < h
two_less a b h le top = omega arith

pub two_less_top : (a b : ℕ) → a + 2 ≤ b → a ≤ b - 1
two_less_top a b le = omega arith

up_to_top : (b h k : ℕ) → (b - 1 < h) ⊎ ((b - 1 ≤ h) × (2 < k)) → b - 1 ≤ h
up_to_top b h k (inl lt) = omega arith
up_to_top b h k (inr (le, less)) = le

below_top : (a b h k : ℕ) → a ≤ b - 1 → (b - 1 < h) ⊎ ((b - 1 ≤ h) × (2 < k)) → (a < h) ⊎ ((a ≤ h) × (2 < k))
below_top a b h k le (inl lt) = inl (omega arith)
below_top a b h k le (inr (top, less)) = inr (omega arith, less)

mark_less : (m b h : ℕ) → m + 1 < b → b - 1 ≤ h → m < h
mark_less m b h lt le = omega arith

le_or_equal : (a b : ℕ) → a ≡ b → a ≤ b
le_or_equal a b same = omega arith

le_by_first : (a b c : ℕ) → a ≡ b → b ≤ c → a ≤ c
le_by_first a b c same le = omega arith

pub past_top : (a b c : ℕ) → b - 1 < a → a ≤ c → b - 1 ≤ c
past_top a b c lt le = omega arith

least_same : (k n : ℕ) → k ≤ n → min k n ≡ k
least_same k n le = omega arith

-- ---- lists

pub last_in : (intervals : List Interval) (P : ℕ → Type 0) (last : Option ℕ) (places : List ℕ) → IfSome last P → Each P places → IfSome (fold (last_of intervals) last places) P
last_in intervals P last [] here all = here
last_in intervals P last (place ∷ places) here all = last_in intervals P (last_of intervals last place) places (one last here) all.1
  where
    pick : (b : Bool) (x y : ℕ) → P x → P y → P (cond b x y)
    pick true x y first second = first
    pick false x y first second = second

    one : (last : Option ℕ) → IfSome last P → P (later_of intervals last place)
    one None here = all.0
    one (Some other) here = pick (ends_later intervals place other) place other all.0 here

is_none_true : (found : Option ℕ) → is_none found ≡ true → found ≡ None
is_none_true None none = refl
is_none_true (Some x) none = absurd (false≢true none)

each_if : {X : Type 0} (P : X → Type 0) (b : Bool) (xs : List X) → Each P xs → Each P (cond b [] xs)
each_if P true xs all = tt
each_if P false xs all = all

pub past_end : {X : Type 0} (xs : List X) (k : ℕ) → slice_get xs k ≡ None → length xs ≤ k
past_end [] k here = omega arith
past_end (x ∷ xs) zero here = absurd (none-some x (sym here))
past_end (x ∷ xs) (suc k) here = let le : length xs ≤ k = past_end xs k here in omega arith

pub in_mapped_range : {X : Type 0} (f : ℕ → X) (a n : ℕ) (x : X) → In (map f (range_with_len a n)) x → (k : ℕ) × (k < n) × (f (a + k) ≡ x)
in_mapped_range f a zero x here = absurd here
in_mapped_range f a (suc n) x (inl same) = let e : a + 0 ≡ a = omega arith in (0, omega arith, ap f e ∙ same)
in_mapped_range f a (suc n) x (inr later) =
    let rest = in_mapped_range f (a + 1) n x later in
    let e : a + suc rest.0 ≡ (a + 1) + rest.0 = omega arith in
    (suc rest.0, omega (arith, rest.1), ap f e ∙ rest.2)

at_last : {X : Type 0} (xs : List X) (x : X) → slice_get (xs ++ x ∷ []) (length xs) ≡ Some x
at_last [] x = refl
at_last (y ∷ ys) x = at_last ys x

module _ {as_told : AsTold} (spans : List Span) (relations : PlainRelations) (is : IsFamily as_told spans relations) (moments : List At) (are : AreMoments relations.intervals moments) (failures : ℕ → Option Exception) where
  abbrev Known : PlainKnown
  Known = known_of spans relations as_told moments

  abbrev key_of : StageId → Key
  key_of id = key spans relations is moments are failures id

  abbrev In_span : ℕ → Key → Key
  In_span place own = key_in spans relations is moments are failures place own

  abbrev own_of : StageId → Key
  own_of id = own_key spans relations is moments are failures id

  abbrev top : ℕ → ℕ
  top place = high_end spans relations is moments are failures place

  abbrev low : ℕ → ℕ
  low place = high_start spans relations is moments are failures place

  abbrev Joins : ℕ → List (List StageId)
  Joins place = joins_at spans relations is moments are failures place

  abbrev Own : ℕ → List (List StageId)
  Own place = own_joins spans relations is moments are failures place

  abbrev height : ℕ → StageId → ℕ
  height place id = (outcome_of (high spans relations is moments are failures) (join_outcomes (high spans relations is moments are failures) (Joins place)) id).tick

  abbrev pub works_of : ℕ → List OwnWork
  works_of place = (had relations moments place).works

  abbrev pub Piece : ℕ → ℕ → StageId → Type 0
  Piece place n id = Part relations place (works_of place) n id

  -- ---- calls that have ended

  abbrev first_of : ℕ → ℕ
  first_of child = relations.attempts.first child

  waited_end : (child : ℕ) (next : Option ℕ) → relations.attempts.next child ≡ None → relations.attempts.next (first_of child) ≡ next → (place : ℕ)
      → height place (cond (is_some next) (Tried (first_of child)) (Whole (first_of child))) ≡ top child
  waited_end child None last none place = ap top (first_itself spans relations is child last none)
  waited_end child (Some again) last some place = ap top (first_last spans relations is child last)

  -- the end of a call is as high as that of its last attempt
  pub waited_height : (place parent : ℕ) (id : StageId) (call : WaitedCall relations parent id) → height place id ≡ top call.child
  waited_height place parent id call =
      subst (λ those. height place those ≡ top call.child) (sym call.is) (waited_end call.child (relations.attempts.next (first_of call.child)) call.last refl place)

  waited_at : (parent child : ℕ) (next : Option ℕ) (h k t : ℕ) → relations.attempts.next child ≡ None → slice_get relations.waiting child ≡ Some (Some parent) → relations.attempts.next (first_of child) ≡ next
      → (top child < h) ⊎ ((top child ≤ h) × (1 < k)) → Below (key_of (cond (is_some next) (Tried (first_of child)) (Whole (first_of child)))) (In_span parent (h ∷ k ∷ t ∷ []))
  waited_at parent child None h k t last waits none less =
      subst (λ p. Below (key_of (Whole p)) (In_span parent (h ∷ k ∷ t ∷ []))) (sym (first_itself spans relations is child last none))
      (child_key spans relations is moments are failures child parent (h ∷ k ∷ t ∷ []) (waits_is spans relations is child parent waits).child (three-below (top child) 0 0 h k t (lower_first (top child) h k less)))
  waited_at parent child (Some again) h k t last waits some less =
      tried_key spans relations is moments are failures (first_of child) parent (h ∷ k ∷ t ∷ []) (first_parent spans relations is child again parent some waits).child
      (three-below (top (Last spans relations is moments are failures (first_of child))) 1 _ h k t (lower_in (top child) (top (Last spans relations is moments are failures (first_of child))) h k less (ap top (sym (first_last spans relations is child last)))))

  -- it stands in the parent that waits for it
  pub waited_key : (parent : ℕ) (id : StageId) (call : WaitedCall relations parent id) (h k t : ℕ) → (top call.child < h) ⊎ ((top call.child ≤ h) × (1 < k)) → Below (key_of id) (In_span parent (h ∷ k ∷ t ∷ []))
  waited_key parent id call h k t less =
      subst (λ those. Below (key_of those) (In_span parent (h ∷ k ∷ t ∷ []))) (sym call.is) (waited_at parent call.child (relations.attempts.next (first_of call.child)) h k t call.last call.waits refl less)

  pub waited_below : (parent : ℕ) (id : StageId) (call : WaitedCall relations parent id) (end : Moment) → end_moment (interval_at relations.intervals parent) ≡ Some end → top call.child + 2 ≤ top parent
  waited_below parent id call end ends = child_below_end spans relations is moments are failures call.child parent call.end end call.ends ends (waits_is spans relations is call.child parent call.waits)

  -- ---- calls that were given up

  -- the last attempt of a call that was tried again ended by its caller
  pub tried_below : (child again caller : ℕ) (end : Moment) → relations.attempts.next child ≡ Some again → parent_at relations.given_up child ≡ Some caller → end_moment (interval_at relations.intervals caller) ≡ Some end
      → top (Last spans relations is moments are failures child) + 2 ≤ top caller
  tried_below child again caller end next gave ends =
      let by = tried_by spans relations is child again next in
      let gave_up = gave_up_is spans relations is child caller gave in
      let same : by.caller ≡ caller = same_Some by.caller caller (sym by.waits.child ∙ gave_up.child) in
      let at : slice_get relations.waiting (Last spans relations is moments are failures child) ≡ Some (Some caller) =
      caller_waits spans relations is (Last spans relations is moments are failures child) caller ((last_is spans relations is child).callers ∙ by.callers ∙ ap Some same) in
      let waits : Waits spans relations is caller (Last spans relations is moments are failures child) = waits_is spans relations is (Last spans relations is moments are failures child) caller at in
      let last = end_exists (end_moment (interval_at relations.intervals (Last spans relations is moments are failures child))) (end_moment (interval_at relations.intervals caller)) waits.ends in
      child_below_end spans relations is moments are failures (Last spans relations is moments are failures child) caller last.0 end last.1 ends waits

  pub given_at : (caller child : ℕ) (next : Option ℕ) (h k t : ℕ) → relations.attempts.next child ≡ next → parent_at relations.given_up child ≡ Some caller → top caller - 1 ≤ h
      → Below (key_of (cond (is_some next) (Tried child) (Whole child))) (In_span caller (h ∷ k ∷ t ∷ []))
  given_at caller child None h k t none gave le =
      let gave_up = gave_up_is spans relations is child caller gave in
      given_key spans relations is moments are failures child caller (h ∷ k ∷ t ∷ []) gave
      (mark_less _ (top caller) h (mark_below_end spans relations is moments are failures caller gave_up.end gave_up.ends) le)
  given_at caller child (Some again) h k t some gave le =
      let gave_up = gave_up_is spans relations is child caller gave in
      tried_key spans relations is moments are failures child caller (h ∷ k ∷ t ∷ []) gave_up.child
      (three-below (top (Last spans relations is moments are failures child)) 1 _ h k t
      (inl (two_less (top (Last spans relations is moments are failures child)) (top caller) h (tried_below child again caller gave_up.end some gave gave_up.ends) le)))

  -- the end of a call is below what is as high as the answer
  pub given_below : (caller : ℕ) (id : StageId) (call : GivenCall relations caller id) (h k t : ℕ) → top caller - 1 ≤ h → Below (key_of id) (In_span caller (h ∷ k ∷ t ∷ []))
  given_below caller id call h k t le =
      subst (λ those. Below (key_of those) (In_span caller (h ∷ k ∷ t ∷ []))) (sym call.is) (given_at caller call.child (relations.attempts.next call.child) h k t refl call.gave le)

  -- ---- own work

  pub work_inside : (place count : ℕ) (work : OwnWork) → slice_get (works_of place) count ≡ Some work → WorkedWell relations place (had relations moments place).joins (works_of place) work
  work_inside place count work at = each-in (WorkedWell relations place (had relations moments place).joins (works_of place)) (works_of place) (held_well relations place moments are).works work (in-at (works_of place) count work at)

  pub work_below : (place count : ℕ) (work : OwnWork) (end : Moment) → end_moment (interval_at relations.intervals place) ≡ Some end → slice_get (works_of place) count ≡ Some work
      → work_height spans relations is moments are failures place work + 2 ≤ top place
  work_below place count work end ends at =
      let well = work_inside place count work at in
      let before = inside_before_end spans relations is well.child place end well.inside ends in
      work_below_end spans relations is moments are failures place work end ends (subst (λ n. n < number end) (sym well.at) before)

  -- ---- what a span has is below its answer

  pub piece_below_end : (place n : ℕ) (id : StageId) (end : Moment) → end_moment (interval_at relations.intervals place) ≡ Some end → Piece place n id → (h k t : ℕ) → (top place - 1 < h) ⊎ ((top place - 1 ≤ h) × (2 < k))
      → Below (key_of id) (In_span place (h ∷ k ∷ t ∷ []))
  piece_below_end place n id end ends (inl (inl same)) h k t less =
      subst (λ those. Below (key_of those) (In_span place (h ∷ k ∷ t ∷ []))) (sym same)
      (same_span spans relations is moments are failures place (own_of (Start place)) (h ∷ k ∷ t ∷ [])
      (three-below (low place) 0 0 h k t (inl (two_less (low place) (top place) h (start_below_end spans relations is moments are failures place end ends) (up_to_top (top place) h k less)))))
  piece_below_end place n id end ends (inl (inr (inl (inl call)))) h k t less =
      waited_key place id call h k t (inl (two_less (top call.child) (top place) h (waited_below place id call end ends) (up_to_top (top place) h k less)))
  piece_below_end place n id end ends (inl (inr (inl (inr call)))) h k t less = given_below place id call h k t (up_to_top (top place) h k less)
  piece_below_end place n id end ends (inl (inr (inr (count, (work, at), same)))) h k t less =
      subst (λ those. Below (key_of those) (In_span place (h ∷ k ∷ t ∷ []))) (sym same)
      (same_span spans relations is moments are failures place (own_of (Work place count)) (h ∷ k ∷ t ∷ [])
      (subst (λ n. Below (n ∷ 0 ∷ 0 ∷ []) (h ∷ k ∷ t ∷ [])) (sym (work_is spans relations is moments are failures place count work (ended_place relations.intervals place end ends) at))
      (three-below (work_height spans relations is moments are failures place work) 0 0 h k t
      (inl (two_less (work_height spans relations is moments are failures place work) (top place) h (work_below place count work end ends at) (up_to_top (top place) h k less))))))
  piece_below_end place n id end ends (inr (count, lt, same)) h k t less =
      subst (λ those. Below (key_of those) (In_span place (h ∷ k ∷ t ∷ []))) (sym same)
      (same_span spans relations is moments are failures place (own_of (Join place count)) (h ∷ k ∷ t ∷ [])
      (three-below (join_height spans relations is moments are failures place (least spans relations is moments are failures place count)) 2 (least spans relations is moments are failures place count) h k t
      (below_top (join_height spans relations is moments are failures place (least spans relations is moments are failures place count)) (top place) h k
      (capped_top (end_moment (interval_at relations.intervals place)) end (top place) (height place (Join place (least spans relations is moments are failures place count))) ends) less)))

  -- ---- joins of what a span has

  pub own_made : (place : ℕ) → place < length relations.intervals → AreMade (joins_of.Holding place) (HadBase relations (works_of place) place) 0 (Own place) × Piece place (length (Own place)) (had_at Known.hads place).has
  own_made place lt =
      let well = held_well relations place moments are in
      subst (λ those. AreMade (joins_of.Holding place) (HadBase relations (works_of place) place) 0 those.joins × Piece place (length those.joins) those.has) (sym (had_is spans relations is moments are failures place lt)) (well.joins, well.has)

  pub handed_call : (place child : ℕ) → is_handed Known failures place child ≡ true → WaitedCall relations place (call_end relations.attempts (relations.attempts.first child))
  handed_call place child handed =
      let waited : parent_at relations.waiting child ≡ Some place = same_option (parent_at relations.waiting child) place (and_left (option_eq nat_eq (parent_at relations.waiting child) (Some place)) _ handed) in
      let waiting : slice_get relations.waiting child ≡ Some (Some place) = known_known (slice_get relations.waiting child) place waited in
      let rest = and_right (option_eq nat_eq (parent_at relations.waiting child) (Some place)) _ handed in
      let end = end_exists (end_moment (interval_at relations.intervals child)) (end_moment (interval_at relations.intervals place)) (waits_is spans relations is child place waiting).ends in
      record {
        child = child;
        end = end.0;
        ends = end.1;
        waits = waiting;
        last = is_none_true (relations.attempts.next child) (and_left (is_none (relations.attempts.next child)) (takes_over Known.hands_on (fate_at Known.fates place) (failures child)) rest);
        is = refl;
      }

  -- by its last attempt
  pub handed_last : (place child : ℕ) → is_handed Known failures place child ≡ true → relations.attempts.next child ≡ None
  handed_last place child handed =
      is_none_true (relations.attempts.next child) (and_left (is_none (relations.attempts.next child)) (takes_over Known.hands_on (fate_at Known.fates place) (failures child))
      (and_right (option_eq nat_eq (parent_at relations.waiting child) (Some place)) _ handed))

  handed_made : (place : ℕ) → place < length relations.intervals → Each (Piece place (length (Own place))) (handed_sources Known failures place)
  handed_made place lt =
      each_if (Piece place (length (Own place))) _ (handed_from Known failures place (thrower Known failures place))
      (by_child (thrower Known failures place)
      (last_in relations.intervals (λ child. is_handed Known failures place child ≡ true) None (filter (is_handed Known failures place) (Known.children place)) tt (filter_each (is_handed Known failures place) (Known.children place))))
    where
      by_child : (child : Option ℕ) → IfSome child (λ those. is_handed Known failures place those ≡ true) → Each (Piece place (length (Own place))) (handed_from Known failures place child)
      by_child None here = tt
      by_child (Some child) here = each_if (Piece place (length (Own place))) _ ((had_at Known.hads place).has ∷ call_end relations.attempts (relations.attempts.first child) ∷ []) ((own_made place lt).1, (inl (inr (inl (inl (handed_call place child here)))), tt))

  pub handed_is : (place : ℕ) → place < length relations.intervals → list_at (all_handed Known failures) place ≡ handed_sources Known failures place
  handed_is place lt = ap (λ found. unwrap_or found []) (mapped_range (handed_sources Known failures) (length relations.intervals) place lt)

  with_handed : (place : ℕ) (own : List (List StageId)) (handed : List StageId) → AreMade (joins_of.Holding place) (HadBase relations (works_of place) place) 0 own → Each (Piece place (length own)) handed
      → AreMade (joins_of.Holding place) (HadBase relations (works_of place) place) 0 (own ++ handed_join handed)
  with_handed place own [] made each = subst (AreMade (joins_of.Holding place) (HadBase relations (works_of place) place) 0) (sym (append-nil own)) made
  with_handed place own (source ∷ sources) made each = are_made-push (joins_of.Holding place) (HadBase relations (works_of place) place) 0 (length own) own (source ∷ sources) (omega arith) made each

  pub joins_are_made : (place : ℕ) → place < length relations.intervals → AreMade (joins_of.Holding place) (HadBase relations (works_of place) place) 0 (Joins place)
  joins_are_made place lt =
      with_handed place (Own place) (list_at (all_handed Known failures) place) (own_made place lt).0
      (subst (Each (Piece place (length (Own place)))) (sym (handed_is place lt)) (handed_made place lt))

  pub one_more_at_most : (place : ℕ) → length (Joins place) ≤ length (Own place) + 1
  one_more_at_most place =
      by_counts (length (Joins place)) (length (Own place)) (length (handed_join (list_at (all_handed Known failures) place)))
      (length-append (Own place) (handed_join (list_at (all_handed Known failures) place))) (at_most (list_at (all_handed Known failures) place))
    where
      by_counts : (a b c : ℕ) → a ≡ b + c → c ≤ 1 → a ≤ b + 1
      by_counts a b c same le = omega arith

      at_most : (handed : List StageId) → length (handed_join handed) ≤ 1
      at_most [] = omega arith
      at_most (source ∷ sources) = omega arith

  settled_call : (next : Option ℕ) (call : ℕ) → Settled (high spans relations is moments are failures) 0 (cond (is_some next) (Tried call) (Whole call))
  settled_call None call own more le = refl
  settled_call (Some again) call own more le = refl

  -- how high a stage is but a join depends on no join
  pub settled : (place : ℕ) (id : StageId) → HadBase relations (works_of place) place id → Settled (high spans relations is moments are failures) 0 id
  settled place id (inl same) = subst (Settled (high spans relations is moments are failures) 0) (sym same) (λ own more le. refl)
  settled place id (inr (inl (inl call))) = subst (Settled (high spans relations is moments are failures) 0) (sym call.is) (settled_call (relations.attempts.next (first_of call.child)) (first_of call.child))
  settled place id (inr (inl (inr call))) = subst (Settled (high spans relations is moments are failures) 0) (sym call.is) (settled_call (relations.attempts.next call.child) call.child)
  settled place id (inr (inr (count, worked, same))) = subst (Settled (high spans relations is moments are failures) 0) (sym same) (λ own more le. refl)

  pub least_is : (place k : ℕ) → k < length (Joins place) → least spans relations is moments are failures place k ≡ k
  least_is place k lt = least_same k (length (Own place)) (up_to k (length (Joins place)) (length (Own place)) lt (one_more_at_most place))
    where
      up_to : (a b c : ℕ) → a < b → b ≤ c + 1 → a ≤ c
      up_to a b c lt le = omega arith

  -- the sources of a join stand at its place among the joins
  pub join_place : (place count : ℕ) (source : StageId) (found : Option (List StageId)) → slice_get (Own place) count ≡ found → In (unwrap_or found (list_at (all_handed Known failures) place)) source
      → slice_get (Joins place) (least spans relations is moments are failures place count) ≡ Some (unwrap_or found (list_at (all_handed Known failures) place))
  join_place place count source (Some sources) at here =
      subst (λ k. slice_get (Joins place) k ≡ Some sources) (sym (least_same count (length (Own place)) (within (slice_get_within (Own place) count sources at))))
      (at-append (Own place) (handed_join (list_at (all_handed Known failures) place)) count sources at)
    where
      within : count < length (Own place) → count ≤ length (Own place)
      within lt = omega arith
  join_place place count source None at here =
      subst (λ k. slice_get (Joins place) k ≡ Some (list_at (all_handed Known failures) place)) (sym (past_least count (length (Own place)) (past_end (Own place) count at))) (in_handed (Own place) (list_at (all_handed Known failures) place) source here)
    where
      past_least : (k n : ℕ) → n ≤ k → min k n ≡ n
      past_least k n le = omega arith

      in_handed : (own : List (List StageId)) (handed : List StageId) (source : StageId) → In handed source → slice_get (own ++ handed_join handed) (length own) ≡ Some handed
      in_handed own [] source here = absurd here
      in_handed own (first ∷ others) source here = at_last own (first ∷ others)
