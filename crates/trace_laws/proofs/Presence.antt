-- Each span of a trace is entered and left, so its stages are put.
use Rattle.std.proofs.Common.{◌≡◌, ℕ, suc, zero, ◌+◌, ◌<◌, ◌≤◌, inl, inr, List, [], ◌∷◌, Bool, true, false, cond, length, map, Option, Some, None, refl, sym, ap, ◌∙◌, subst, arith}
use Rattle.std.specs.Prelude.{Contains, filter, flat_map, is_none, nat_eq, nat_lt, slice_get}
use Rattle.std.specs.Option.{option_and_then, option_eq}
use Rattle.std.proofs.lemmas.Bool.{eq-eqb, lt-ltb}
use Rattle.std.proofs.lemmas.List.Sorted.{Contains-permutation}
use Rattle.std.proofs.lemmas.Option.{none-some}
use Rattle.trace_relations.specs.Ancestry.{known as known_parent, parent_at}
use Rattle.trace_relations.specs.ByStart.{all_starts, starts_from}
use Rattle.trace_relations.specs.Parents.{all_references}
use Rattle.trace_relations.specs.Relations.{PlainRelations, parent_meant}
use Rattle.trace_relations.specs.declared.as_told.AsTold.{AsTold}
use Rattle.trace_relations.specs.declared.moment.Interval.{Interval}
use Rattle.trace_spans.specs.declared.span.Span.{Span}
use Rattle.trace_stages.specs.Visits.{children, entered, if_below, is_child_of, is_root, most_generations, parent_at as tour_parent, roots, visits}
use Rattle.trace_stages.specs.Visits as tour
use Rattle.trace_stages.specs.declared.tour.visit.Visit.{Visit}
use Rattle.trace_stages.specs.declared.tour.visit.Visit.TheVariants.{Enters, Leaves}
use Rattle.trace_laws.proofs.Climbing.{Climbs, deeper, depth, shallow}
use Rattle.trace_laws.proofs.Each.{In, contains_in, each-in, filter_each, in-back, in-front, in_contains, in_filter}
use Rattle.trace_laws.proofs.Relations.{IsFamily, Parents, child_below, parent_below, parents_count, parents_within, same_option}

climbs_last : (parents : List (Option ℕ)) (k place top : ℕ) → Climbs parents (suc k) place top → (child : ℕ) × Climbs parents k place child × (parent_at parents child ≡ Some top)
climbs_last parents zero place top (parent, is, same) = (place, refl, is ∙ ap Some same)
climbs_last parents (suc k) place top (parent, is, rest) = let last = climbs_last parents k parent top rest in (last.0, (parent, is, last.1), last.2)

in_flat : {X Y : Type 0} (f : X → List Y) (xs : List X) (x : X) (y : Y) → In xs x → In (f x) y → In (flat_map f xs) y
in_flat f [] x y here there = absurd here
in_flat f (z ∷ zs) x y (inl same) there = in-front (f z) (flat_map f zs) y (subst (λ w. In (f w) y) (sym same) there)
in_flat f (z ∷ zs) x y (inr later) there = in-back (f z) (flat_map f zs) y (in_flat f zs x y later there)

module _ {as_told : AsTold} (spans : List Span) (relations : PlainRelations) (is : IsFamily as_told spans relations) where
  starts_have : (a k : ℕ) (intervals : List Interval) → k < length intervals → (start : ℕ) × In (starts_from a intervals) (start, a + k)
  starts_have a k [] lt = absurd (omega arith)
  starts_have a zero (interval ∷ intervals) lt = let e : a ≡ a + 0 = omega arith in (interval.start, inl (ap (λ p. (interval.start, p)) e))
  starts_have a (suc k) (interval ∷ intervals) lt =
      let rest = starts_have (a + 1) k intervals (omega arith) in
      let e : (a + 1) + k ≡ a + suc k = omega arith in
      (rest.0, inr (subst (λ p. In (starts_from (a + 1) intervals) (rest.0, p)) e rest.1))

  in_second : (starts : List (ℕ × ℕ)) (start place : ℕ) → In starts (start, place) → In (map (λ s. s.1) starts) place
  in_second [] start place here = absurd here
  in_second (s ∷ starts) start place (inl same) = inl (ap (λ pair. pair.1) same)
  in_second (s ∷ starts) start place (inr later) = inr (in_second starts start place later)

  pub in_order : (place : ℕ) → place < length relations.intervals → In relations.order place
  in_order place lt =
      let at = starts_have 0 place relations.intervals lt in
      let e : 0 + place ≡ place = omega arith in
      let moved : Contains is.by_start.0 (at.0, 0 + place) = Contains-permutation (all_starts relations.intervals) is.by_start.0 (at.0, 0 + place) is.by_start.1.0 (in_contains (all_starts relations.intervals) (at.0, 0 + place) at.1) in
      subst (λ those. In those place) (sym is.by_start.2) (subst (In (map (λ s. s.1) is.by_start.0)) e (in_second is.by_start.0 at.0 (0 + place) (contains_in is.by_start.0 (at.0, 0 + place) moved)))

  below_some : (n : ℕ) (found : Option ℕ) (parent : ℕ) → option_and_then (if_below n) found ≡ Some parent → found ≡ Some parent
  below_some n None parent some = absurd (none-some parent some)
  below_some n (Some other) parent some = by_test (nat_lt other n) some
    where
      by_test : (b : Bool) → cond b (Some other) None ≡ Some parent → Some other ≡ Some parent
      by_test true some = some
      by_test false some = absurd (none-some parent some)

  pub some_below : (n : ℕ) (found : Option ℕ) (parent : ℕ) → found ≡ Some parent → parent < n → option_and_then (if_below n) found ≡ Some parent
  some_below n found parent some lt =
      let test : nat_lt parent n ≡ true = lt-ltb parent n lt in
      ap (option_and_then (if_below n)) some ∙ ap (λ b. cond b (Some parent) None) test

  pub tour_known : (found : Option (Option ℕ)) → tour.known found ≡ known_parent found
  tour_known None = refl
  tour_known (Some parent) = refl

  -- a child of the tour has the span as its parent
  pub child_parent : (parent child : ℕ) → In (children relations.parents relations.order parent) child → parent_at (Parents spans relations is) child ≡ Some parent
  child_parent parent child here =
      let passes : option_eq nat_eq (tour_parent relations.parents child) (Some parent) ≡ true = each-in (λ y. is_child_of relations.parents parent y ≡ true) (filter (is_child_of relations.parents parent) relations.order) (filter_each (is_child_of relations.parents parent) relations.order) child here in
      let up : tour_parent relations.parents child ≡ Some parent = same_option (tour_parent relations.parents child) parent passes in
      sym (ap (λ parents. parent_at parents child) is.parents) ∙ sym (tour_known (slice_get relations.parents child)) ∙ below_some (length relations.parents) (tour.known (slice_get relations.parents child)) parent up

  pub parent_child : (parent child : ℕ) → child < length relations.intervals → parent_at (Parents spans relations is) child ≡ Some parent → In (children relations.parents relations.order parent) child
  parent_child parent child lt here =
      let above : parent < length spans = parent_below spans relations is child parent here in
      let found : tour.known (slice_get relations.parents child) ≡ Some parent = tour_known (slice_get relations.parents child) ∙ ap (λ parents. parent_at parents child) is.parents ∙ here in
      let up : tour_parent relations.parents child ≡ Some parent = some_below (length relations.parents) (tour.known (slice_get relations.parents child)) parent found (within parent (length relations.parents) (length spans) above (ap length is.parents ∙ parents_count spans relations is)) in
      let same : nat_eq parent parent ≡ true = eq-eqb parent parent refl in
      in_filter (is_child_of relations.parents parent) relations.order child (in_order child lt) (ap (λ o. option_eq nat_eq o (Some parent)) up ∙ same)
    where
      within : (a b c : ℕ) → a < c → b ≡ c → a < b
      within a b c lt same = omega arith

  abbrev IsVisited : List Visit → ℕ → Type 0
  IsVisited some place = In some (Enters place) × In some (Leaves place)

  own_visits : (n place : ℕ) → IsVisited (entered relations.parents relations.order n place) place
  unfolding entered
  own_visits zero place = (inl refl, inr (inl refl))
  own_visits (suc n) place = (inl refl, inr (in-back (flat_map (entered relations.parents relations.order n) (children relations.parents relations.order place)) (Leaves place ∷ []) (Leaves place) (inl refl)))

  visited_below : (n k place top : ℕ) → k ≤ n → Climbs (Parents spans relations is) k place top → IsVisited (entered relations.parents relations.order n top) place
  unfolding entered
  visited_below n zero place top le same = subst (λ t. IsVisited (entered relations.parents relations.order n t) place) same (own_visits n place)
  visited_below zero (suc k) place top le climbs = absurd (omega arith)
  visited_below (suc n) (suc k) place top le climbs =
      let last = climbs_last (Parents spans relations is) k place top climbs in
      let under = visited_below n k place last.0 (omega arith) last.1 in
      let child = parent_child top last.0 (child_below spans relations is last.0 top last.2) last.2 in
      let inside = λ (visit : Visit) (here : In (entered relations.parents relations.order n last.0) visit). in-front (flat_map (entered relations.parents relations.order n) (children relations.parents relations.order top)) (Leaves top ∷ []) visit
      (in_flat (entered relations.parents relations.order n) (children relations.parents relations.order top) last.0 visit child here) in
      (inr (inside (Enters place) under.0), inr (inside (Leaves place) under.1))

  abbrev depth_of : ℕ → ℕ
  depth_of place = depth relations.intervals (map parent_meant (all_references spans)) (length spans) is.few (parents_within spans) place

  -- the root above a span
  record Root (place : ℕ) : Type 0 where
    pub top : ℕ
    pub steps : ℕ
    pub climbs : Climbs (Parents spans relations is) steps place top
    pub few : steps ≤ depth_of place
    pub none : parent_at (Parents spans relations is) top ≡ None
    pub within : top < length spans

  root_of : (fuel place : ℕ) → depth_of place < fuel → place < length spans → Root place
  root_of zero place lt within = absurd (omega arith)
  root_of (suc fuel) place lt within = by_parent (parent_at (Parents spans relations is) place) refl (λ parent here.
      let more : depth_of place ≡ suc (depth_of parent) = deeper relations.intervals (map parent_meant (all_references spans)) (length spans) is.few (parents_within spans) place parent here in
      root_of fuel parent (omega arith) (parent_below spans relations is place parent here))
    where
      by_parent : (parent : Option ℕ) → parent_at (Parents spans relations is) place ≡ parent → ((above : ℕ) → parent_at (Parents spans relations is) place ≡ Some above → Root above) → Root place
      by_parent None none again = record { top = place; steps = 0; climbs = refl; few = omega arith; none = none; within = within }
      by_parent (Some parent) some again =
          let root = again parent some in
          let more : depth_of place ≡ suc (depth_of parent) = deeper relations.intervals (map parent_meant (all_references spans)) (length spans) is.few (parents_within spans) place parent some in
          record { top = root.top; steps = suc root.steps; climbs = (parent, some, root.climbs); few = let le : root.steps ≤ depth_of parent = root.few in omega arith; none = root.none; within = root.within }

  pub all_visited : (place : ℕ) → place < length spans → IsVisited (visits relations.parents relations.order) place
  all_visited place lt =
      let root = root_of (suc (depth_of place)) place (omega arith) lt in
      let below : depth_of place < length spans = shallow relations.intervals (map parent_meant (all_references spans)) (length spans) is.few (parents_within spans) place lt in
      let under = visited_below most_generations root.steps place root.top (let le : root.steps ≤ depth_of place = root.few in omega (arith, is.few)) root.climbs in
      let none : tour_parent relations.parents root.top ≡ None = ap (option_and_then (if_below (length relations.parents))) (tour_known (slice_get relations.parents root.top) ∙ ap (λ parents. parent_at parents root.top) is.parents ∙ root.none) in
      let at : In (roots relations.parents relations.order) root.top = in_filter (is_root relations.parents) relations.order root.top (in_order root.top (let same : length relations.intervals ≡ length spans = is.count in let w : root.top < length spans = root.within in omega arith)) (ap is_none none) in
      (in_flat (entered relations.parents relations.order most_generations) (roots relations.parents relations.order) root.top (Enters place) at under.0, in_flat (entered relations.parents relations.order most_generations) (roots relations.parents relations.order) root.top (Leaves place) at under.1)
