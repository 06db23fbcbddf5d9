-- Spans fail as their definition says: each is left after all that it waits for.
use Rattle.std.proofs.Common.{◌≡◌, ℕ, suc, zero, ◌+◌, ◌<◌, ◌≤◌, inl, inr, List, [], ◌∷◌, ◌++◌, Bool, true, false, cond, length, map, Option, Some, None, refl, sym, ap, ◌∙◌, subst, arith}
use Rattle.std.specs.Prelude.{◌==◌, ◌&&◌, ◌||◌, IfSome, filter, flat_map, fold, is_none, is_some, nat_eq, not, slice_get, unwrap_or}
use Rattle.std.specs.Option.{option_eq, option_map}
use Rattle.std.proofs.lemmas.Bool.{eq-eqb, eqb-true, false≢true}
use Rattle.std.proofs.lemmas.List.Sums.{fold-append}
use Rattle.trace_relations.specs.Ancestry.{parent_at}
use Rattle.trace_relations.specs.Moments.{end_after, end_moment, interval_at}
use Rattle.trace_relations.specs.Parents.{all_references}
use Rattle.trace_relations.specs.Relations.{PlainRelations, parent_meant}
use Rattle.trace_relations.specs.declared.as_told.AsTold.{AsTold}
use Rattle.trace_relations.specs.declared.moment.Moment.{Moment}
use Rattle.trace_spans.specs.declared.span.Span.{Span}
use Rattle.trace_stages.specs.EndOutcomes.{end_outcome, own_sight}
use Rattle.trace_stages.specs.Failures.{failure, failure_after, failure_at_end, failure_of_thrower, failures_by, given, last_step, thrown, with_visit}
use Rattle.trace_stages.specs.Fates.{fate_at}
use Rattle.trace_stages.specs.HandedOn.{is_handed, last_to_end, takes_over, thrower}
use Rattle.trace_stages.specs.Known.{PlainKnown, gave_up, had_at}
use Rattle.trace_stages.specs.Moments.{AreMoments, At}
use Rattle.trace_stages.specs.Outcomes.{join_outcome, join_outcomes, outcome_of, with_join}
use Rattle.trace_stages.specs.StagesOf.{had, known_of}
use Rattle.trace_stages.specs.Visits.{children, entered, most_generations, roots, visits}
use Rattle.trace_stages.specs.declared.stage.Exception.{Exception}
use Rattle.trace_stages.specs.declared.tour.visit.Visit.{Visit}
use Rattle.trace_stages.specs.declared.tour.visit.Visit.TheVariants.{Enters, Leaves}
use Rattle.trace_stages.specs.declared.walk.holding.OwnWork.{OwnWork}
use Rattle.trace_stages.specs.declared.walk.joins.JoinsOf.TheVariants as joins_of
use Rattle.trace_stages.specs.declared.walk.stage_id.StageId.{StageId}
use Rattle.trace_stages.specs.declared.walk.stage_id.StageId.TheVariants.{Whole, Tried}
use Rattle.trace_laws.proofs.Climbing.{deeper, depth, shallow}
use Rattle.trace_laws.proofs.Each.{Each, In, filter_each, in-append, in-back, in-front}
use Rattle.trace_laws.proofs.Falling.{last_in}
use Rattle.trace_laws.proofs.GivingUp.{end_exists}
use Rattle.trace_laws.proofs.Joining.{AreMade, Made}
use Rattle.trace_laws.proofs.Keys.{had_is}
use Rattle.trace_laws.proofs.Presence.{child_parent, parent_child}
use Rattle.trace_laws.proofs.Relations.{IsFamily, Waits, and_left, and_right, ended_place, known_known, parents_within, same_option, waits_is}
use Rattle.trace_laws.proofs.Ticking.{Outcome}
use Rattle.trace_laws.proofs.Trying.{first_itself, tried}
use Rattle.trace_laws.proofs.Unanswered.{PlainBase, held_plain}

filter_same : {X : Type 0} (test other : X → Bool) → ((x : X) → test x ≡ other x) → (xs : List X) → filter test xs ≡ filter other xs
filter_same test other same [] = refl
filter_same test other same (x ∷ xs) = ap (λ b. cond b (x ∷ filter test xs) (filter test xs)) (same x) ∙ ap (λ rest. cond (other x) (x ∷ rest) rest) (filter_same test other same xs)

module _ {as_told : AsTold} (spans : List Span) (relations : PlainRelations) (is : IsFamily as_told spans relations) (moments : List At) (are : AreMoments relations.intervals moments) where
  abbrev Known : PlainKnown
  Known = known_of spans relations as_told moments

  abbrev no_failures : ℕ → Option Exception
  no_failures place = None

  -- a call that a span waits for, with its last attempt
  pub record Awaits (place child : ℕ) : Type 0 where
    pub end : Moment
    pub ends : end_moment (interval_at relations.intervals child) ≡ Some end
    pub waits : slice_get relations.waiting child ≡ Some (Some place)
    pub last : relations.attempts.next child ≡ None

  -- ---- how a span fails depends on those that it waits for

  module _ (first second : ℕ → Option Exception) (place : ℕ) (agree : (child : ℕ) → Awaits place child → first child ≡ second child) where
    end_same : (child : ℕ) → first child ≡ second child
        → ◌≡◌ {A = Outcome} (record { tick = unwrap_or (interval_at relations.intervals child).end 0; failure = first child }) (record { tick = unwrap_or (interval_at relations.intervals child).end 0; failure = second child })
    end_same child same = ap (λ failed. record { tick = unwrap_or (interval_at relations.intervals child).end 0; failure = failed }) same

    call_same : (own : List Outcome) (child : ℕ) (next : Option ℕ) → first child ≡ second child → relations.attempts.next child ≡ None → relations.attempts.next (relations.attempts.first child) ≡ next
        → outcome_of (own_sight Known first) own (cond (is_some next) (Tried (relations.attempts.first child)) (Whole (relations.attempts.first child)))
        ≡ outcome_of (own_sight Known second) own (cond (is_some next) (Tried (relations.attempts.first child)) (Whole (relations.attempts.first child)))
    call_same own child None same last none =
        subst (λ p. outcome_of (own_sight Known first) own (Whole p) ≡ outcome_of (own_sight Known second) own (Whole p)) (sym (first_itself spans relations is child last none)) (end_same child same)
    call_same own child (Some again) same last some =
        subst (λ p. ◌≡◌ {A = Outcome} (record { tick = unwrap_or (interval_at relations.intervals p).end 0; failure = first p }) (record { tick = unwrap_or (interval_at relations.intervals p).end 0; failure = second p }))
        (sym ((tried spans relations is).last child last)) (end_same child same)

    same_outcome : (own : List Outcome) (works : List OwnWork) (n : ℕ) (id : StageId) → Made (joins_of.Holding place) (PlainBase relations place works) n id → outcome_of (own_sight Known first) own id ≡ outcome_of (own_sight Known second) own id
    same_outcome own works n id (inl (inl same)) = subst (λ those. outcome_of (own_sight Known first) own those ≡ outcome_of (own_sight Known second) own those) (sym same) refl
    same_outcome own works n id (inl (inr (inl call))) =
        subst (λ those. outcome_of (own_sight Known first) own those ≡ outcome_of (own_sight Known second) own those) (sym call.is)
        (call_same own call.child (relations.attempts.next (relations.attempts.first call.child)) (agree call.child (record { end = call.end; ends = call.ends; waits = call.waits; last = call.last })) call.last refl)
    same_outcome own works n id (inl (inr (inr (count, worked, same)))) = subst (λ those. outcome_of (own_sight Known first) own those ≡ outcome_of (own_sight Known second) own those) (sym same) refl
    same_outcome own works n id (inr (k, lt, same)) = subst (λ those. outcome_of (own_sight Known first) own those ≡ outcome_of (own_sight Known second) own those) (sym same) refl

    same_outcomes : (own : List Outcome) (works : List OwnWork) (n : ℕ) (sources : List StageId) → Each (Made (joins_of.Holding place) (PlainBase relations place works) n) sources → map (outcome_of (own_sight Known first) own) sources ≡ map (outcome_of (own_sight Known second) own) sources
    same_outcomes own works n [] all = refl
    same_outcomes own works n (source ∷ sources) all =
        ap (λ outcome. outcome ∷ map (outcome_of (own_sight Known first) own) sources) (same_outcome own works n source all.0) ∙ ap (λ rest. outcome_of (own_sight Known second) own source ∷ rest) (same_outcomes own works n sources all.1)

    same_joins : (own : List Outcome) (works : List OwnWork) (n : ℕ) (joins : List (List StageId)) → AreMade (joins_of.Holding place) (PlainBase relations place works) n joins
        → fold (with_join (own_sight Known first)) own joins ≡ fold (with_join (own_sight Known second)) own joins
    same_joins own works n [] made = refl
    same_joins own works n (sources ∷ joins) made =
        ap (λ outcomes. fold (with_join (own_sight Known first)) (own ++ join_outcome outcomes ∷ []) joins) (same_outcomes own works n sources made.0)
        ∙ same_joins (own ++ join_outcome (map (outcome_of (own_sight Known second) own) sources) ∷ []) works (suc n) joins made.1

    same_end : place < length relations.intervals → gave_up Known place ≡ false → end_outcome Known first place ≡ end_outcome Known second place
    same_end lt none =
        let same : had_at Known.hads place ≡ had relations moments place = had_is spans relations is moments are first place lt in
        let plain = held_plain relations place moments are (ap (λ those. is_some those.answer) (sym same) ∙ none) in
        let joins : AreMade (joins_of.Holding place) (PlainBase relations place (had relations moments place).works) 0 (had_at Known.hads place).joins =
        subst (λ those. AreMade (joins_of.Holding place) (PlainBase relations place (had relations moments place).works) 0 those.joins) (sym same) plain.joins in
        let has : Made (joins_of.Holding place) (PlainBase relations place (had relations moments place).works) (length (had_at Known.hads place).joins) (had_at Known.hads place).has =
        subst (λ those. Made (joins_of.Holding place) (PlainBase relations place (had relations moments place).works) (length those.joins) those.has) (sym same) plain.has in
        ap (λ own. outcome_of (own_sight Known first) own (had_at Known.hads place).has) (same_joins [] (had relations moments place).works 0 (had_at Known.hads place).joins joins)
        ∙ same_outcome (join_outcomes (own_sight Known second) (had_at Known.hads place).joins) (had relations moments place).works (length (had_at Known.hads place).joins) (had_at Known.hads place).has has

    -- ---- whose failure is handed on

    none_next : (found : Option ℕ) → is_none found ≡ true → found ≡ None
    none_next None none = refl
    none_next (Some x) none = absurd (false≢true none)

    awaits_is : (child : ℕ) → option_eq nat_eq (parent_at relations.waiting child) (Some place) ≡ true → is_none (relations.attempts.next child) ≡ true → Awaits place child
    awaits_is child waiting last =
        let at : slice_get relations.waiting child ≡ Some (Some place) = known_known (slice_get relations.waiting child) place (same_option (parent_at relations.waiting child) place waiting) in
        let end = end_exists (end_moment (interval_at relations.intervals child)) (end_moment (interval_at relations.intervals place)) (waits_is spans relations is child place at).ends in
        record { end = end.0; ends = end.1; waits = at; last = none_next (relations.attempts.next child) last }

    handed_same : (child : ℕ) → is_handed Known first place child ≡ is_handed Known second place child
    handed_same child = by_tests (option_eq nat_eq (parent_at relations.waiting child) (Some place)) refl (is_none (relations.attempts.next child)) refl
      where
        by_tests : (a : Bool) → option_eq nat_eq (parent_at relations.waiting child) (Some place) ≡ a → (b : Bool) → is_none (relations.attempts.next child) ≡ b
            → (a && (b && takes_over Known.hands_on (fate_at Known.fates place) (first child))) ≡ (a && (b && takes_over Known.hands_on (fate_at Known.fates place) (second child)))
        by_tests true waiting true last = ap (takes_over Known.hands_on (fate_at Known.fates place)) (agree child (awaits_is child waiting last))
        by_tests true waiting false last = refl
        by_tests false waiting b last = refl

    thrower_same : thrower Known first place ≡ thrower Known second place
    thrower_same = ap (last_to_end relations.intervals) (filter_same (is_handed Known first place) (is_handed Known second place) handed_same (Known.children place))

    thrower_agrees : failure_of_thrower first (thrower Known first place) ≡ failure_of_thrower second (thrower Known second place)
    thrower_agrees =
        by_child (thrower Known first place)
        (last_in relations.intervals (λ child. is_handed Known first place child ≡ true) None (filter (is_handed Known first place) (Known.children place)) tt (filter_each (is_handed Known first place) (Known.children place)))
        ∙ ap (failure_of_thrower second) thrower_same
      where
        by_child : (child : Option ℕ) → IfSome child (λ those. is_handed Known first place those ≡ true) → failure_of_thrower first child ≡ failure_of_thrower second child
        by_child None here = refl
        by_child (Some child) here =
            agree child
            (awaits_is child (and_left (option_eq nat_eq (parent_at relations.waiting child) (Some place)) _ here)
            (and_left (is_none (relations.attempts.next child)) (takes_over Known.hands_on (fate_at Known.fates place) (first child)) (and_right (option_eq nat_eq (parent_at relations.waiting child) (Some place)) _ here)))

    given_same : (own : Option Exception) → given Known first place own ≡ given Known second place own
    given_same None = thrower_agrees
    given_same (Some failed) = refl

    after_same : place < length relations.intervals → gave_up Known place ≡ false → failure_after Known first place ≡ failure_after Known second place
    after_same lt none =
        ap (λ f. (last_step f (fate_at Known.fates place)).failure)
        (ap (λ outcome. given Known first place outcome.failure) (same_end lt none) ∙ given_same (end_outcome Known second place).failure)

    fails_same : failure Known first place ≡ failure Known second place
    fails_same = by_end (interval_at relations.intervals place).end refl
      where
        by_gave : (b : Bool) → gave_up Known place ≡ b → place < length relations.intervals
            → cond (b || not (Known.has_two place)) (thrown (fate_at Known.fates place)) (failure_after Known first place) ≡ cond (b || not (Known.has_two place)) (thrown (fate_at Known.fates place)) (failure_after Known second place)
        by_gave true gave lt = refl
        by_gave false none lt = ap (λ f. cond (not (Known.has_two place)) (thrown (fate_at Known.fates place)) f) (after_same lt none)

        by_end : (end : Option ℕ) → (interval_at relations.intervals place).end ≡ end → cond (is_some end) (failure_at_end Known first place) None ≡ cond (is_some end) (failure_at_end Known second place) None
        by_end None none = refl
        by_end (Some tick) some =
            by_gave (gave_up Known place) refl
            (ended_place relations.intervals place (end_after (interval_at relations.intervals place).start tick) (ap (option_map (end_after (interval_at relations.intervals place).start)) some))

  -- ---- those that are done

  -- each fails as its definition says, and so does all that it waits for
  abbrev AreDone : (ℕ → Option Exception) → List ℕ → Type 0
  AreDone failures done = (place : ℕ) → In done place → (failures place ≡ failure Known failures place) × ((child : ℕ) → Awaits place child → In done child)

  leave : (failures : ℕ → Option Exception) (done : List ℕ) (place : ℕ) → AreDone failures done → ((child : ℕ) → Awaits place child → In done child) → AreDone (with_visit Known failures (Leaves place)) (place ∷ done)
  leave failures done place all ready = each
    where
      after : ℕ → Option Exception
      after = λ other. cond (place == other) (failure Known failures place) (failures other)

      kept : (other : ℕ) → In done other → after other ≡ failures other
      kept other here = by_test (place == other) refl
        where
          by_test : (b : Bool) → (place == other) ≡ b → cond b (failure Known failures place) (failures other) ≡ failures other
          by_test true same = let e : place ≡ other = eqb-true place other same in ap (failure Known failures) e ∙ sym (all other here).0
          by_test false differ = refl

      itself : after place ≡ failure Known failures place
      itself = let same : (place == place) ≡ true = eq-eqb place place refl in ap (λ b. cond b (failure Known failures place) (failures place)) same

      each : AreDone after (place ∷ done)
      each other (inl same) = subst (λ p. (after p ≡ failure Known after p) × ((child : ℕ) → Awaits p child → In (place ∷ done) child)) same
          (itself ∙ fails_same failures after place (λ child waits. sym (kept child (ready child waits))), λ child waits. inr (ready child waits))
      each other (inr here) =
          (kept other here ∙ (all other here).0 ∙ fails_same failures after other (λ child waits. sym (kept child ((all other here).1 child waits))), λ child waits. inr ((all other here).1 child waits))

  awaited_child : (parent child : ℕ) → Awaits parent child → In (children relations.parents relations.order parent) child
  awaited_child parent child waits = parent_child spans relations is parent child (ended_place relations.intervals child waits.end waits.ends) (waits_is spans relations is child parent waits.waits).child

  abbrev depth_of : ℕ → ℕ
  depth_of place = depth relations.intervals (map parent_meant (all_references spans)) (length spans) is.few (parents_within spans) place

  record Visited (failures : ℕ → Option Exception) (done : List ℕ) (some : List Visit) : Type 0 where
    pub now : List ℕ
    pub all : AreDone (fold (with_visit Known) failures some) now
    pub more : (place : ℕ) → In done place → In now place
    pub left : (place : ℕ) → In some (Leaves place) → In now place

  no_leaves : (place other : ℕ) → Enters place ≡ Leaves other → ⊥
  no_leaves place other e = cc

  same_leaves : (place other : ℕ) → Leaves place ≡ Leaves other → place ≡ other
  same_leaves place other e = cc

  -- one after another
  each_visited : (failures : ℕ → Option Exception) (done : List ℕ) (visits_of : ℕ → List Visit) (places : List ℕ) → AreDone failures done
      → ((place : ℕ) → In places place → (those : ℕ → Option Exception) (before : List ℕ) → AreDone those before → Visited those before (visits_of place))
      → Visited failures done (flat_map visits_of places)
  each_visited failures done visits_of [] all one = record { now = done; all = all; more = λ place here. here; left = λ place here. absurd here }
  each_visited failures done visits_of (place ∷ places) all one =
      let first = one place (inl refl) failures done all in
      let rest = each_visited (fold (with_visit Known) failures (visits_of place)) first.now visits_of places first.all (λ other here. one other (inr here)) in
      record {
        now = rest.now;
        all = subst (λ those. AreDone those rest.now) (sym (fold-append (with_visit Known) failures (visits_of place) (flat_map visits_of places))) rest.all;
        more = λ other here. rest.more other (first.more other here);
        left = λ other here. elim (in-append (visits_of place) (flat_map visits_of places) (Leaves other) here) [
          | inl front ↦ rest.more other (first.left other front)
          | inr back ↦ rest.left other back
        ];
      }

  pub own_leaves : (n place : ℕ) → In (entered relations.parents relations.order n place) (Leaves place)
  unfolding entered
  own_leaves zero place = inr (inl refl)
  own_leaves (suc n) place = inr (in-back (flat_map (entered relations.parents relations.order n) (children relations.parents relations.order place)) (Leaves place ∷ []) (Leaves place) (inl refl))

  flat_leaves : (n : ℕ) (places : List ℕ) (place : ℕ) → In places place → In (flat_map (entered relations.parents relations.order n) places) (Leaves place)
  flat_leaves n [] place here = absurd here
  flat_leaves n (first ∷ places) place (inl same) = in-front (entered relations.parents relations.order n first) (flat_map (entered relations.parents relations.order n) places) (Leaves place) (subst (λ p. In (entered relations.parents relations.order n first) (Leaves p)) same (own_leaves n first))
  flat_leaves n (first ∷ places) place (inr later) = in-back (entered relations.parents relations.order n first) (flat_map (entered relations.parents relations.order n) places) (Leaves place) (flat_leaves n places place later)

  entered_visited : (n place : ℕ) → length spans ≤ n + depth_of place → (failures : ℕ → Option Exception) (done : List ℕ) → AreDone failures done → Visited failures done (entered relations.parents relations.order n place)
  unfolding entered
  entered_visited zero place deep failures done all = record {
    now = place ∷ done;
    all = leave failures done place all (λ child waits.
        let waited : Waits spans relations is place child = waits_is spans relations is child place waits.waits in
        let lt : child < length relations.intervals = ended_place relations.intervals child waits.end waits.ends in
        let more : depth_of child ≡ suc (depth_of place) = deeper relations.intervals (map parent_meant (all_references spans)) (length spans) is.few (parents_within spans) child place waited.child in
        let less : depth_of child < length spans = shallow relations.intervals (map parent_meant (all_references spans)) (length spans) is.few (parents_within spans) child (omega (arith, is.count)) in
        absurd (omega arith));
    more = λ other here. inr here;
    left = λ other here. elim here [
      | inl enters ↦ absurd (no_leaves place other enters)
      | inr later ↦ elim later [ inl leaves ↦ inl (same_leaves place other leaves) | inr never ↦ absurd never ]
    ];
  }
  entered_visited (suc n) place deep failures done all =
      let below = each_visited failures done (entered relations.parents relations.order n) (children relations.parents relations.order place) all
      (λ child here.
      let more : depth_of child ≡ suc (depth_of place) = deeper relations.intervals (map parent_meant (all_references spans)) (length spans) is.few (parents_within spans) child place (child_parent spans relations is place child here) in
      entered_visited n child (omega arith)) in
      let children_done : (child : ℕ) → In (children relations.parents relations.order place) child → In below.now child = λ child here. below.left child (flat_leaves n (children relations.parents relations.order place) child here) in
      record {
        now = place ∷ below.now;
        all = subst (λ those. AreDone those (place ∷ below.now)) (sym (fold-append (with_visit Known) failures (flat_map (entered relations.parents relations.order n) (children relations.parents relations.order place)) (Leaves place ∷ [])))
            (leave (fold (with_visit Known) failures (flat_map (entered relations.parents relations.order n) (children relations.parents relations.order place))) below.now place below.all (λ child waits. children_done child (awaited_child place child waits)));
        more = λ other here. inr (below.more other here);
        left = λ other here. elim here [
          | inl enters ↦ absurd (no_leaves place other enters)
          | inr later ↦ elim (in-append (flat_map (entered relations.parents relations.order n) (children relations.parents relations.order place)) (Leaves place ∷ []) (Leaves other) later) [
            | inl front ↦ inr (below.left other front)
            | inr back ↦ elim back [ inl leaves ↦ inl (same_leaves place other leaves) | inr never ↦ absurd never ]
          ]
        ];
      }

  -- each span that is left fails as its definition says
  pub left_fails : (place : ℕ) → In (visits relations.parents relations.order) (Leaves place)
      → failures_by Known (visits relations.parents relations.order) place ≡ failure Known (failures_by Known (visits relations.parents relations.order)) place
  left_fails place here =
      let all = each_visited no_failures [] (entered relations.parents relations.order most_generations) (roots relations.parents relations.order) (λ other never. absurd never) (λ root at. entered_visited most_generations root (omega (arith, is.few))) in
      (all.all place (all.left place here)).0
