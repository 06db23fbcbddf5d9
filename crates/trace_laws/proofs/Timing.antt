-- When the stages of a trace end, and with what: no stage ends later than what begins from it.
use Rattle.std.proofs.Common.{◌≡◌, ℕ, suc, zero, ◌+◌, ◌*◌, ◌<◌, ◌≤◌, inl, inr, List, [], ◌∷◌, ◌++◌, Bool, true, false, cond, length, map, Option, Some, None, refl, sym, ap, ◌∙◌, subst, arith, length-append}
use Rattle.std.specs.Prelude.{◌⊎◌, IfSome, filter, find, fold, is_some, min, nat_eq, slice_get, unwrap_or}
use Rattle.std.specs.Option.{option_map}
use Rattle.std.proofs.lemmas.Bool.{cases_lt, eqb-true}
use Rattle.std.proofs.lemmas.Option.{none-some, same_Some, slice_get_past, slice_get_within}
use Rattle.trace_relations.specs.Moments.{end_after, end_moment, ended_before, interval_at, start_moment, turn_number}
use Rattle.trace_relations.specs.Relations.{PlainRelations}
use Rattle.trace_relations.specs.declared.as_told.AsTold.{AsTold}
use Rattle.trace_relations.specs.declared.hosts.Host.{Host}
use Rattle.trace_relations.specs.declared.hosts.Host.TheVariants.{Nowhere, Inside, After}
use Rattle.trace_relations.specs.declared.moment.Moment.{Moment}
use Rattle.trace_spans.specs.declared.span.Span.{Span}
use Rattle.trace_stages.specs.Beginnings.{all_begins, begun, bound_at, by_attempt, by_host, from_host, is_begun, is_linked, links_at, nothing_joined, option_list, sources_of}
use Rattle.trace_stages.specs.EndOutcomes.{own_sight}
use Rattle.trace_stages.specs.HandedOn.{all_handed}
use Rattle.trace_stages.specs.Joins.{PlainJoined, joined_of}
use Rattle.trace_stages.specs.Known.{PlainKnown, gave_up, had_at}
use Rattle.trace_stages.specs.Moments.{AreMoments, At}
use Rattle.trace_stages.specs.Order.{entry_sources, join_sources}
use Rattle.trace_stages.specs.Outcomes.{PlainSight, end_of, join_outcome, join_outcomes, outcome_at, outcome_of, with_join, work_end, work_outcome}
use Rattle.trace_stages.specs.Scene.{PlainScene, entry_at, handed_join, list_at, scene_of, span_outcomes, whole_sight}
use Rattle.trace_stages.specs.StagesOf.{had, known_of}
use Rattle.trace_stages.specs.Works.{at_end, end_with}
use Rattle.trace_stages.specs.declared.stage.Exception.{Exception}
use Rattle.trace_stages.specs.declared.walk.holding.Begin.{Begin}
use Rattle.trace_stages.specs.declared.walk.holding.OwnWork.{OwnWork}
use Rattle.trace_stages.specs.declared.walk.joins.JoinsOf.TheVariants as joins_of
use Rattle.trace_stages.specs.declared.walk.stage_id.StageId.{StageId}
use Rattle.trace_stages.specs.declared.walk.stage_id.StageId.TheVariants.{Start, Whole, Entry, Join, Work, Tried, Limit, Answer}
use Rattle.trace_laws.proofs.Each.{Each, In, at-append, each-append, each-in, each-map, each-weaker, filter_each, in-at, in_flat_map}
use Rattle.trace_laws.proofs.Falling.{in_mapped_range, join_place, joins_are_made, least_is, past_end, work_inside}
use Rattle.trace_laws.proofs.Having.{BeganWell, HadBase, HasWorked, WaitedCall, WorkedWell, held_now, held_precedes}
use Rattle.trace_laws.proofs.Joining.{AreMade, Extends, Joins, Made, extends-longer, extends-refl, extends-trans, joins_made, made-at, made-later, made-weaker}
use Rattle.trace_laws.proofs.Keys.{had_is, joins_at, least, own_joins}
use Rattle.trace_laws.proofs.Lesser.{entry_is, no_entry}
use Rattle.trace_laws.proofs.Making.{no_had, no_handed, no_join}
use Rattle.trace_laws.proofs.Numbers.{number, start_number}
use Rattle.trace_laws.proofs.Relations.{IsFamily, after_is, and_left, ended_number, ended_place, found_in, inside_before_end, inside_is, mapped_range, turn_three, waits_is, within_number}
use Rattle.trace_laws.proofs.Rising.{EndedCall, Within, ended_later}
use Rattle.trace_laws.proofs.Sure.{IsSure, SureBase, SurePart, all_sure, has_sure, plain, sure_extends, sure_joins, sure_made, sure_sources}
use Rattle.trace_laws.proofs.Ticking.{Outcome, Settled, at-extends, join_is, made_by, tick_of_end}
use Rattle.trace_laws.proofs.Trying.{first_itself, first_last, tried, tried_by}
use Rattle.trace_laws.proofs.Walking.{Base, IsWellMade, WorkedBy, base-weaker}

-- ---- ticks

pub sooner_tick : (t u s v : ℕ) → v < 3 → t * 3 + u ≤ s * 3 + v → t ≤ s
sooner_tick t u s v below le = omega arith

in_range : (a b : ℕ) → a < b → 0 + a < b
in_range a b lt = omega arith

same_le : (a b c : ℕ) → a ≡ b → b ≤ c → a ≤ c
same_le a b c same le = omega arith

up_to : (a b : ℕ) → a < b → a ≤ b
up_to a b lt = omega arith

below_up_to : (a b c : ℕ) → a < b → b ≤ c → a < c
below_up_to a b c lt le = omega arith

module _ {as_told : AsTold} (spans : List Span) (relations : PlainRelations) (is : IsFamily as_told spans relations) (moments : List At) (are : AreMoments relations.intervals moments) (failures : ℕ → Option Exception) where
  abbrev Known : PlainKnown
  Known = known_of spans relations as_told moments

  abbrev Scene : PlainScene
  Scene = scene_of (known_of spans relations as_told moments) failures

  abbrev own : PlainSight
  own = own_sight Known failures

  abbrev whole : PlainSight
  whole = whole_sight Known failures Scene.outcomes

  abbrev All : ℕ → List (List StageId)
  All place = joins_at spans relations is moments are failures place

  abbrev Own : ℕ → List (List StageId)
  Own place = own_joins spans relations is moments are failures place

  abbrev nth : ℕ → ℕ → ℕ
  nth place count = least spans relations is moments are failures place count

  abbrev Sure : ℕ → ℕ → Type 0
  Sure place count = IsSure spans relations is moments are failures place count

  abbrev Certain : ℕ → List (List StageId)
  Certain place = sure_joins spans relations is moments are failures place

  abbrev SureBy : ℕ → StageId → Type 0
  SureBy place id = SureBase spans relations is moments are failures place id

  abbrev PartOf : ℕ → ℕ → StageId → Type 0
  PartOf place n id = SurePart spans relations is moments are failures place n id

  abbrev works_at : ℕ → List OwnWork
  works_at place = (had relations moments place).works

  -- the last attempt of a call
  abbrev pub Latest : ℕ → ℕ
  Latest place = relations.attempts.last (relations.attempts.first place)

  abbrev joined_at : ℕ → List Outcome
  joined_at place = join_outcomes own (All place)

  -- how a stage ends
  abbrev pub outcome : StageId → Outcome
  outcome (Start place) = record { tick = (interval_at relations.intervals place).start; failure = None }
  outcome (Whole place) = end_of own place
  outcome (Limit place) = end_of own place
  outcome (Answer place) = end_of own place
  outcome (Tried place) = end_of own (Latest place)
  outcome (Work place count) = work_outcome Known place count
  outcome (Entry place count) = outcome_at (list_at Scene.entry_outcomes place) count
  outcome (Join place count) = outcome_at (join_outcomes own (All place)) (nth place count)

  -- it ends so: it is not the end of an open span, and waits for nothing that was given up
  abbrev pub IsClosed : StageId → Type 0
  IsClosed (Start place) = Unit {0}
  IsClosed (Whole place) = (tick : ℕ) × ((interval_at relations.intervals place).end ≡ Some tick)
  IsClosed (Limit place) = (tick : ℕ) × ((interval_at relations.intervals place).end ≡ Some tick)
  IsClosed (Answer place) = ⊥
  IsClosed (Tried place) = (tick : ℕ) × ((interval_at relations.intervals (Latest place)).end ≡ Some tick)
  IsClosed (Work place count) = Unit {0}
  IsClosed (Entry place count) = Unit {0}
  IsClosed (Join place count) = Sure place count

  -- ---- what a span has, by the outcomes of its own joins

  call_own : (those : List Outcome) (child : ℕ) (next : Option ℕ) → relations.attempts.next (relations.attempts.first child) ≡ next
      → outcome_of own those (cond (is_some next) (Tried (relations.attempts.first child)) (Whole (relations.attempts.first child))) ≡ outcome (cond (is_some next) (Tried (relations.attempts.first child)) (Whole (relations.attempts.first child)))
  call_own those child None none = refl
  call_own those child (Some again) some = ap (λ p. end_of own (relations.attempts.last p)) (sym ((tried spans relations is).same child))

  pub base_own : (place : ℕ) (those : List Outcome) (id : StageId) → SureBy place id → outcome_of own those id ≡ outcome id
  base_own place those id (inl same) = subst (λ one. outcome_of own those one ≡ outcome one) (sym same) refl
  base_own place those id (inr (inl call)) =
      subst (λ one. outcome_of own those one ≡ outcome one) (sym call.is) (call_own those call.child (relations.attempts.next (relations.attempts.first call.child)) refl)
  base_own place those id (inr (inr (count, worked, same))) = subst (λ one. outcome_of own those one ≡ outcome one) (sym same) refl

  pub part_own : (place n : ℕ) (id : StageId) → n ≤ length (All place) → PartOf place n id → outcome_of own (joined_at place) id ≡ outcome id
  part_own place n id le (inl base) = base_own place (joined_at place) id base
  part_own place n id le (inr (k, lt, same)) =
      subst (λ one. outcome_of own (joined_at place) one ≡ outcome one) (sym same)
      (ap (outcome_at (joined_at place)) (sym (least_is spans relations is moments are failures place k (below_up_to k n (length (All place)) lt le))))

  pub part_outcomes : (place n : ℕ) (sources : List StageId) → n ≤ length (All place) → Each (PartOf place n) sources → map (outcome_of own (joined_at place)) sources ≡ map outcome sources
  part_outcomes place n [] le all = refl
  part_outcomes place n (source ∷ sources) le all =
      ap (λ first. first ∷ map (outcome_of own (joined_at place)) sources) (part_own place n source le all.0) ∙ ap (λ rest. outcome source ∷ rest) (part_outcomes place n sources le all.1)

  -- ---- and by those of all

  call_whole : (those : List Outcome) (child : ℕ) (next : Option ℕ) → relations.attempts.next (relations.attempts.first child) ≡ next
      → outcome_of whole those (cond (is_some next) (Tried (relations.attempts.first child)) (Whole (relations.attempts.first child))) ≡ outcome (cond (is_some next) (Tried (relations.attempts.first child)) (Whole (relations.attempts.first child)))
  call_whole those child None none = refl
  call_whole those child (Some again) some = ap (λ p. end_of own (relations.attempts.last p)) (sym ((tried spans relations is).same child))

  pub outcomes_are : (place : ℕ) → place < length relations.intervals → slice_get Scene.outcomes place ≡ Some (joined_at place)
  outcomes_are place lt = mapped_range (span_outcomes Known failures (all_handed Known failures)) (length relations.intervals) place lt

  pub part_whole : (place n : ℕ) (id : StageId) → place < length relations.intervals → n ≤ length (All place) → PartOf place n id → (those : List Outcome) → outcome_of whole those id ≡ outcome id
  part_whole place n id lt le (inl (inl same)) those = subst (λ one. outcome_of whole those one ≡ outcome one) (sym same) refl
  part_whole place n id lt le (inl (inr (inl call))) those =
      subst (λ one. outcome_of whole those one ≡ outcome one) (sym call.is) (call_whole those call.child (relations.attempts.next (relations.attempts.first call.child)) refl)
  part_whole place n id lt le (inl (inr (inr (count, worked, same)))) those = subst (λ one. outcome_of whole those one ≡ outcome one) (sym same) refl
  part_whole place n id lt le (inr (k, short, same)) those =
      subst (λ one. outcome_of whole those one ≡ outcome one) (sym same)
      (ap (λ found. outcome_at (unwrap_or found those) k) (outcomes_are place lt)
      ∙ ap (outcome_at (joined_at place)) (sym (least_is spans relations is moments are failures place k (below_up_to k n (length (All place)) short le))))

  -- ---- what is sure has ended

  call_closed : (child : ℕ) (end : Moment) (next : Option ℕ) → end_moment (interval_at relations.intervals child) ≡ Some end → relations.attempts.next child ≡ None → relations.attempts.next (relations.attempts.first child) ≡ next
      → IsClosed (cond (is_some next) (Tried (relations.attempts.first child)) (Whole (relations.attempts.first child)))
  call_closed child end None ends last none =
      (end.tick, ap (λ p. (interval_at relations.intervals p).end) (first_itself spans relations is child last none) ∙ tick_of_end (interval_at relations.intervals child) end ends)
  call_closed child end (Some again) ends last some =
      (end.tick, ap (λ p. (interval_at relations.intervals p).end) (first_last spans relations is child last) ∙ tick_of_end (interval_at relations.intervals child) end ends)

  pub waited_closed : (place : ℕ) (id : StageId) → WaitedCall relations place id → IsClosed id
  waited_closed place id call = subst IsClosed (sym call.is) (call_closed call.child call.end (relations.attempts.next (relations.attempts.first call.child)) call.ends call.last refl)

  pub part_closed : (place n : ℕ) (id : StageId) → place < length relations.intervals → n ≤ length (Certain place) → PartOf place n id → IsClosed id
  part_closed place n id lt le (inl (inl same)) = subst IsClosed (sym same) tt
  part_closed place n id lt le (inl (inr (inl call))) = waited_closed place id call
  part_closed place n id lt le (inl (inr (inr (count, worked, same)))) = subst IsClosed (sym same) tt
  part_closed place n id lt le (inr (k, short, same)) =
      let within : length (Certain place) ≤ length (All place) = extends-longer (Certain place) (All place) (sure_extends spans relations is moments are failures place lt) in
      let sooner : k < length (Certain place) = below_up_to k n (length (Certain place)) short le in
      subst IsClosed (sym same) (subst (λ m. m < length (Certain place)) (sym (least_is spans relations is moments are failures place k (below_up_to k (length (Certain place)) (length (All place)) sooner within))) sooner)

  -- ---- how a call ends

  call_tick : (child tick : ℕ) (end : Moment) (next : Option ℕ) → end_moment (interval_at relations.intervals child) ≡ Some end → relations.attempts.next child ≡ None → relations.attempts.next (relations.attempts.first child) ≡ next
      → end.tick ≤ tick → (outcome (cond (is_some next) (Tried (relations.attempts.first child)) (Whole (relations.attempts.first child)))).tick ≤ tick
  call_tick child tick end None ends last none le =
      same_le (unwrap_or (interval_at relations.intervals (relations.attempts.first child)).end 0) end.tick tick
      (ap (λ p. unwrap_or (interval_at relations.intervals p).end 0) (first_itself spans relations is child last none) ∙ ap (λ found. unwrap_or found 0) (tick_of_end (interval_at relations.intervals child) end ends)) le
  call_tick child tick end (Some again) ends last some le =
      same_le (unwrap_or (interval_at relations.intervals (Latest (relations.attempts.first child))).end 0) end.tick tick
      (ap (λ p. unwrap_or (interval_at relations.intervals p).end 0) (first_last spans relations is child last) ∙ ap (λ found. unwrap_or found 0) (tick_of_end (interval_at relations.intervals child) end ends)) le

  waited_tick : (place tick : ℕ) (id : StageId) (call : WaitedCall relations place id) → call.end.tick ≤ tick → (outcome id).tick ≤ tick
  waited_tick place tick id call le =
      subst (λ one. (outcome one).tick ≤ tick) (sym call.is) (call_tick call.child tick call.end (relations.attempts.next (relations.attempts.first call.child)) call.ends call.last refl le)

  work_tick : (place count tick : ℕ) (work : OwnWork) → place < length relations.intervals → slice_get (works_at place) count ≡ Some work → work.until ≤ tick → (outcome (Work place count)).tick ≤ tick
  work_tick place count tick work lt at le =
      same_le (work_end (slice_get (had_at Known.hads place).works count)) work.until tick
      (ap (λ those. work_end (slice_get those.works count)) (had_is spans relations is moments are failures place lt) ∙ ap work_end at) le

  -- ---- what a span has ended no later than what it is made of

  call_settled : (next : Option ℕ) (call : ℕ) → Settled own 0 (cond (is_some next) (Tried call) (Whole call))
  call_settled None call those more le = refl
  call_settled (Some again) call those more le = refl

  pub own_settled : (place : ℕ) (id : StageId) → HadBase relations (works_at place) place id → Settled own 0 id
  own_settled place id (inl same) = subst (Settled own 0) (sym same) (λ those more le. refl)
  own_settled place id (inr (inl (inl call))) = subst (Settled own 0) (sym call.is) (call_settled (relations.attempts.next (relations.attempts.first call.child)) (relations.attempts.first call.child))
  own_settled place id (inr (inl (inr call))) = subst (Settled own 0) (sym call.is) (call_settled (relations.attempts.next call.child) call.child)
  own_settled place id (inr (inr (count, worked, same))) = subst (Settled own 0) (sym same) (λ those more le. refl)

  -- early stages, of which some joins are made, and which all are parts of what a span has
  record Early (place tick : ℕ) (Stage : StageId → Type 0) : Type 0 where
    pub part : (id : StageId) → Stage id → SureBy place id
    pub by : (id : StageId) → Stage id → (outcome id).tick ≤ tick

  early_tick : (place tick : ℕ) (Stage : StageId → Type 0) (before : List (List StageId)) (id : StageId) → place < length relations.intervals → Early place tick Stage → Extends before (All place)
      → AreMade (joins_of.Holding place) Stage 0 before → Made (joins_of.Holding place) Stage (length before) id → (outcome id).tick ≤ tick
  early_tick place tick Stage before id lt early extends made here =
      subst (λ o. o.tick ≤ tick)
      (part_own place (length before) id (extends-longer before (All place) extends) (made-weaker (joins_of.Holding place) Stage (SureBy place) early.part (length before) id here))
      (made_by own (joins_of.Holding place) (λ those k. refl) (HadBase relations (works_at place) place) (own_settled place) (All place) before Stage tick
      (joins_are_made spans relations is moments are failures place lt) extends made
      (λ base stage. subst (λ o. o.tick ≤ tick) (sym (base_own place (joined_at place) base (early.part base stage))) (early.by base stage)) id here)

  -- by a number and a tick
  abbrev EarlyBase : ℕ → List OwnWork → ℕ → ℕ → StageId → Type 0
  EarlyBase place those now reached id = Base place (EndedCall relations place now reached) (WorkedBy those now reached) id

  abbrev ended_waited : (place now reached : ℕ) (id : StageId) → EndedCall relations place now reached id → WaitedCall relations place id
  ended_waited place now reached id ended = record { child = ended.child; end = ended.end; ends = ended.ends; waits = ended.waits; last = ended.last; is = ended.is }

  early_part : (place now reached : ℕ) (those : List OwnWork) → Extends those (works_at place) → (id : StageId) → EarlyBase place those now reached id → SureBy place id
  early_part place now reached those extends =
      base-weaker place (EndedCall relations place now reached) (WaitedCall relations place) (WorkedBy those now reached) (HasWorked (works_at place)) (ended_waited place now reached)
      (λ count worked. (worked.work, at-extends those (works_at place) count worked.work extends worked.is))

  -- ---- what a span has at its end

  child_end : (child place tick : ℕ) (end : Moment) → end_moment (interval_at relations.intervals child) ≡ Some end → slice_get relations.waiting child ≡ Some (Some place) → (interval_at relations.intervals place).end ≡ Some tick → end.tick ≤ tick
  child_end child place tick end ends waits ended =
      let moment : end_moment (interval_at relations.intervals place) ≡ Some (end_after (interval_at relations.intervals place).start tick) = ap (option_map (end_after (interval_at relations.intervals place).start)) ended in
      sooner_tick end.tick (turn_number end.turn) tick (turn_number (end_after (interval_at relations.intervals place).start tick).turn) (turn_three (end_after (interval_at relations.intervals place).start tick).turn)
      (within_number (end_moment (interval_at relations.intervals child)) (end_moment (interval_at relations.intervals place)) end (end_after (interval_at relations.intervals place).start tick)
      (waits_is spans relations is child place waits).ends ends moment)

  start_in : (child place tick : ℕ) → slice_get relations.hosts child ≡ Some (Inside place) → (interval_at relations.intervals place).end ≡ Some tick → (interval_at relations.intervals child).start ≤ tick
  start_in child place tick inside ended =
      let end : Moment = end_after (interval_at relations.intervals place).start tick in
      let moment : end_moment (interval_at relations.intervals place) ≡ Some (end_after (interval_at relations.intervals place).start tick) = ap (option_map (end_after (interval_at relations.intervals place).start)) ended in
      sooner_tick (interval_at relations.intervals child).start 1 tick (turn_number (end_after (interval_at relations.intervals place).start tick).turn) (turn_three (end_after (interval_at relations.intervals place).start tick).turn)
      (up_to (start_number relations.intervals child) (number (end_after (interval_at relations.intervals place).start tick))
      (inside_before_end spans relations is child place (end_after (interval_at relations.intervals place).start tick) inside moment))

  end_early : (place tick : ℕ) → place < length relations.intervals → (interval_at relations.intervals place).end ≡ Some tick → Early place tick (SureBy place)
  end_early place tick lt ended = record { part = λ id base. base; by = by_base }
    where
      by_base : (id : StageId) → SureBy place id → (outcome id).tick ≤ tick
      by_base id (inl same) = subst (λ one. (outcome one).tick ≤ tick) (sym same) (is.forward place tick ended)
      by_base id (inr (inl call)) = waited_tick place tick id call (child_end call.child place tick call.end call.ends call.waits ended)
      by_base id (inr (inr (count, (work, at), same))) =
          let well = work_inside spans relations is moments are failures place count work at in
          let start : work.until ≡ (interval_at relations.intervals well.child).start = same_turn work.until (interval_at relations.intervals well.child).start well.at in
          subst (λ one. (outcome one).tick ≤ tick) (sym same) (work_tick place count tick work lt at (same_le work.until (interval_at relations.intervals well.child).start tick start (start_in well.child place tick well.inside ended)))
        where
          same_turn : (a b : ℕ) → a * 3 + 1 ≡ b * 3 + 1 → a ≡ b
          same_turn a b e = omega arith

  -- ---- stages from which others go on

  -- it ended by a tick, and is seen to
  pub record Leads (tick : ℕ) (id : StageId) : Type 0 where
    pub seen : (those : List Outcome) → outcome_of whole those id ≡ outcome id
    pub by : (outcome id).tick ≤ tick
    pub closed : IsClosed id

  certain_in_all : (place : ℕ) → place < length relations.intervals → length (Certain place) ≤ length (All place)
  certain_in_all place lt = extends-longer (Certain place) (All place) (sure_extends spans relations is moments are failures place lt)

  end_part : (place : ℕ) (handed : List StageId) → list_at (all_handed Known failures) place ≡ handed → place < length relations.intervals → gave_up Known place ≡ false → PartOf place (length (Certain place)) (end_with Scene place handed)
  end_part place [] none lt kept =
      made-later (joins_of.Holding place) (SureBy place) (length (plain spans relations is moments are failures place).joins) (length (Certain place))
      (extends-longer (plain spans relations is moments are failures place).joins (Certain place) (handed_join (list_at (all_handed Known failures) place), refl))
      (had_at Known.hads place).has (has_sure spans relations is moments are failures place lt)
  end_part place (source ∷ sources) some lt kept =
      let all : length (Certain place) ≡ length (Own place) + length (handed_join (list_at (all_handed Known failures) place)) =
      ap length (sym (all_sure spans relations is moments are failures place lt kept)) ∙ length-append (Own place) (handed_join (list_at (all_handed Known failures) place)) in
      inr (length (Own place), one_more (length (Certain place)) (length (Own place)) (length (handed_join (list_at (all_handed Known failures) place))) all (ap (λ those. length (handed_join those)) some), refl)
    where
      one_more : (a b c : ℕ) → a ≡ b + c → c ≡ 1 → b < a
      one_more a b c same one = omega arith

  -- the source of the last stage of a span that gave nothing up
  pub last_leads : (place tick : ℕ) → (interval_at relations.intervals place).end ≡ Some tick → gave_up Known place ≡ false → Leads tick (at_end Scene place)
  last_leads place tick ended kept =
      let lt : place < length relations.intervals = ended_place relations.intervals place (end_after (interval_at relations.intervals place).start tick) (ap (option_map (end_after (interval_at relations.intervals place).start)) ended) in
      let part : PartOf place (length (Certain place)) (at_end Scene place) = end_part place (list_at (all_handed Known failures) place) refl lt kept in
      record {
        seen = part_whole place (length (Certain place)) (at_end Scene place) lt (certain_in_all place lt) part;
        by = early_tick place tick (SureBy place) (Certain place) (at_end Scene place) lt (end_early place tick lt ended) (sure_extends spans relations is moments are failures place lt) (sure_made spans relations is moments are failures place lt) part;
        closed = part_closed place (length (Certain place)) (at_end Scene place) lt (up_to_itself (length (Certain place))) part;
      }
    where
      up_to_itself : (n : ℕ) → n ≤ n
      up_to_itself n = omega arith

  abbrev IsWell : ℕ → ℕ → ℕ → StageId → Type 0
  IsWell place now reached id =
      IsWellMade place (EndedCall relations place) (start_number relations.intervals) (Within place relations (length relations.intervals)) (ended_later relations place)
      (plain spans relations is moments are failures place).joins (plain spans relations is moments are failures place).works now reached id

  works_are : (place : ℕ) → works_at place ≡ (plain spans relations is moments are failures place).works
  works_are place = (held_precedes relations place moments are).works

  well_leads : (place now reached tick : ℕ) (id : StageId) → place < length relations.intervals → (well : IsWell place now reached id)
      → ((base : StageId) → EarlyBase place well.those now reached base → (outcome base).tick ≤ tick) → Leads tick id
  well_leads place now reached tick id lt well low =
      let more : Extends well.those (works_at place) = subst (Extends well.those) (sym (works_are place)) well.more in
      let certain : Extends well.before (Certain place) =
      extends-trans well.before (plain spans relations is moments are failures place).joins (Certain place) well.extends (handed_join (list_at (all_handed Known failures) place), refl) in
      let all : Extends well.before (All place) = extends-trans well.before (Certain place) (All place) certain (sure_extends spans relations is moments are failures place lt) in
      let part : PartOf place (length well.before) id =
      made-weaker (joins_of.Holding place) (EarlyBase place well.those now reached) (SureBy place) (early_part place now reached well.those more) (length well.before) id well.«from» in
      record {
        seen = part_whole place (length well.before) id lt (extends-longer well.before (All place) all) part;
        by = early_tick place tick (EarlyBase place well.those now reached) well.before id lt (record { part = early_part place now reached well.those more; by = low }) all well.made well.«from»;
        closed = part_closed place (length well.before) id lt (extends-longer well.before (Certain place) certain) part;
      }

  -- what own work comes after
  pub work_leads : (place count : ℕ) (work : OwnWork) → place < length relations.intervals → slice_get (works_at place) count ≡ Some work → Leads work.until work.after
  work_leads place count work lt at =
      let now = held_now relations place moments are in
      let here : In (plain spans relations is moments are failures place).works work = in-at (plain spans relations is moments are failures place).works count work (ap (λ those. slice_get those count) (sym (works_are place)) ∙ at) in
      by_well (each-in (WorkedWell relations place (plain spans relations is moments are failures place).joins (plain spans relations is moments are failures place).works) (plain spans relations is moments are failures place).works now.1.works work here)
    where
      by_well : WorkedWell relations place (plain spans relations is moments are failures place).joins (plain spans relations is moments are failures place).works work → Leads work.until work.after
      by_well well = well_leads place well.now well.reached work.until work.after lt well.well (low well)
        where
          low : (well : WorkedWell relations place (plain spans relations is moments are failures place).joins (plain spans relations is moments are failures place).works work)
              → (base : StageId) → EarlyBase place well.well.those well.now well.reached base → (outcome base).tick ≤ work.until
          low well base (inl same) = subst (λ one. (outcome one).tick ≤ work.until) (sym same) (reached_start (interval_at relations.intervals place).start well.reached work.until well.since well.sooner)
            where
              reached_start : (s r u : ℕ) → s * 3 + 1 ≤ r * 3 + 1 → r < u → s ≤ u
              reached_start s r u since sooner = omega arith
          low well base (inr (inl ended)) = waited_tick place work.until base (ended_waited place well.now well.reached base ended) (through ended.end.tick well.reached work.until ended.reaches well.sooner)
            where
              through : (a b c : ℕ) → a ≤ b → b < c → a ≤ c
              through a b c le lt = omega arith
          low well base (inr (inr (k, worked, same))) =
              let more : Extends well.well.those (works_at place) = subst (Extends well.well.those) (sym (works_are place)) well.well.more in
              subst (λ one. (outcome one).tick ≤ work.until) (sym same)
              (work_tick place k work.until worked.work lt (at-extends well.well.those (works_at place) k worked.work more worked.is) (through worked.work.until well.reached work.until worked.reaches well.sooner))
            where
              through : (a b c : ℕ) → a ≤ b → b < c → a ≤ c
              through a b c le lt = omega arith

  -- ---- what a span begins from

  abbrev started : ℕ → ℕ
  started place = (interval_at relations.intervals place).start

  abbrev IsBefore : ℕ → StageId → Type 0
  IsBefore place id = Leads (started place) id

  whole_before : (place other : ℕ) (end : Moment) → end_moment (interval_at relations.intervals other) ≡ Some end → number end < start_number relations.intervals place → IsBefore place (Whole other)
  whole_before place other end ends sooner = record {
    seen = λ those. refl;
    by = same_le (unwrap_or (interval_at relations.intervals other).end 0) end.tick (started place) (ap (λ found. unwrap_or found 0) (tick_of_end (interval_at relations.intervals other) end ends))
        (sooner_tick end.tick (turn_number end.turn) (started place) 1 (omega arith) (up_to (number end) (start_number relations.intervals place) sooner));
    closed = (end.tick, tick_of_end (interval_at relations.intervals other) end ends);
  }

  begin_low : (place host reached : ℕ) (those : List OwnWork) → host < length relations.intervals → slice_get relations.hosts place ≡ Some (Inside host) → Extends those (works_at host)
      → (base : StageId) → EarlyBase host those (start_number relations.intervals place) reached base → (outcome base).tick ≤ started place
  begin_low place host reached those lt inside more base (inl same) = subst (λ one. (outcome one).tick ≤ started place) (sym same) (inside_is spans relations is place host inside).sooner
  begin_low place host reached those lt inside more base (inr (inl ended)) =
      waited_tick host (started place) base (ended_waited host (start_number relations.intervals place) reached base ended)
      (sooner_tick ended.end.tick (turn_number ended.end.turn) (started place) 1 (omega arith) ended.by)
  begin_low place host reached those lt inside more base (inr (inr (k, worked, same))) =
      subst (λ one. (outcome one).tick ≤ started place) (sym same)
      (work_tick host k (started place) worked.work lt (at-extends those (works_at host) k worked.work more worked.is) (sooner_tick worked.work.until 1 (started place) 1 (omega arith) worked.by))

  begin_before : (host : ℕ) (begin : Begin) → host < length relations.intervals → In (had relations moments host).begins begin → IsBefore begin.span begin.from
  begin_before host begin lt here =
      let now = held_now relations host moments are in
      by_well (each-in (BeganWell relations host (plain spans relations is moments are failures host).joins (plain spans relations is moments are failures host).works) (plain spans relations is moments are failures host).begins now.1.begins begin (subst (λ those. In those begin) (held_precedes relations host moments are).begins here))
    where
      by_well : BeganWell relations host (plain spans relations is moments are failures host).joins (plain spans relations is moments are failures host).works begin → IsBefore begin.span begin.from
      by_well well =
          well_leads host (start_number relations.intervals begin.span) well.reached (started begin.span) begin.from lt well.well
          (begin_low begin.span host well.reached well.well.those lt well.inside (subst (Extends well.well.those) (sym (works_are host)) well.well.more))

  begun_before : (place : ℕ) (id : StageId) → begun Known place ≡ Some id → IsBefore place id
  begun_before place id begins = by_find (find (λ begin. nat_eq begin.span place) (all_begins Known.hads)) refl begins
    where
      by_find : (found : Option Begin) → find (λ begin. nat_eq begin.span place) (all_begins Known.hads) ≡ found → option_map (λ begin. begin.from) found ≡ Some id → IsBefore place id
      by_find None none some = absurd (none-some id some)
      by_find (Some begin) found some =
          let at = found_in (λ those. nat_eq those.span place) (all_begins Known.hads) begin found in
          let of_had = in_flat_map (λ those. those.begins) Known.hads begin at.0 in
          let of_span = in_mapped_range (had relations moments) 0 (length relations.intervals) of_had.0 of_had.1 in
          subst (IsBefore place) (same_Some begin.from id some)
          (subst (λ p. IsBefore p begin.from) (eqb-true begin.span place at.1)
          (begin_before (0 + of_span.0) begin (in_range of_span.0 (length relations.intervals) of_span.1) (subst (λ those. In those.begins begin) (sym of_span.2) of_had.2)))

  host_before : (place : ℕ) (host : Option Host) → slice_get relations.hosts place ≡ host → Each (IsBefore place) (option_list (by_host (begun Known) place (unwrap_or host Nowhere)))
  host_before place None here = tt
  host_before place (Some Nowhere) here = tt
  host_before place (Some (Inside host)) here = by_begin (begun Known place) refl
    where
      by_begin : (found : Option StageId) → begun Known place ≡ found → Each (IsBefore place) (option_list found)
      by_begin None none = tt
      by_begin (Some id) some = (begun_before place id some, tt)
  host_before place (Some (After host)) here =
      let ended = ended_number relations.intervals host place (after_is spans relations is place host here) in
      (whole_before place host ended.0 ended.1 ended.2, tt)

  from_before : (place : ℕ) (previous : Option ℕ) → relations.attempts.previous place ≡ previous
      → Each (IsBefore place) (option_list (by_attempt previous (by_host (begun Known) place (unwrap_or (slice_get relations.hosts place) Nowhere))))
  from_before place None here = host_before place (slice_get relations.hosts place) refl
  from_before place (Some call) here =
      let by = tried_by spans relations is call place ((tried spans relations is).previous call place here) in
      (whole_before place call by.end by.ends by.sooner, tt)

  link_before : (place link : ℕ) («from» : Option StageId) → is_linked relations.intervals (bound_at Known.bounds place) place «from» link ≡ true → IsBefore place (Whole link)
  link_before place link «from» here =
      let ended = ended_number relations.intervals link place (and_left (ended_before (interval_at relations.intervals link) (start_moment (interval_at relations.intervals place))) _ here) in
      whole_before place link ended.0 ended.1 ended.2

  abbrev linked : ℕ → List ℕ
  linked place = filter (is_linked relations.intervals (bound_at Known.bounds place) place (from_host Known (begun Known) place)) (links_at relations.references place)

  all_before : (place : ℕ) → Each (IsBefore place) (sources_of Known (begun Known) place)
  all_before place =
      each-append (IsBefore place) (option_list (from_host Known (begun Known) place)) (map Whole (linked place))
      (from_before place (relations.attempts.previous place) refl)
      (each-map (IsBefore place) Whole (linked place)
      (each-weaker (λ link. is_linked relations.intervals (bound_at Known.bounds place) place (from_host Known (begun Known) place) link ≡ true) (λ link. IsBefore place (Whole link))
      (λ link here. link_before place link (from_host Known (begun Known) place) here) (linked place)
      (filter_each (is_linked relations.intervals (bound_at Known.bounds place) place (from_host Known (begun Known) place)) (links_at relations.references place))))

  entry_if : (place : ℕ) (b : Bool) → Joins (joins_of.Entry place) (IsBefore place) [] (cond b (joined_of (joins_of.Entry place) [] (sources_of Known (begun Known) place)) nothing_joined)
  entry_if place true =
      joins_made (joins_of.Entry place) (IsBefore place) [] (sources_of Known (begun Known) place) tt
      (each-weaker (IsBefore place) (Made (joins_of.Entry place) (IsBefore place) 0) (λ id base. inl base) (sources_of Known (begun Known) place) (all_before place))
  entry_if place false = record { extends = extends-refl []; joins = tt; stage = tt }

  pub entry_joins : (place : ℕ) → Joins (joins_of.Entry place) (IsBefore place) [] (entry_at Scene.entries place)
  entry_joins place = elim (cases_lt place (length relations.intervals)) [
    | inl lt ↦ subst (Joins (joins_of.Entry place) (IsBefore place) []) (sym (entry_is spans relations is moments are failures place lt)) (entry_if place (is_begun Known place))
    | inr ge ↦ subst (Joins (joins_of.Entry place) (IsBefore place) []) (sym (no_entry spans relations is moments are failures place ge)) (record { extends = extends-refl []; joins = tt; stage = tt })
  ]

  entry_outcomes_mapped : (entries : List PlainJoined) (place : ℕ) → list_at (map (λ joined. join_outcomes whole joined.joins) entries) place ≡ join_outcomes whole (entry_at entries place).joins
  entry_outcomes_mapped [] place = refl
  entry_outcomes_mapped (joined ∷ entries) zero = refl
  entry_outcomes_mapped (joined ∷ entries) (suc place) = entry_outcomes_mapped entries place

  abbrev entries_at : ℕ → List (List StageId)
  entries_at place = (entry_at Scene.entries place).joins

  entry_outcomes_are : (place : ℕ) → list_at Scene.entry_outcomes place ≡ join_outcomes whole (entries_at place)
  entry_outcomes_are place = entry_outcomes_mapped Scene.entries place

  before_settled : (place : ℕ) (id : StageId) → IsBefore place id → Settled whole 0 id
  before_settled place id before those more le = before.seen (those ++ more) ∙ sym (before.seen those)

  entry_part : (place n : ℕ) (id : StageId) → Made (joins_of.Entry place) (IsBefore place) n id → outcome_of whole (join_outcomes whole (entries_at place)) id ≡ outcome id
  entry_part place n id (inl before) = before.seen (join_outcomes whole (entries_at place))
  entry_part place n id (inr (k, lt, same)) =
      subst (λ one. outcome_of whole (join_outcomes whole (entries_at place)) one ≡ outcome one) (sym same) (ap (λ those. outcome_at those k) (sym (entry_outcomes_are place)))

  entry_parts : (place n : ℕ) (sources : List StageId) → Each (Made (joins_of.Entry place) (IsBefore place) n) sources → map (outcome_of whole (join_outcomes whole (entries_at place))) sources ≡ map outcome sources
  entry_parts place n [] all = refl
  entry_parts place n (source ∷ sources) all =
      ap (λ first. first ∷ map (outcome_of whole (join_outcomes whole (entries_at place))) sources) (entry_part place n source all.0) ∙ ap (λ rest. outcome source ∷ rest) (entry_parts place n sources all.1)

  -- ---- joins

  joins_count : (sight : PlainSight) (before : List Outcome) (joins : List (List StageId)) → length (fold (with_join sight) before joins) ≡ length before + length joins
  joins_count sight before [] = omega arith
  joins_count sight before (sources ∷ joins) =
      sums (length (fold (with_join sight) (with_join sight before sources) joins)) (length (with_join sight before sources)) (length before) (length joins)
      (joins_count sight (with_join sight before sources) joins) (length-append before (join_outcome (map (outcome_of sight before) sources) ∷ []))
    where
      sums : (a b c d : ℕ) → a ≡ b + d → b ≡ c + 1 → a ≡ c + suc d
      sums a b c d one two = omega arith

  pub outcomes_count : (sight : PlainSight) (joins : List (List StageId)) → length (join_outcomes sight joins) ≡ length joins
  outcomes_count sight joins = nothing_more (length (join_outcomes sight joins)) (length joins) (joins_count sight [] joins)
    where
      nothing_more : (a b : ℕ) → a ≡ 0 + b → a ≡ b
      nothing_more a b same = omega arith

  past_none : (sight : PlainSight) (joins : List (List StageId)) (k : ℕ) → length joins ≤ k → outcome_at (join_outcomes sight joins) k ≡ record { tick = 0; failure = None }
  past_none sight joins k le =
      ap (λ found. unwrap_or found (record { tick = 0; failure = None })) (slice_get_past (join_outcomes sight joins) k (same_le (length (join_outcomes sight joins)) (length joins) k (outcomes_count sight joins) le))

  -- a join at the start of a span ends with its sources
  pub entry_ends : (place count : ℕ) → outcome (Entry place count) ≡ join_outcome (map outcome (entry_sources Scene place count))
  entry_ends place count = by_sources (slice_get (entries_at place) count) refl
    where
      by_sources : (found : Option (List StageId)) → slice_get (entries_at place) count ≡ found → outcome (Entry place count) ≡ join_outcome (map outcome (unwrap_or found []))
      by_sources None none = ap (λ those. outcome_at those count) (entry_outcomes_are place) ∙ past_none whole (entries_at place) count (past_end (entries_at place) count none)
      by_sources (Some sources) at =
          ap (λ those. outcome_at those count) (entry_outcomes_are place)
          ∙ join_is whole (joins_of.Entry place) (λ those k. refl) (IsBefore place) (before_settled place) (entries_at place) count sources (entry_joins place).joins at
          ∙ ap join_outcome (entry_parts place count sources (made-at (joins_of.Entry place) (IsBefore place) 0 count count (entries_at place) sources (omega arith) (entry_joins place).joins at))

  entry_made_closed : (place n : ℕ) (id : StageId) → Made (joins_of.Entry place) (IsBefore place) n id → IsClosed id
  entry_made_closed place n id (inl before) = before.closed
  entry_made_closed place n id (inr (k, lt, same)) = subst IsClosed (sym same) tt

  pub entry_closed : (place count : ℕ) → Each IsClosed (entry_sources Scene place count)
  entry_closed place count = by_sources (slice_get (entries_at place) count) refl
    where
      by_sources : (found : Option (List StageId)) → slice_get (entries_at place) count ≡ found → Each IsClosed (unwrap_or found [])
      by_sources None none = tt
      by_sources (Some sources) at =
          each-weaker (Made (joins_of.Entry place) (IsBefore place) count) IsClosed (entry_made_closed place count) sources
          (made-at (joins_of.Entry place) (IsBefore place) 0 count count (entries_at place) sources (omega arith) (entry_joins place).joins at)

  -- the source of the first stage of a span
  pub record Begins (place : ℕ) (source : StageId) : Type 0 where
    pub seen : outcome_of whole (list_at Scene.entry_outcomes place) source ≡ outcome source
    pub by : (outcome source).tick ≤ started place
    pub closed : IsClosed source

  pub first_begins : (place : ℕ) (source : StageId) → (entry_at Scene.entries place).stage ≡ Some source → Begins place source
  first_begins place source stage =
      let joins = entry_joins place in
      let made : Made (joins_of.Entry place) (IsBefore place) (length (entries_at place)) source = subst (λ found. IfSome found (Made (joins_of.Entry place) (IsBefore place) (length (entries_at place)))) stage joins.stage in
      let same : outcome_of whole (join_outcomes whole (entries_at place)) source ≡ outcome source = entry_part place (length (entries_at place)) source made in
      let le : (outcome_of whole (join_outcomes whole (entries_at place)) source).tick ≤ started place =
      made_by whole (joins_of.Entry place) (λ those k. refl) (IsBefore place) (before_settled place) (entries_at place) (entries_at place) (IsBefore place) (started place)
      joins.joins (extends-refl (entries_at place)) joins.joins
      (λ id before. subst (λ o. o.tick ≤ started place) (sym (before.seen (join_outcomes whole (entries_at place)))) before.by) source made in
      record {
        seen = ap (λ those. outcome_of whole those source) (entry_outcomes_are place) ∙ same;
        by = subst (λ o. o.tick ≤ started place) same le;
        closed = entry_made_closed place (length (entries_at place)) source made;
      }

  -- a join ends with its sources, by the outcomes of its span's own joins
  joined_here : (place count : ℕ) (sources : List StageId) → place < length relations.intervals → slice_get (All place) (nth place count) ≡ Some sources
      → outcome (Join place count) ≡ join_outcome (map (outcome_of own (joined_at place)) sources)
  joined_here place count sources lt at =
      join_is own (joins_of.Holding place) (λ those k. refl) (HadBase relations (works_at place) place) (own_settled place) (All place) (nth place count) sources (joins_are_made spans relations is moments are failures place lt) at

  nothing_here : (place count : ℕ) (joins : List (List StageId)) (handed : List StageId) (found : Option (List StageId)) → slice_get joins count ≡ found → unwrap_or found handed ≡ []
      → (slice_get (joins ++ handed_join handed) (min count (length joins)) ≡ Some []) ⊎ (length (joins ++ handed_join handed) ≤ min count (length joins))
  nothing_here place count joins handed (Some sources) at none =
      let lt : count < length joins = slice_get_within joins count sources at in
      let e : count ≡ min count (length joins) = omega arith in
      inl (subst (λ k. slice_get (joins ++ handed_join handed) k ≡ Some []) e (at-append joins (handed_join handed) count [] (at ∙ ap Some none)))
  nothing_here place count joins handed None at none =
      inr (past (length (joins ++ handed_join handed)) (length joins) (length (handed_join handed)) count (length-append joins (handed_join handed)) (ap (λ those. length (handed_join those)) none) (past_end joins count at))
    where
      past : (a b c k : ℕ) → a ≡ b + c → c ≡ 0 → b ≤ k → a ≤ min k b
      past a b c k one two le = omega arith

  pub join_ends_own : (place count : ℕ) → outcome (Join place count) ≡ join_outcome (map (outcome_of own (joined_at place)) (join_sources Scene place count))
  join_ends_own place count = elim (cases_lt place (length relations.intervals)) [
    | inl lt ↦ by_sources lt (join_sources Scene place count) refl
    | inr ge ↦
        let none : Own place ≡ [] = ap (λ those. those.joins) (no_had spans relations is moments are failures place ge) in
        let empty : All place ≡ [] = ap (λ those. those ++ handed_join (list_at (all_handed Known failures) place)) none ∙ ap handed_join (no_handed spans relations is moments are failures place ge) in
        past_none own (All place) (nth place count) (none_past (length (All place)) (nth place count) (ap length empty))
        ∙ ap (λ those. join_outcome (map (outcome_of own (joined_at place)) those)) (sym (no_join spans relations is moments are failures place count ge))
  ]
    where
      none_past : (a b : ℕ) → a ≡ 0 → a ≤ b
      none_past a b same = omega arith

      by_sources : place < length relations.intervals → (sources : List StageId) → join_sources Scene place count ≡ sources → outcome (Join place count) ≡ join_outcome (map (outcome_of own (joined_at place)) (join_sources Scene place count))
      by_sources lt [] none = elim (nothing_here place count (Own place) (list_at (all_handed Known failures) place) (slice_get (Own place) count) refl none) [
        | inl at ↦ joined_here place count [] lt at ∙ ap (λ those. join_outcome (map (outcome_of own (joined_at place)) those)) (sym none)
        | inr past ↦ past_none own (All place) (nth place count) past ∙ ap (λ those. join_outcome (map (outcome_of own (joined_at place)) those)) (sym none)
      ]
      by_sources lt (source ∷ sources) some =
          joined_here place count (join_sources Scene place count) lt
          (join_place spans relations is moments are failures place count source (slice_get (Own place) count) refl (subst (λ those. In those source) (sym some) (inl refl)))

  -- one that is sure ends with its sources
  pub join_ends : (place count : ℕ) → place < length relations.intervals → Sure place count → outcome (Join place count) ≡ join_outcome (map outcome (join_sources Scene place count))
  join_ends place count lt sure =
      join_ends_own place count
      ∙ ap join_outcome (part_outcomes place (nth place count) (join_sources Scene place count) (through (nth place count) (length (Certain place)) (length (All place)) sure (certain_in_all place lt)) (sure_sources spans relations is moments are failures place count lt sure))
    where
      through : (a b c : ℕ) → a < b → b ≤ c → a ≤ c
      through a b c less le = omega arith

  pub join_closed : (place count : ℕ) → place < length relations.intervals → Sure place count → Each IsClosed (join_sources Scene place count)
  join_closed place count lt sure =
      each-weaker (PartOf place (nth place count)) IsClosed (λ id part. part_closed place (nth place count) id lt (up_to (nth place count) (length (Certain place)) sure) part) (join_sources Scene place count)
      (sure_sources spans relations is moments are failures place count lt sure)
