-- What a span has after its walk: its start, ends of calls, its own work, and its own joins.
use Rattle.std.proofs.Common.{◌≡◌, ℕ, ◌+◌, ◌*◌, ◌<◌, ◌≤◌, List, [], ◌∷◌, ◌++◌, Bool, true, false, cond, length, fold, min, Option, Some, None, is_some, refl, ◌∙◌, arith}
use Rattle.std.specs.Prelude.{nat_lt, unwrap_or, if◌then◌else◌}
use Rattle.std.specs.List.{AllByRecursion as Each}
use Rattle.std.proofs.lemmas.List.{length-append}
use Rattle.trace_relations.specs.Ticks.{last_tick}
use Rattle.trace_laws.proofs.Joined.{AreJoins, IfStage, IsJoin, are_joined, each_push, few_joins}
use Rattle.trace_stages.specs.declared.walk.event.Event.{Event}
use Rattle.trace_stages.specs.declared.walk.event.Event.TheVariants.{Starts, Ends}
use Rattle.trace_stages.specs.declared.walk.holding.Answer.{Answer}
use Rattle.trace_stages.specs.declared.walk.holding.Begin.{Begin}
use Rattle.trace_stages.specs.declared.walk.holding.OwnWork.{OwnWork}
use Rattle.trace_stages.specs.declared.walk.joins.JoinsOf.TheVariants as joins_of
use Rattle.trace_stages.specs.declared.walk.stage_id.StageId.{StageId}
use Rattle.trace_stages.specs.declared.walk.stage_id.StageId.TheVariants.{Start, Whole, Join, Work, Tried}
use Rattle.trace_stages.specs.Joins.{joined_of}
use Rattle.trace_stages.specs.Held.{PlainHolding, looked, opening}
use Rattle.trace_stages.specs.OwnWork.{with_work, worked}
use Rattle.trace_stages.specs.Walk.{after, answered, ended_by, walked, with_called}
use Rattle.trace_laws.proofs.Types.{Called}

-- the end of one of so many spans, or what one of them came to that was tried again
abbrev pub IsEnd : ℕ → (ℕ → Option ℕ) → StageId → Type 0
IsEnd n next (Whole place) = place < n
IsEnd n next (Tried place) = (place < n) × (is_some (next place) ≡ true)
IsEnd n next other = ⊥

-- what a span may have: its start, such an end, or one of so many joins or of so much work of its own
abbrev pub IsHeld : ℕ → ℕ → (ℕ → Option ℕ) → ℕ → ℕ → StageId → Type 0
IsHeld span n next most done (Start place) = place ≡ span
IsHeld span n next most done (Whole place) = place < n
IsHeld span n next most done (Tried place) = (place < n) × (is_some (next place) ≡ true)
IsHeld span n next most done (Join other number) = (other ≡ span) × (number < most)
IsHeld span n next most done (Work other number) = (other ≡ span) × (number < done)
IsHeld span n next most done other = ⊥

abbrev pub IsEvent : ℕ → (ℕ → Option ℕ) → Event → Type 0
IsEvent n next (Starts place tick) = tick ≤ last_tick
IsEvent n next (Ends place stage tick) = IsEnd n next stage

-- what was called when a span gave up
pub record IsCall (n : ℕ) (next : ℕ → Option ℕ) (call : Called) : Type 0 where
  pub stage : IsEnd n next call.stage
  pub start : call.start ≤ last_tick

abbrev pub IfAnswer : (StageId → Type 0) → Option Answer → Type 0
IfAnswer Held None = Unit {0}
IfAnswer Held (Some answer) = Held answer.stage × (answer.since ≤ last_tick)

pub record IsWork (Held : StageId → Type 0) (work : OwnWork) : Type 0 where
  pub after : Held work.after
  pub until : work.until ≤ last_tick

pub record IsWalked (span : ℕ) (n : ℕ) (next : ℕ → Option ℕ) (most : ℕ) (done : ℕ) (holding : PlainHolding) : Type 0 where
  pub has : IsHeld span n next most done holding.has
  pub ended : Each (IsEnd n next) holding.ended
  pub joins : Each (IsJoin (IsHeld span n next most done) (IsEnd n next)) holding.joins
  pub works : Each (IsWork (IsHeld span n next most done)) holding.works
  pub begins : Each (λ begin. IsHeld span n next most done begin.from) holding.begins
  pub answer : IfAnswer (IsHeld span n next most done) holding.answer

end_held : (span n : ℕ) (next : ℕ → Option ℕ) (most done : ℕ) (id : StageId) → IsEnd n next id → IsHeld span n next most done id
end_held span n next most done (Whole place) is = is
end_held span n next most done (Tried place) is = is
end_held span n next most done other is = absurd is

stage_held : (Held : StageId → Type 0) (stage : Option StageId) (has : StageId) → IfStage Held stage → Held has → Held (unwrap_or stage has)
stage_held Held None has is own = own
stage_held Held (Some id) has is own = is

-- ---- how many joins there are, and how much work

abbrev pub is_end : Event → ℕ
is_end (Starts place tick) = 0
is_end (Ends place stage tick) = 1

abbrev pub is_start : Event → ℕ
is_start (Starts place tick) = 1
is_start (Ends place stage tick) = 0

abbrev pub among : (Event → ℕ) → List Event → ℕ
among weight [] = 0
among weight (event ∷ events) = weight event + among weight events

-- joins, and what is to be joined
abbrev pub made_of : PlainHolding → ℕ
made_of holding = length holding.joins + length holding.ended

pub record Makes (before : PlainHolding) (after : PlainHolding) (ends : ℕ) (starts : ℕ) : Type 0 where
  pub grows : length before.joins ≤ length after.joins
  pub few : made_of after ≤ made_of before + ends
  pub adds : length before.works ≤ length after.works
  pub works : length after.works ≤ length before.works + starts
  pub same_answer : after.answer ≡ before.answer

abbrev sources_with : Bool → StageId → List StageId → List StageId
sources_with is_used has ended = (if is_used then [] else has ∷ []) ++ ended

abbrev of_parts : StageId → ℕ → List StageId → List ℕ → Bool → List (List StageId) → List OwnWork → List Begin → Option Answer → PlainHolding
of_parts has reached ended begun is_used joins works begins answer =
    record { has = has; reached = reached; ended = ended; begun = begun; is_used = is_used; joins = joins; works = works; begins = begins; answer = answer }

sources_few : (is_used : Bool) (has : StageId) (ended : List StageId) → length (sources_with is_used has ended) ≤ length ended + 1
sources_few true has ended = omega arith
sources_few false has ended = omega arith

look_makes : (span : ℕ) (has : StageId) (reached : ℕ) (ended : List StageId) (begun : List ℕ) (is_used : Bool) (joins : List (List StageId)) (works : List OwnWork) (begins : List Begin) (answer : Option Answer)
    → Makes (of_parts has reached ended begun is_used joins works begins answer) (looked span (of_parts has reached ended begun is_used joins works begins answer)) 0 0
look_makes span has reached [] begun is_used joins works begins answer = record { grows = omega arith; few = omega arith; adds = omega arith; works = omega arith; same_answer = refl }
look_makes span has reached (stage ∷ stages) begun is_used joins works begins answer =
    let count = few_joins (joins_of.Holding span) joins (sources_with is_used has (stage ∷ stages)) in
    let sources = sources_few is_used has (stage ∷ stages) in
    record { grows = count.grows; few = omega (arith, count.few, sources); adds = omega arith; works = omega arith; same_answer = refl }

pub looked_makes : (span : ℕ) (holding : PlainHolding) → Makes holding (looked span holding) 0 0
looked_makes span holding = look_makes span holding.has holding.reached holding.ended holding.begun holding.is_used holding.joins holding.works holding.begins holding.answer

-- a look makes a join of 1,023 sources more
look_few : (span : ℕ) (has : StageId) (reached : ℕ) (ended : List StageId) (begun : List ℕ) (is_used : Bool) (joins : List (List StageId)) (works : List OwnWork) (begins : List Begin) (answer : Option Answer)
    → length (looked span (of_parts has reached ended begun is_used joins works begins answer)).joins * 1_023 ≤ length joins * 1_023 + length ended + 1_024
look_few span has reached [] begun is_used joins works begins answer = omega arith
look_few span has reached (stage ∷ stages) begun is_used joins works begins answer =
    let count = few_joins (joins_of.Holding span) joins (sources_with is_used has (stage ∷ stages)) in
    let sources = sources_few is_used has (stage ∷ stages) in
    omega (arith, count.few, sources)

looked_few : (span : ℕ) (holding : PlainHolding) → length (looked span holding).joins * 1_023 ≤ length holding.joins * 1_023 + length holding.ended + 1_024
looked_few span holding = look_few span holding.has holding.reached holding.ended holding.begun holding.is_used holding.joins holding.works holding.begins holding.answer

works_with : (b : Bool) (span : ℕ) (holding : PlainHolding) (tick : ℕ) → Makes holding (cond b (with_work span holding tick) holding) 0 1
works_with true span holding tick = record { grows = omega arith; few = omega arith; adds = omega (arith, length-append holding.works (record { after = holding.has; until = tick } ∷ [])); works = omega (arith, length-append holding.works (record { after = holding.has; until = tick } ∷ [])); same_answer = refl }
works_with false span holding tick = record { grows = omega arith; few = omega arith; adds = omega arith; works = omega arith; same_answer = refl }

worked_makes : (span : ℕ) (holding : PlainHolding) (tick : ℕ) → Makes holding (worked span holding tick) 0 1
worked_makes span holding tick = works_with (nat_lt holding.reached tick) span holding tick

event_makes : (span : ℕ) (holding : PlainHolding) (event : Event) → Makes holding (after span holding event) (is_end event) (is_start event)
event_makes span holding (Starts place tick) =
    let look = looked_makes span holding in
    let work = worked_makes span (looked span holding) tick in
    record { grows = omega (arith, look.grows, work.grows); few = omega (arith, look.few, work.few); adds = omega (arith, look.adds, work.adds); works = omega (arith, look.works, work.works); same_answer = work.same_answer ∙ look.same_answer }
event_makes span holding (Ends place stage tick) = record { grows = omega arith; few = omega (arith, length-append holding.ended (stage ∷ [])); adds = omega arith; works = omega arith; same_answer = refl }

pub walk_makes : (span : ℕ) (events : List Event) (holding : PlainHolding) → Makes holding (fold (after span) holding events) (among is_end events) (among is_start events)
walk_makes span [] holding = record { grows = omega arith; few = omega arith; adds = omega arith; works = omega arith; same_answer = refl }
walk_makes span (event ∷ events) holding =
    let one = event_makes span holding event in
    let rest = walk_makes span events (after span holding event) in
    record { grows = omega (arith, one.grows, rest.grows); few = omega (arith, one.few, rest.few); adds = omega (arith, one.adds, rest.adds); works = omega (arith, one.works, rest.works); same_answer = rest.same_answer ∙ one.same_answer }

-- ---- what was called

record Calls (before : PlainHolding) (after : PlainHolding) (calls : ℕ) : Type 0 where
  joins : length after.joins ≡ length before.joins
  ended : length after.ended ≡ length before.ended + calls
  works : length after.works ≡ length before.works

called_counts : (called : List Called) (holding : PlainHolding) → Calls holding (with_called holding called) (length called)
called_counts [] holding = record { joins = refl; ended = omega arith; works = refl }
called_counts (call ∷ called) holding =
    let rest = called_counts called (ended_by call.span call.stage 0 holding) in
    record { joins = rest.joins; ended = omega (arith, rest.ended, length-append holding.ended (call.stage ∷ [])); works = rest.works }

pub record Answers (before : PlainHolding) (after : PlainHolding) (calls : ℕ) : Type 0 where
  pub grows : length before.joins ≤ length after.joins
  pub few : length after.joins * 1_023 ≤ length before.joins * 1_023 + length before.ended + calls + 1_024
  pub works : length after.works ≡ length before.works

pub answered_few : (span : ℕ) (called : List Called) (holding : PlainHolding) → Answers holding (answered span called holding) (length called)
answered_few span [] holding = record { grows = omega arith; few = omega arith; works = refl }
answered_few span (first ∷ others) holding =
    let counts = called_counts (first ∷ others) holding in
    let look = looked_few span (with_called holding (first ∷ others)) in
    let makes = looked_makes span (with_called holding (first ∷ others)) in
    record { grows = omega (arith, counts.joins, makes.grows); few = omega (arith, counts.joins, counts.ended, look); works = omega (arith, counts.works, makes.adds, makes.works) }

-- ---- what it has

module _ (span : ℕ) (n : ℕ) (next : ℕ → Option ℕ) (most : ℕ) (done : ℕ) where
  abbrev Held : StageId → Type 0
  Held id = IsHeld span n next most done id

  abbrev End : StageId → Type 0
  End id = IsEnd n next id

  look_joins : (is_used : Bool) (has stage : StageId) (stages : List StageId) (joins : List (List StageId)) → Held has → Each End (stage ∷ stages)
      → Each (IsJoin Held End) joins → length (joined_of (joins_of.Holding span) joins (sources_with is_used has (stage ∷ stages))).joins ≤ most
      → AreJoins Held End (joined_of (joins_of.Holding span) joins (sources_with is_used has (stage ∷ stages)))
  look_joins true has stage stages joins own all are few =
      are_joined (joins_of.Holding span) Held End most (end_held span n next most done) (λ j low. (refl, low)) joins stage stages are (end_held span n next most done stage all.0) all.1 few
  look_joins false has stage stages joins own all are few =
      are_joined (joins_of.Holding span) Held End most (end_held span n next most done) (λ j low. (refl, low)) joins has (stage ∷ stages) are own all few

  look_walked : (has : StageId) (reached : ℕ) (ended : List StageId) (begun : List ℕ) (is_used : Bool) (joins : List (List StageId)) (works : List OwnWork) (begins : List Begin) (answer : Option Answer)
      → IsWalked span n next most done (of_parts has reached ended begun is_used joins works begins answer) → length (looked span (of_parts has reached ended begun is_used joins works begins answer)).joins ≤ most
      → IsWalked span n next most done (looked span (of_parts has reached ended begun is_used joins works begins answer))
  look_walked has reached [] begun is_used joins works begins answer is few = is
  look_walked has reached (stage ∷ stages) begun is_used joins works begins answer is few =
      let made = look_joins is_used has stage stages joins is.has is.ended is.joins few in
      record { has = stage_held Held _ has made.stage is.has; ended = tt; joins = made.joins; works = is.works; begins = is.begins; answer = is.answer }

  pub looked_walked : (holding : PlainHolding) → IsWalked span n next most done holding → length (looked span holding).joins ≤ most → IsWalked span n next most done (looked span holding)
  looked_walked holding is few = look_walked holding.has holding.reached holding.ended holding.begun holding.is_used holding.joins holding.works holding.begins holding.answer is few

  work_walked : (b : Bool) (holding : PlainHolding) (tick : ℕ) → IsWalked span n next most done holding → tick ≤ last_tick → length (cond b (with_work span holding tick) holding).works ≤ done
      → IsWalked span n next most done (cond b (with_work span holding tick) holding)
  work_walked true holding tick is low few = record {
    has = (refl, omega (arith, length-append holding.works (record { after = holding.has; until = tick } ∷ [])));
    ended = is.ended;
    joins = is.joins;
    works = each_push (IsWork Held) holding.works (record { after = holding.has; until = tick }) is.works (record { after = is.has; until = low });
    begins = is.begins;
    answer = is.answer;
  }
  work_walked false holding tick is low few = is

  worked_walked : (holding : PlainHolding) (tick : ℕ) → IsWalked span n next most done holding → tick ≤ last_tick → length (worked span holding tick).works ≤ done → IsWalked span n next most done (worked span holding tick)
  worked_walked holding tick is low few = work_walked (nat_lt holding.reached tick) holding tick is low few

  ended_walked : (place : ℕ) (stage : StageId) (tick : ℕ) (holding : PlainHolding) → IsWalked span n next most done holding → End stage → IsWalked span n next most done (ended_by place stage tick holding)
  ended_walked place stage tick holding is end =
      record { has = is.has; ended = each_push End holding.ended stage is.ended end; joins = is.joins; works = is.works; begins = is.begins; answer = is.answer }

  event_walked : (holding : PlainHolding) (event : Event) → IsWalked span n next most done holding → IsEvent n next event → length (after span holding event).joins ≤ most → length (after span holding event).works ≤ done
      → IsWalked span n next most done (after span holding event)
  event_walked holding (Starts place tick) is fits few done_few =
      let works = worked_makes span (looked span holding) tick in
      let look = looked_walked holding is (omega (arith, works.grows, few)) in
      let work = worked_walked (looked span holding) tick look fits done_few in
      record {
        has = work.has;
        ended = work.ended;
        joins = work.joins;
        works = work.works;
        begins = each_push (λ (begin : Begin). Held begin.from) (worked span (looked span holding) tick).begins (record { span = place; from = (worked span (looked span holding) tick).has }) work.begins work.has;
        answer = work.answer;
      }
  event_walked holding (Ends place stage tick) is fits few done_few = ended_walked place stage tick holding is fits

  walk_walked : (events : List Event) (holding : PlainHolding) → IsWalked span n next most done holding → Each (IsEvent n next) events → length (fold (after span) holding events).joins ≤ most → length (fold (after span) holding events).works ≤ done
      → IsWalked span n next most done (fold (after span) holding events)
  walk_walked [] holding is fit few done_few = is
  walk_walked (event ∷ events) holding is fit few done_few =
      let rest = walk_makes span events (after span holding event) in
      walk_walked events (after span holding event) (event_walked holding event is fit.0 (omega (arith, rest.grows, few)) (omega (arith, rest.adds, done_few))) fit.1 few done_few

  pub walked_walked : (start : ℕ) (events : List Event) → Each (IsEvent n next) events → length (walked span start events).joins ≤ most → length (walked span start events).works ≤ done → IsWalked span n next most done (walked span start events)
  walked_walked start events fit few done_few = walk_walked events (opening span start) (record { has = refl; ended = tt; joins = tt; works = tt; begins = tt; answer = tt }) fit few done_few

  -- ---- answers

  called_walked : (called : List Called) (holding : PlainHolding) → IsWalked span n next most done holding → Each (IsCall n next) called → IsWalked span n next most done (with_called holding called)
  called_walked [] holding is all = is
  called_walked (call ∷ called) holding is all =
      let here = all.0 in
      called_walked called (ended_by call.span call.stage 0 holding) (ended_walked call.span call.stage 0 holding is here.stage) all.1

  first_low : (others : List Called) (since : ℕ) → fold (λ so_far (call : Called). min so_far call.start) since others ≤ since
  first_low [] since = omega arith
  first_low (call ∷ others) since = omega (arith, first_low others (min since call.start))

  pub answered_walked : (called : List Called) (holding : PlainHolding) → IsWalked span n next most done holding → Each (IsCall n next) called → length (answered span called holding).joins ≤ most
      → IsWalked span n next most done (answered span called holding)
  answered_walked [] holding is all few = is
  answered_walked (first ∷ others) holding is all few =
      let with = called_walked (first ∷ others) holding is all in
      let look = looked_walked (with_called holding (first ∷ others)) with few in
      let here = all.0 in
      record { has = is.has; ended = look.ended; joins = look.joins; works = look.works; begins = look.begins; answer = (look.has, omega (arith, first_low others first.start, here.start)) }
