-- What a span has at its end, and what it would have had with the answers of the calls that it gave up.
use Rattle.std.proofs.Common.{◌≡◌, ℕ, ◌+◌, ◌≤◌, inl, inr, List, [], ◌∷◌, ◌++◌, Bool, true, false, cond, length, map, Option, Some, None, refl, sym, ap, ◌∙◌, subst, arith, length-append}
use Rattle.std.specs.Prelude.{◌⊎◌, ◌||◌, IfSome, filter, is_some, slice_get, unwrap_or}
use Rattle.std.specs.List.{list_any}
use Rattle.std.proofs.lemmas.Bool.{false≢true}
use Rattle.std.proofs.lemmas.Option.{none-some, same_Some}
use Rattle.trace_relations.specs.Ancestry.{parent_at}
use Rattle.trace_relations.specs.Moments.{end_moment, interval_at}
use Rattle.trace_relations.specs.Relations.{PlainRelations}
use Rattle.trace_relations.specs.declared.moment.Moment.{Moment}
use Rattle.trace_stages.specs.Called.{call_end, called, called_by, ending, gave_up, is_open, starting}
use Rattle.trace_stages.specs.Events.{events_of}
use Rattle.trace_stages.specs.Held.{PlainHolding, looked, looked_at, sources_of}
use Rattle.trace_stages.specs.Holdings.{held, held_until}
use Rattle.trace_stages.specs.Joins.{PlainJoined, joined_of}
use Rattle.trace_stages.specs.Moments.{AreMoments, At}
use Rattle.trace_stages.specs.Walk.{answered, ended_by, some_open, walked, with_called}
use Rattle.trace_laws.proofs.Each.{Each, each-append, each-map, each-push, each-weaker, filter_each}
use Rattle.trace_stages.specs.declared.walk.holding.Answer.{Answer}
use Rattle.trace_stages.specs.declared.walk.holding.Begin.{Begin}
use Rattle.trace_stages.specs.declared.walk.holding.OwnWork.{OwnWork}
use Rattle.trace_stages.specs.declared.walk.joins.JoinsOf.TheVariants as joins_of
use Rattle.trace_stages.specs.declared.walk.stage_id.StageId.{StageId}
use Rattle.trace_stages.specs.declared.walk.stage_id.StageId.TheVariants.{Join}
use Rattle.trace_laws.proofs.Gathering.{each-split, joined_all}
use Rattle.trace_laws.proofs.Joining.{AreMade, Extends, Joins, Made, are_made-weaker, extends-refl, joins_made, made-later, made-weaker}
use Rattle.trace_laws.proofs.Numbers.{start_number}
use Rattle.trace_laws.proofs.Relations.{same_option}
use Rattle.trace_laws.proofs.Rising.{EndedCall, Now, Within, ended_later, walked_has}
use Rattle.trace_laws.proofs.Types.{Called}
use Rattle.trace_laws.proofs.Walking.{Base, BeginsWell, WorkedBy, WorksWell, base-weaker, begins-extend, looked_has, works-extend}

-- a call that a span waits for has ended, with its last attempt
pub record WaitedCall (relations : PlainRelations) (span : ℕ) (id : StageId) : Type 0 where
  pub child : ℕ
  pub end : Moment
  pub ends : end_moment (interval_at relations.intervals child) ≡ Some end
  pub waits : slice_get relations.waiting child ≡ Some (Some span)
  pub last : relations.attempts.next child ≡ None
  pub is : id ≡ call_end relations.attempts (relations.attempts.first child)

-- a call that a span gave up
pub record GivenCall (relations : PlainRelations) (span : ℕ) (id : StageId) : Type 0 where
  pub child : ℕ
  pub gave : parent_at relations.given_up child ≡ Some span
  pub is : id ≡ call_end relations.attempts child

abbrev pub IsCall : PlainRelations → ℕ → StageId → Type 0
IsCall relations span id = WaitedCall relations span id ⊎ GivenCall relations span id

abbrev pub HasWorked : List OwnWork → ℕ → Type 0
HasWorked works count = (work : OwnWork) × (slice_get works count ≡ Some work)

-- the start of a span, its calls, or its own work
abbrev pub HadBase : PlainRelations → List OwnWork → ℕ → StageId → Type 0
HadBase relations works span id = Base span (IsCall relations span) (HasWorked works) id

pub waited : (relations : PlainRelations) (span now reached : ℕ) (id : StageId) → EndedCall relations span now reached id → IsCall relations span id
waited relations span now reached id ended = inl (record { child = ended.child; end = ended.end; ends = ended.ends; waits = ended.waits; last = ended.last; is = ended.is })

pub had_base : (relations : PlainRelations) (works : List OwnWork) (span now reached : ℕ) (id : StageId) → Base span (EndedCall relations span now reached) (WorkedBy works now reached) id → HadBase relations works span id
had_base relations works span now reached id base =
    base-weaker span (EndedCall relations span now reached) (IsCall relations span) (WorkedBy works now reached) (HasWorked works) (waited relations span now reached) (λ count worked. (worked.work, worked.is)) id base

-- ---- a look

-- what a span has, its joins and what has ended are made of some stages
record IsMade (span : ℕ) (Stage : StageId → Type 0) (holding : PlainHolding) : Type 0 where
  pub has : Made (joins_of.Holding span) Stage (length holding.joins) holding.has
  pub joins : AreMade (joins_of.Holding span) Stage 0 holding.joins
  pub ended : Each Stage holding.ended

-- more joins, and else the same
record Looks (holding after : PlainHolding) : Type 0 where
  pub extends : Extends holding.joins after.joins
  pub works : after.works ≡ holding.works
  pub begins : after.begins ≡ holding.begins

module _ (span : ℕ) (Stage : StageId → Type 0) where
  own : (n : ℕ) (id : StageId) (used : Bool) → Made (joins_of.Holding span) Stage n id → Each (Made (joins_of.Holding span) Stage n) (cond used [] (id ∷ []))
  own n id true made = tt
  own n id false made = (made, tt)

  sources_made : (holding : PlainHolding) → IsMade span Stage holding → Each (Made (joins_of.Holding span) Stage (length holding.joins)) (sources_of holding)
  sources_made holding made =
      each-append (Made (joins_of.Holding span) Stage (length holding.joins)) (cond holding.is_used [] (holding.has ∷ [])) holding.ended
      (own (length holding.joins) holding.has holding.is_used made.has)
      (each-weaker Stage (Made (joins_of.Holding span) Stage (length holding.joins)) (λ id base. inl base) holding.ended made.ended)

  stage_made : (n m : ℕ) (id : StageId) (stage : Option StageId) → n ≤ m → Made (joins_of.Holding span) Stage n id → IfSome stage (Made (joins_of.Holding span) Stage m) → Made (joins_of.Holding span) Stage m (unwrap_or stage id)
  stage_made n m id None le made here = made-later (joins_of.Holding span) Stage n m le id made
  stage_made n m id (Some other) le made here = here

  look : (holding : PlainHolding) (ended : List StageId) → IsMade span Stage holding → IsMade span Stage (looked_at span holding ended) × Looks holding (looked_at span holding ended)
  look holding [] made = (made, record { extends = extends-refl holding.joins; works = refl; begins = refl })
  look holding (first ∷ others) made =
      let joined : PlainJoined = joined_of (joins_of.Holding span) holding.joins (sources_of holding) in
      let joins : Joins (joins_of.Holding span) Stage holding.joins joined = joins_made (joins_of.Holding span) Stage holding.joins (sources_of holding) made.joins (sources_made holding made) in
      let count : length joined.joins ≡ length holding.joins + length joins.extends.0 = ap length joins.extends.1 ∙ length-append holding.joins joins.extends.0 in (
        record { has = stage_made (length holding.joins) (length joined.joins) holding.has joined.stage (omega (arith, count)) made.has joins.stage; joins = joins.joins; ended = tt },
        record { extends = joins.extends; works = refl; begins = refl },
      )

  -- calls that are added change nothing else
  record Adds (holding after : PlainHolding) : Type 0 where
    pub has : after.has ≡ holding.has
    pub joins : after.joins ≡ holding.joins
    pub works : after.works ≡ holding.works
    pub begins : after.begins ≡ holding.begins
    pub ended : Each Stage after.ended

  add : (holding : PlainHolding) (calls : List Called) → Each Stage holding.ended → Each (λ call. Stage call.stage) calls → Adds holding (with_called holding calls)
  add holding [] ended all = record { has = refl; joins = refl; works = refl; begins = refl; ended = ended }
  add holding (call ∷ calls) ended all =
      let rest : Adds (ended_by call.span call.stage 0 holding) (with_called (ended_by call.span call.stage 0 holding) calls) =
      add (ended_by call.span call.stage 0 holding) calls (each-push Stage holding.ended call.stage ended all.0) all.1 in
      record { has = rest.has; joins = rest.joins; works = rest.works; begins = rest.begins; ended = rest.ended }

  added : (holding : PlainHolding) (calls : List Called) → IsMade span Stage holding → Each (λ call. Stage call.stage) calls → IsMade span Stage (with_called holding calls)
  added holding calls made all =
      let adds = add holding calls made.ended all in
      record {
        has = subst (λ id. Made (joins_of.Holding span) Stage (length (with_called holding calls).joins) id) (sym adds.has)
            (subst (λ joins. Made (joins_of.Holding span) Stage (length joins) holding.has) (sym adds.joins) made.has);
        joins = subst (AreMade (joins_of.Holding span) Stage 0) (sym adds.joins) made.joins;
        ended = adds.ended;
      }

-- ---- what a span has

module _ (relations : PlainRelations) (span : ℕ) where
  abbrev pub BeganWell : List (List StageId) → List OwnWork → Begin → Type 0
  BeganWell joins works begin = BeginsWell span (EndedCall relations span) (start_number relations.intervals) (Within span relations (length relations.intervals)) (ended_later relations span) joins works begin

  abbrev pub WorkedWell : List (List StageId) → List OwnWork → OwnWork → Type 0
  WorkedWell joins works work = WorksWell span (EndedCall relations span) (start_number relations.intervals) (Within span relations (length relations.intervals)) (ended_later relations span) joins works work

  abbrev pub Part : List OwnWork → ℕ → StageId → Type 0
  Part works n id = Made (joins_of.Holding span) (HadBase relations works span) n id

  pub record HadWell (holding : PlainHolding) : Type 0 where
    pub has : Part holding.works (length holding.joins) holding.has
    pub joins : AreMade (joins_of.Holding span) (HadBase relations holding.works span) 0 holding.joins
    pub begins : Each (BeganWell holding.joins holding.works) holding.begins
    pub works : Each (WorkedWell holding.joins holding.works) holding.works
    pub answer : IfSome holding.answer (λ answer. Part holding.works (length holding.joins) answer.stage)

  abbrev NowHas : ℕ → PlainHolding → Type 0
  NowHas now holding = Now span relations (length relations.intervals) now holding

  -- what it has by a number is made of its calls and its work
  is_made : (now : ℕ) (holding : PlainHolding) → NowHas now holding → IsMade span (HadBase relations holding.works span) holding
  is_made now holding here = record {
    has = made-weaker (joins_of.Holding span) (Base span (EndedCall relations span now holding.reached) (WorkedBy holding.works now holding.reached)) (HadBase relations holding.works span)
        (had_base relations holding.works span now holding.reached) (length holding.joins) holding.has here.has;
    joins = are_made-weaker (joins_of.Holding span) (Base span (EndedCall relations span now holding.reached) (WorkedBy holding.works now holding.reached)) (HadBase relations holding.works span)
        (had_base relations holding.works span now holding.reached) 0 holding.joins here.joins;
    ended = each-weaker (EndedCall relations span now holding.reached) (HadBase relations holding.works span) (λ id ended. inr (inl (waited relations span now holding.reached id ended))) holding.ended here.ended;
  }

  unanswered : (answer : Option Answer) (P : Answer → Type 0) → answer ≡ None → IfSome answer P
  unanswered None P none = tt
  unanswered (Some answer) P none = absurd (none-some answer (sym none))

  plain_well : (now : ℕ) (holding : PlainHolding) → NowHas now holding → HadWell holding
  plain_well now holding here =
      let made = is_made now holding here in
      record { has = made.has; joins = made.joins; begins = here.begins; works = here.works; answer = unanswered holding.answer (λ answer. Part holding.works (length holding.joins) answer.stage) here.unanswered }

  -- with the answers of calls
  answered_well : (now : ℕ) (holding : PlainHolding) (calls : List Called) → NowHas now holding → Each (λ call. GivenCall relations span call.stage) calls → HadWell (answered span calls holding)
  answered_well now holding [] here all = plain_well now holding here
  answered_well now holding (first ∷ others) here all =
      let made = is_made now holding here in
      let calls : List Called = first ∷ others in
      let given = each-weaker (λ (call : Called). GivenCall relations span call.stage) (λ call. HadBase relations holding.works span call.stage) (λ call gave. inr (inl (inr gave))) calls all in
      let adds = add span (HadBase relations holding.works span) holding calls made.ended given in
      let with_calls = added span (HadBase relations holding.works span) holding calls made given in
      let looks = look span (HadBase relations holding.works span) (with_called holding calls) (with_called holding calls).ended with_calls in
      let extends : Extends holding.joins (looked span (with_called holding calls)).joins = subst (λ joins. Extends joins (looked span (with_called holding calls)).joins) adds.joins looks.1.extends in
      let works : (looked span (with_called holding calls)).works ≡ holding.works = looks.1.works ∙ adds.works in
      let begins : (looked span (with_called holding calls)).begins ≡ holding.begins = looks.1.begins ∙ adds.begins in
      let longer : length (looked span (with_called holding calls)).joins ≡ length holding.joins + length extends.0 = ap length extends.1 ∙ length-append holding.joins extends.0 in
      let has : Part holding.works (length (looked span (with_called holding calls)).joins) holding.has =
      made-later (joins_of.Holding span) (HadBase relations holding.works span) (length holding.joins) (length (looked span (with_called holding calls)).joins) (omega (arith, longer)) holding.has made.has in
      let same : Extends holding.works holding.works = extends-refl holding.works in
      let began : Each (BeganWell (looked span (with_called holding calls)).joins holding.works) holding.begins =
      each-weaker (BeganWell holding.joins holding.works) (BeganWell (looked span (with_called holding calls)).joins holding.works)
      (begins-extend span (EndedCall relations span) (start_number relations.intervals) (Within span relations (length relations.intervals)) (ended_later relations span) holding.joins (looked span (with_called holding calls)).joins holding.works holding.works extends same)
      holding.begins here.begins in
      let worked : Each (WorkedWell (looked span (with_called holding calls)).joins holding.works) holding.works =
      each-weaker (WorkedWell holding.joins holding.works) (WorkedWell (looked span (with_called holding calls)).joins holding.works)
      (works-extend span (EndedCall relations span) (start_number relations.intervals) (Within span relations (length relations.intervals)) (ended_later relations span) holding.joins (looked span (with_called holding calls)).joins holding.works holding.works extends same)
      holding.works here.works in
      record {
        has = subst (λ those. Part those (length (looked span (with_called holding calls)).joins) holding.has) (sym works) has;
        joins = subst (λ those. AreMade (joins_of.Holding span) (HadBase relations those span) 0 (looked span (with_called holding calls)).joins) (sym works) looks.0.joins;
        begins = subst (λ those. Each (BeganWell (looked span (with_called holding calls)).joins those) (looked span (with_called holding calls)).begins) (sym works)
            (subst (Each (BeganWell (looked span (with_called holding calls)).joins holding.works)) (sym begins) began);
        works = subst (λ those. Each (WorkedWell (looked span (with_called holding calls)).joins those) those) (sym works) worked;
        answer = subst (λ those. Part those (length (looked span (with_called holding calls)).joins) (looked span (with_called holding calls)).has) (sym works) looks.0.has;
      }

  each_given : (places : List ℕ) → Each (λ call. GivenCall relations span call.stage) (map (called_by relations) (filter (gave_up relations span) places))
  each_given places =
      each-map (λ (call : Called). GivenCall relations span call.stage) (called_by relations) (filter (gave_up relations span) places)
      (each-weaker (λ place. gave_up relations span place ≡ true) (λ place. GivenCall relations span (call_end relations.attempts place))
      (λ place gave. record { child = place; gave = same_option (parent_at relations.given_up place) span gave; is = refl }) (filter (gave_up relations span) places) (filter_each (gave_up relations span) places))

  -- what a span has by the moments of its trace
  pub held_well : (moments : List At) → AreMoments relations.intervals moments → HadWell (held relations moments span)
  held_well moments are = by_end (interval_at relations.intervals span).end (walked_has span relations (length relations.intervals) (interval_at relations.intervals span).start (omega arith) moments are)
    where
      by_end : (end : Option ℕ) → (last : ℕ) × NowHas last (walked span (interval_at relations.intervals span).start (events_of (length relations.intervals) relations moments span))
          → HadWell (held_until end span (called relations moments span) (walked span (interval_at relations.intervals span).start (events_of (length relations.intervals) relations moments span)))
      by_end None (last, here) = plain_well last (walked span (interval_at relations.intervals span).start (events_of (length relations.intervals) relations moments span)) here
      by_end (Some end) (last, here) =
          answered_well last (looked span (walked span (interval_at relations.intervals span).start (events_of (length relations.intervals) relations moments span))) (called relations moments span)
          (looked_has span (EndedCall relations span) (start_number relations.intervals) (Within span relations (length relations.intervals)) (ended_later relations span) last
          (walked span (interval_at relations.intervals span).start (events_of (length relations.intervals) relations moments span)) here)
          (each_given (ending moments ++ filter (is_open relations) (starting moments)))

  -- only a span that has ended has answers
  pub ended_where_answered : (moments : List At) → AreMoments relations.intervals moments → is_some (held relations moments span).answer ≡ true → (tick : ℕ) × ((interval_at relations.intervals span).end ≡ Some tick)
  ended_where_answered moments are answers =
      by_end (interval_at relations.intervals span).end refl (walked_has span relations (length relations.intervals) (interval_at relations.intervals span).start (omega arith) moments are) answers
    where
      by_end : (end : Option ℕ) → (interval_at relations.intervals span).end ≡ end → (last : ℕ) × NowHas last (walked span (interval_at relations.intervals span).start (events_of (length relations.intervals) relations moments span))
          → is_some (held_until end span (called relations moments span) (walked span (interval_at relations.intervals span).start (events_of (length relations.intervals) relations moments span))).answer ≡ true
          → (tick : ℕ) × ((interval_at relations.intervals span).end ≡ Some tick)
      by_end None none (last, here) answers = absurd (false≢true (sym (ap is_some here.unanswered) ∙ answers))
      by_end (Some tick) some (last, here) answers = (tick, some)

  -- and it gave a call up
  pub given_where_answered : (moments : List At) → AreMoments relations.intervals moments → is_some (held relations moments span).answer ≡ true → (id : StageId) × GivenCall relations span id
  given_where_answered moments are answers =
      by_end (interval_at relations.intervals span).end (walked_has span relations (length relations.intervals) (interval_at relations.intervals span).start (omega arith) moments are) answers
    where
      by_calls : (last : ℕ) (holding : PlainHolding) (calls : List Called) → NowHas last holding → Each (λ call. GivenCall relations span call.stage) calls → is_some (answered span calls holding).answer ≡ true → (id : StageId) × GivenCall relations span id
      by_calls last holding [] here given answers = absurd (false≢true (sym (ap is_some here.unanswered) ∙ answers))
      by_calls last holding (call ∷ calls) here given answers = (call.stage, given.0)

      by_end : (end : Option ℕ) → (last : ℕ) × NowHas last (walked span (interval_at relations.intervals span).start (events_of (length relations.intervals) relations moments span))
          → is_some (held_until end span (called relations moments span) (walked span (interval_at relations.intervals span).start (events_of (length relations.intervals) relations moments span))).answer ≡ true
          → (id : StageId) × GivenCall relations span id
      by_end None (last, here) answers = absurd (false≢true (sym (ap is_some here.unanswered) ∙ answers))
      by_end (Some tick) (last, here) answers =
          by_calls last (looked span (walked span (interval_at relations.intervals span).start (events_of (length relations.intervals) relations moments span))) (called relations moments span)
          (looked_has span (EndedCall relations span) (start_number relations.intervals) (Within span relations (length relations.intervals)) (ended_later relations span) last
          (walked span (interval_at relations.intervals span).start (events_of (length relations.intervals) relations moments span)) here)
          (each_given (ending moments ++ filter (is_open relations) (starting moments))) answers

  -- ---- before the answers of calls

  abbrev plain_until : Option ℕ → PlainHolding → PlainHolding
  plain_until None holding = holding
  plain_until (Some end) holding = looked span holding

  -- what a span has at its end, without the answers of what it gave up
  abbrev pub plain_held : List At → PlainHolding
  plain_held moments =
      plain_until (interval_at relations.intervals span).end (walked span (interval_at relations.intervals span).start (events_of (length relations.intervals) relations moments span))

  -- answers add joins, and nothing else
  pub record Precedes (plain holding : PlainHolding) : Type 0 where
    pub extends : Extends plain.joins holding.joins
    pub works : holding.works ≡ plain.works
    pub begins : holding.begins ≡ plain.begins
    pub has : holding.has ≡ plain.has
    pub alone : is_some holding.answer ≡ false → holding.joins ≡ plain.joins

  itself : (holding : PlainHolding) → Precedes holding holding
  itself holding = record { extends = extends-refl holding.joins; works = refl; begins = refl; has = refl; alone = λ none. refl }

  answered_precedes : (now : ℕ) (holding : PlainHolding) (calls : List Called) → NowHas now holding → Each (λ call. GivenCall relations span call.stage) calls → Precedes holding (answered span calls holding)
  answered_precedes now holding [] here all = itself holding
  answered_precedes now holding (first ∷ others) here all =
      let made = is_made now holding here in
      let calls : List Called = first ∷ others in
      let given = each-weaker (λ (call : Called). GivenCall relations span call.stage) (λ call. HadBase relations holding.works span call.stage) (λ call gave. inr (inl (inr gave))) calls all in
      let adds = add span (HadBase relations holding.works span) holding calls made.ended given in
      let with_calls = added span (HadBase relations holding.works span) holding calls made given in
      let looks = look span (HadBase relations holding.works span) (with_called holding calls) (with_called holding calls).ended with_calls in
      record {
        extends = subst (λ joins. Extends joins (looked span (with_called holding calls)).joins) adds.joins looks.1.extends;
        works = looks.1.works ∙ adds.works;
        begins = looks.1.begins ∙ adds.begins;
        has = refl;
        alone = λ none. absurd (false≢true (sym none));
      }

  abbrev Walked : List At → PlainHolding
  Walked moments = walked span (interval_at relations.intervals span).start (events_of (length relations.intervals) relations moments span)

  pub held_now : (moments : List At) → AreMoments relations.intervals moments → (now : ℕ) × NowHas now (plain_held moments)
  held_now moments are = by_end (interval_at relations.intervals span).end (walked_has span relations (length relations.intervals) (interval_at relations.intervals span).start (omega arith) moments are)
    where
      by_end : (end : Option ℕ) → (last : ℕ) × NowHas last (Walked moments) → (now : ℕ) × NowHas now (plain_until end (Walked moments))
      by_end None here = here
      by_end (Some tick) (last, here) =
          (last, looked_has span (EndedCall relations span) (start_number relations.intervals) (Within span relations (length relations.intervals)) (ended_later relations span) last (Walked moments) here)

  pub held_precedes : (moments : List At) → AreMoments relations.intervals moments → Precedes (plain_held moments) (held relations moments span)
  held_precedes moments are = by_end (interval_at relations.intervals span).end (walked_has span relations (length relations.intervals) (interval_at relations.intervals span).start (omega arith) moments are)
    where
      by_end : (end : Option ℕ) → (last : ℕ) × NowHas last (Walked moments) → Precedes (plain_until end (Walked moments)) (held_until end span (called relations moments span) (Walked moments))
      by_end None (last, here) = itself (Walked moments)
      by_end (Some tick) (last, here) =
          answered_precedes last (looked span (Walked moments)) (called relations moments span)
          (looked_has span (EndedCall relations span) (start_number relations.intervals) (Within span relations (length relations.intervals)) (ended_later relations span) last (Walked moments) here)
          (each_given (ending moments ++ filter (is_open relations) (starting moments)))

  -- ---- an answer stands for each call that was given up

  module _ (P : StageId → Type 0) where
    called_ended : (holding : PlainHolding) (calls : List Called) → Each P (with_called holding calls).ended → Each P holding.ended × Each (λ call. P call.stage) calls
    called_ended holding [] all = (all, tt)
    called_ended holding (call ∷ calls) all =
        let rest = called_ended (ended_by call.span call.stage 0 holding) calls all in
        let both = each-split P holding.ended (call.stage ∷ []) rest.0 in
        (both.0, (both.1.0, rest.1))

    stage_all : (stage : Option StageId) (has : StageId) → P (unwrap_or stage has) → IfSome stage P
    stage_all None has here = tt
    stage_all (Some id) has here = here

    looked_all : (holding : PlainHolding) (ended : List StageId) → holding.ended ≡ ended
        → ((k : ℕ) (sources : List StageId) → slice_get (looked_at span holding ended).joins k ≡ Some sources → P (Join span k) → Each P sources) → P (looked_at span holding ended).has → Each P holding.ended
    looked_all holding [] same down here = subst (Each P) (sym same) tt
    looked_all holding (first ∷ others) same down here =
        let joined : PlainJoined = joined_of (joins_of.Holding span) holding.joins (sources_of holding) in
        let all : Each P (sources_of holding) = joined_all (joins_of.Holding span) P joined.joins down holding.joins (sources_of holding) (extends-refl joined.joins) (stage_all joined.stage holding.has here) in
        (each-split P (cond holding.is_used [] (holding.has ∷ [])) holding.ended all).1

    abbrev AnswersFor : (calls : List Called) (holding : PlainHolding) → Answer → Type 0
    AnswersFor calls holding answer =
        ((k : ℕ) (sources : List StageId) → slice_get holding.joins k ≡ Some sources → P (Join span k) → Each P sources) → P answer.stage → Each (λ (call : Called). P call.stage) calls × (answer.is_open ≡ some_open calls)

    answered_all : (holding : PlainHolding) (calls : List Called) (answer : Answer) → holding.answer ≡ None → (answered span calls holding).answer ≡ Some answer → AnswersFor calls (answered span calls holding) answer
    answered_all holding [] answer unanswered is = absurd (none-some answer (sym unanswered ∙ is))
    answered_all holding (first ∷ others) answer unanswered is = λ down here. (
      (called_ended holding (first ∷ others)
          (looked_all (with_called holding (first ∷ others)) (with_called holding (first ∷ others)).ended refl down
          (subst P (ap (λ those. those.stage) (sym (same_Some _ answer is))) here))).1,
      ap (λ those. those.is_open) (sym (same_Some _ answer is)),
    )

    pub answer_all : (moments : List At) → AreMoments relations.intervals moments → (answer : Answer) → (held relations moments span).answer ≡ Some answer
        → ((k : ℕ) (sources : List StageId) → slice_get (held relations moments span).joins k ≡ Some sources → P (Join span k) → Each P sources) → P answer.stage
        → Each (λ call. P call.stage) (called relations moments span) × (answer.is_open ≡ some_open (called relations moments span))
    answer_all moments are answer is = by_end (interval_at relations.intervals span).end (walked_has span relations (length relations.intervals) (interval_at relations.intervals span).start (omega arith) moments are) is
      where
        by_end : (end : Option ℕ) → (last : ℕ) × NowHas last (Walked moments) → (held_until end span (called relations moments span) (Walked moments)).answer ≡ Some answer
            → AnswersFor (called relations moments span) (held_until end span (called relations moments span) (Walked moments)) answer
        by_end None (last, here) is = absurd (none-some answer (sym here.unanswered ∙ is))
        by_end (Some tick) (last, here) is =
            answered_all (looked span (Walked moments)) (called relations moments span) answer
            (looked_has span (EndedCall relations span) (start_number relations.intervals) (Within span relations (length relations.intervals)) (ended_later relations span) last (Walked moments) here).unanswered is

    open_among : (places : List ℕ) → Each (λ call. P call.stage) (map (called_by relations) places) → list_any (λ call. call.is_open) (map (called_by relations) places) ≡ true
        → (place : ℕ) × (is_open relations place ≡ true) × P (call_end relations.attempts place)
    open_among [] all some = absurd (false≢true some)
    open_among (place ∷ places) all some = by_open (is_open relations place) refl some (λ rest. open_among places all.1 rest)
      where
        by_open : (b : Bool) → is_open relations place ≡ b → (b || list_any (λ call. call.is_open) (map (called_by relations) places)) ≡ true
            → (list_any (λ call. call.is_open) (map (called_by relations) places) ≡ true → (found : ℕ) × (is_open relations found ≡ true) × P (call_end relations.attempts found)) → (found : ℕ) × (is_open relations found ≡ true) × P (call_end relations.attempts found)
        by_open true opens some again = (place, opens, all.0)
        by_open false closed some again = again some

    -- so, where one of them is open, that has the property
    pub open_all : (moments : List At) → Each (λ call. P call.stage) (called relations moments span) → some_open (called relations moments span) ≡ true → (place : ℕ) × (is_open relations place ≡ true) × P (call_end relations.attempts place)
    open_all moments all some = open_among (filter (gave_up relations span) (ending moments ++ filter (is_open relations) (starting moments))) all some
