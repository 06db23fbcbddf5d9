-- What a span has that gave nothing up: it is made of what it waited for.
use Rattle.std.proofs.Common.{◌≡◌, ℕ, List, [], ◌∷◌, true, false, length, Option, Some, None, sym, arith}
use Rattle.std.specs.Prelude.{is_some}
use Rattle.std.proofs.lemmas.Bool.{false≢true}
use Rattle.trace_relations.specs.Moments.{interval_at}
use Rattle.trace_relations.specs.Relations.{PlainRelations}
use Rattle.trace_stages.specs.Called.{called}
use Rattle.trace_stages.specs.Events.{events_of}
use Rattle.trace_stages.specs.Held.{PlainHolding, looked}
use Rattle.trace_stages.specs.Holdings.{held, held_until}
use Rattle.trace_stages.specs.Moments.{AreMoments, At}
use Rattle.trace_stages.specs.Walk.{answered, walked}
use Rattle.trace_laws.proofs.Having.{HasWorked, WaitedCall}
use Rattle.trace_stages.specs.declared.walk.holding.OwnWork.{OwnWork}
use Rattle.trace_stages.specs.declared.walk.joins.JoinsOf.TheVariants as joins_of
use Rattle.trace_stages.specs.declared.walk.stage_id.StageId.{StageId}
use Rattle.trace_laws.proofs.Joining.{AreMade, Made, are_made-weaker, made-weaker}
use Rattle.trace_laws.proofs.Numbers.{start_number}
use Rattle.trace_laws.proofs.Rising.{EndedCall, Now, Within, ended_later, walked_has}
use Rattle.trace_laws.proofs.Types.{Called}
use Rattle.trace_laws.proofs.Walking.{Base, WorkedBy, base-weaker, looked_has}

module _ (relations : PlainRelations) (span : ℕ) where
  abbrev NowHas : ℕ → PlainHolding → Type 0
  NowHas now holding = Now span relations (length relations.intervals) now holding

  abbrev pub PlainBase : List OwnWork → StageId → Type 0
  PlainBase works id = Base span (WaitedCall relations span) (HasWorked works) id

  pub record HadPlain (holding : PlainHolding) : Type 0 where
    pub has : Made (joins_of.Holding span) (PlainBase holding.works) (length holding.joins) holding.has
    pub joins : AreMade (joins_of.Holding span) (PlainBase holding.works) 0 holding.joins

  plain_call : (now reached : ℕ) (id : StageId) → EndedCall relations span now reached id → WaitedCall relations span id
  plain_call now reached id ended = record { child = ended.child; end = ended.end; ends = ended.ends; waits = ended.waits; last = ended.last; is = ended.is }

  plain_base : (works : List OwnWork) (now reached : ℕ) (id : StageId) → Base span (EndedCall relations span now reached) (WorkedBy works now reached) id → PlainBase works id
  plain_base works now reached id base =
      base-weaker span (EndedCall relations span now reached) (WaitedCall relations span) (WorkedBy works now reached) (HasWorked works) (plain_call now reached) (λ count worked. (worked.work, worked.is)) id base

  pub had_plain : (now : ℕ) (holding : PlainHolding) → NowHas now holding → HadPlain holding
  had_plain now holding here = record {
    has = made-weaker (joins_of.Holding span) (Base span (EndedCall relations span now holding.reached) (WorkedBy holding.works now holding.reached)) (PlainBase holding.works)
        (plain_base holding.works now holding.reached) (length holding.joins) holding.has here.has;
    joins = are_made-weaker (joins_of.Holding span) (Base span (EndedCall relations span now holding.reached) (WorkedBy holding.works now holding.reached)) (PlainBase holding.works)
        (plain_base holding.works now holding.reached) 0 holding.joins here.joins;
  }

  pub held_plain : (moments : List At) → AreMoments relations.intervals moments → is_some (held relations moments span).answer ≡ false → HadPlain (held relations moments span)
  held_plain moments are none =
      by_end (interval_at relations.intervals span).end (walked_has span relations (length relations.intervals) (interval_at relations.intervals span).start (omega arith) moments are) none
    where
      by_calls : (last : ℕ) (holding : PlainHolding) (calls : List Called) → NowHas last holding → is_some (answered span calls holding).answer ≡ false → HadPlain (answered span calls holding)
      by_calls last holding [] here none = had_plain last holding here
      by_calls last holding (call ∷ calls) here none = absurd (false≢true (sym none))

      by_end : (end : Option ℕ) → (last : ℕ) × NowHas last (walked span (interval_at relations.intervals span).start (events_of (length relations.intervals) relations moments span))
          → is_some (held_until end span (called relations moments span) (walked span (interval_at relations.intervals span).start (events_of (length relations.intervals) relations moments span))).answer ≡ false
          → HadPlain (held_until end span (called relations moments span) (walked span (interval_at relations.intervals span).start (events_of (length relations.intervals) relations moments span)))
      by_end None (last, here) none = had_plain last (walked span (interval_at relations.intervals span).start (events_of (length relations.intervals) relations moments span)) here
      by_end (Some tick) (last, here) none =
          by_calls last (looked span (walked span (interval_at relations.intervals span).start (events_of (length relations.intervals) relations moments span))) (called relations moments span)
          (looked_has span (EndedCall relations span) (start_number relations.intervals) (Within span relations (length relations.intervals)) (ended_later relations span) last
          (walked span (interval_at relations.intervals span).start (events_of (length relations.intervals) relations moments span)) here) none
