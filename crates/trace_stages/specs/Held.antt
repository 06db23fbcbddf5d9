-- What a span has while it is walked through.
use Rattle.std.specs.Prelude.{ℕ, List, [], ◌∷◌, ◌++◌, Bool, false, if◌then◌else◌, Option, None, unwrap_or}
use Rattle.trace_stages.specs.declared.walk.holding.Answer.{Answer}
use Rattle.trace_stages.specs.declared.walk.holding.Begin.{Begin}
use Rattle.trace_stages.specs.declared.walk.holding.OwnWork.{OwnWork}
use Rattle.trace_stages.specs.declared.walk.joins.JoinsOf.TheVariants as joins_of
use Rattle.trace_stages.specs.declared.walk.stage_id.StageId.{StageId}
use Rattle.trace_stages.specs.declared.walk.stage_id.StageId.TheVariants.{Start}
use Rattle.trace_stages.specs.Joins.{PlainJoined, joined_of}

-- what a span has, as far as the walk has come
pub record PlainHolding : Type 0 where
  pub has : StageId
  -- the last tick at which something ended that it has, or will have
  pub reached : ℕ
  -- what it waits for and has ended since the last look
  pub ended : List StageId
  -- what began from what it has
  pub begun : List ℕ
  -- whether one of those that ended began from that
  pub is_used : Bool
  -- the sources of each of its joins
  pub joins : List (List StageId)
  -- its own work
  pub works : List OwnWork
  -- from what each span begins that started in it
  pub begins : List Begin
  -- what it would have had, where it gave calls up
  pub answer : Option Answer

-- first a span has its own start
abbrev pub opening : ℕ → ℕ → PlainHolding
opening span start = record { has = Start span; reached = start; ended = []; begun = []; is_used = false; joins = []; works = []; begins = []; answer = None }

-- what has ended, and what it had too unless one of them began from that
abbrev pub sources_of : PlainHolding → List StageId
sources_of holding = (if holding.is_used then [] else holding.has ∷ []) ++ holding.ended

abbrev pub looked_with : PlainHolding → PlainJoined → PlainHolding
looked_with holding joined = record holding { has = unwrap_or joined.stage holding.has; ended = []; begun = []; is_used = false; joins = joined.joins }

abbrev pub looked_at : ℕ → PlainHolding → List StageId → PlainHolding
looked_at span holding [] = holding
looked_at span holding (stage ∷ stages) = looked_with holding (joined_of (joins_of.Holding span) holding.joins (sources_of holding))

-- we look: where spans have ended since the last look, it now has these
abbrev pub looked : ℕ → PlainHolding → PlainHolding
looked span holding = looked_at span holding holding.ended
