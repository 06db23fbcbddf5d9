-- What is known of the spans of a trace before their stages.
use Rattle.std.specs.Prelude.{ℕ, List, [], Bool, map, nat_eq, is_some, Option, None, unwrap_or, slice_get}
use Rattle.std.specs.HashSet.{contains_by}
use Rattle.trace_relations.specs.Relations.{PlainRelations, plain}
use Rattle.trace_relations.specs.Moments.{interval_at}
use Rattle.trace_relations.specs.declared.moment.Interval.{Interval}
use Rattle.trace_relations.specs.declared.moment.Moment.{Moment}
use Rattle.trace_stages.specs.declared.fates.Fate.{Fate}
use Rattle.trace_stages.specs.declared.known.Known.{Known}
use Rattle.trace_stages.specs.PlainJoins.{plain_joins}
use Rattle.trace_stages.specs.Visits.{children_at}
use Rattle.trace_stages.specs.declared.walk.holding.Answer.{Answer}
use Rattle.trace_stages.specs.declared.walk.holding.Begin.{Begin}
use Rattle.trace_stages.specs.declared.walk.holding.Holding.{Holding}
use Rattle.trace_stages.specs.declared.walk.holding.OwnWork.{OwnWork}
use Rattle.trace_stages.specs.declared.walk.stage_id.StageId.{StageId}
use Rattle.trace_stages.specs.declared.walk.stage_id.StageId.TheVariants.{Start}

-- what a span has at its end, the sources of each of its joins, its own work, from what each span begins that started in it, and what it would have had, if it gave calls up
pub record PlainHad : Type 0 where
  pub has : StageId
  pub joins : List (List StageId)
  pub works : List OwnWork
  pub begins : List Begin
  pub answer : Option Answer

abbrev pub had_of : Holding → PlainHad
had_of holding = record { has = holding.has; joins = plain_joins holding.joins.items; works = holding.works.items; begins = holding.begins.items; answer = holding.answer }

abbrev pub plain_hads : List Holding → List PlainHad
plain_hads holdings = map had_of holdings

-- what the span at a place has
abbrev pub had_at : List PlainHad → ℕ → PlainHad
had_at hads place = unwrap_or (slice_get hads place) (record { has = Start place; joins = []; works = []; begins = []; answer = None })

-- what is known of the spans of a trace, by their places
pub record PlainKnown : Type 0 where
  pub relations : PlainRelations
  pub fates : List Fate
  pub has_two : ℕ → Bool
  pub hads : List PlainHad
  -- the children of each span, in the order of starts
  pub children : ℕ → List ℕ
  -- when the first caller ended that gave up a call in which each span lies
  pub bounds : List (Option Moment)
  -- whether a failure without a name hands on any other
  pub hands_on : Bool

abbrev pub plain_known : Known → PlainKnown
plain_known known = record {
  relations = plain known.relations.now;
  fates = known.fates.items;
  has_two = λ place. contains_by (nat_eq place) known.with_two;
  hads = plain_hads known.holdings.items;
  children = children_at known.children.items;
  bounds = known.bounds.items;
  hands_on = known.hands_on;
}

abbrev pub has_ended : List Interval → ℕ → Bool
has_ended intervals place = is_some (interval_at intervals place).end

abbrev pub gave_up : PlainKnown → ℕ → Bool
gave_up known place = is_some (had_at known.hads place).answer
