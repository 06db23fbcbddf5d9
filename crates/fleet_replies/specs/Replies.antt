-- What there is of a reply, and what it comes to by changes that are tried.
use Rattle.std.specs.Prelude.{ℕ, ◌≡◌, ◌⊎◌, List, All, IsOk, Some, None, Result, Ok, Err, Vec, slice_get, take}
use Rattle.std.specs.Global.{Global}
use Rattle.std.specs.List.{AllZip}
use Rattle.std.specs.Option.{option_map}
use Rattle.stage_graph.specs.Plain.{PlainGraph, stage_at}
use Rattle.stage_ops.specs.declared.state.Done.{Done}
use Rattle.time_sweep.specs.Sweep.{completion_of}
use Rattle.change_words.specs.declared.change.Change.{Change}
use Rattle.fleet_summary.specs.declared.facts.TraceFacts.{TraceFacts}
use Rattle.span_groups.specs.declared.grouping.Grouping.{Grouping}
use Rattle.fleet_facts.specs.Facts.{AreFactsOf}
use Rattle.fleet_tries.specs.Tried.{AreTriedFacts, made_of}
use Rattle.fleet_replies.specs.declared.reply.Found.{Found}
use Rattle.fleet_replies.specs.declared.reply.NotTried.{NotTried}
use Rattle.fleet_replies.specs.declared.reply.Reply.{Reply}
use Rattle.fleet_replies.specs.declared.reply.Reply.TheVariants as reply

-- what a reply comes to by a change
abbrev pub IsTried : PlainGraph → Grouping → ℕ → TraceFacts → Change → TraceFacts → Type 0
IsTried graph grouping place facts change after = AreTriedFacts graph grouping place facts change (Ok after)

-- the first change that is not made, and why
pub record IsNotTried (graph : PlainGraph) (grouping : Grouping) (changes : List Change) (untried : NotTried) : Type 0 where
  pub here : option_map (made_of graph grouping) (slice_get changes untried.number) ≡ Some (Err untried.fault)
  pub before : All (λ (change : Change). IsOk (made_of graph grouping change)) (take untried.number changes)

-- what it comes to by each change, in their order; or the first that is not made
abbrev pub AreTried : PlainGraph → Grouping → ℕ → TraceFacts → List Change → Result (Vec TraceFacts Global) NotTried → Type 0
AreTried graph grouping place facts changes (Ok tried) = AllZip (IsTried graph grouping place facts) changes tried.items
AreTried graph grouping place facts changes (Err untried) = IsNotTried graph grouping changes untried

-- it came, to this, and by each change to that
pub record IsFound (graph : PlainGraph) (grouping : Grouping) (place : ℕ) (changes : List Change) (found : Found) : Type 0 where
  pub time : option_map (λ (done : Done). done.moment) (completion_of graph place) ≡ Some found.facts.time
  pub facts : AreFactsOf graph grouping place found.facts.time found.facts
  pub tried : AllZip (IsTried graph grouping place found.facts) changes found.tried.items

-- it is pending, or no stage stands there
abbrev pub IsMissing : PlainGraph → ℕ → Type 0
IsMissing graph place = (completion_of graph place ≡ None) ⊎ (stage_at graph.places place ≡ None)

-- it came, and a change is not made
pub record IsUntried (graph : PlainGraph) (grouping : Grouping) (place : ℕ) (changes : List Change) (untried : NotTried) : Type 0 where
  pub came : ¬ (completion_of graph place ≡ None)
  pub untried_is : IsNotTried graph grouping changes untried

-- what there is of the reply at a place
abbrev pub IsReplyAt : PlainGraph → Grouping → ℕ → List Change → Reply → Type 0
IsReplyAt graph grouping place changes (reply.Found found) = IsFound graph grouping place changes found
IsReplyAt graph grouping place changes reply.Missing = IsMissing graph place
IsReplyAt graph grouping place changes (reply.NotTried untried) = IsUntried graph grouping place changes untried
