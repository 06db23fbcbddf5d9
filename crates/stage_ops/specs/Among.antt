-- One stage of a sound graph, as far as its own evaluation depends on it.
use Rattle.std.specs.Prelude.{ℕ, ◌<◌, ◌≤◌, ◌^◌, length, All}
use Rattle.std.specs.Option.{ForSome}
use Rattle.stage_graph.specs.declared.end.End.{End}
use Rattle.stage_graph.specs.declared.stage.Stage.{Stage}
use Rattle.stage_graph.specs.Checks.{delay_of}
use Rattle.stage_graph.specs.Plain.{feeds_of}
use Rattle.stage_graph.specs.Sound.{IsLawful}

-- a stage that keeps every rule, and whose feeds are among this many places
pub record IsSoundAmong (count : ℕ) (stage : Stage) : Type 0 where
  pub lawful : IsLawful stage
  pub feeds : All (λ feed. feed < count) (feeds_of stage)

-- an end whose numbers are no later than the last tick
pub record IsEarlyEnd (end : End) : Type 0 where
  pub at : end.at ≤ 2 ^ 40
  pub delay : delay_of end.act ≤ 2 ^ 40

-- the limits of such a stage, as inequalities
pub record IsLimited (count : ℕ) (stage : Stage) : Type 0 where
  pub few_inner : length stage.inner ≤ 1024
  pub feeds : All (λ feed. feed < count) (feeds_of stage)
  pub created : stage.created ≤ 2 ^ 40
  pub queued : stage.queued ≤ 2 ^ 40
  pub runs : stage.runs ≤ 2 ^ 40
  pub pinned : ForSome stage.pin_moment (λ moment. moment ≤ 2 ^ 40)
  pub ends : All IsEarlyEnd stage.ends
