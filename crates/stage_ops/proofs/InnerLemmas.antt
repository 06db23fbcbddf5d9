-- An inner stage that is waited for is one of the graph's places.
use Rattle.std.proofs.Common.{ℕ, ◌<◌, ◌++◌}
use Rattle.std.proofs.lemmas.List.Elements.{All-contains, Contains-append_right}
use Rattle.stage_graph.specs.declared.stage.Stage.{Stage}
use Rattle.stage_ops.specs.Among.{IsLimited}
use Rattle.stage_ops.specs.declared.natural.Progress.{Progress}
use Rattle.stage_ops.specs.declared.natural.Progress.TheVariants.{Waits, Completes, Awaits}
use Rattle.stage_ops.specs.SourceLaws.{contains_named}
use Rattle.stage_ops.specs.ProgressLaws.{IsFair}
use Rattle.stage_ops.specs.Waiting.{AwaitsWithin}

pub awaits_within : (count : ℕ) (stage : Stage) → IsLimited count stage → (last : ℕ) (progress : Progress) → IsFair stage last progress → AwaitsWithin count progress
awaits_within count stage limits last Waits fair = tt
awaits_within count stage limits last (Completes done) fair = tt
awaits_within count stage limits last (Awaits pick) fair =
    All-contains (λ feed. feed < count) (stage.sources ++ stage.inner) pick.place limits.feeds
    (Contains-append_right stage.sources stage.inner pick.place (contains_named stage.inner pick.index pick.place fair.0))
