use Rattle.std.proofs.Common.{◌≡◌, ◌∙◌, true, not, Some, sym, ap}
use Rattle.std.proofs.lemmas.Option.{same_Some}
use Rattle.stage_ops.specs.States.{Completion, seen}
use Rattle.propagate.specs.Completions.{same_completion}
use Rattle.propagate.proofs.Comparing.{same_from_differ}
use Rattle.time_sweep.specs.Sooner.{sooner_completion}
use Rattle.time_sweep.proofs.sooner.ticks_sooner.Goals as goal

same_seen : (one other : Completion) → same_completion one other ≡ true → other ≡ one
same_seen one other same = sym (same_Some one other (same_from_differ (Some one) (Some other) (ap not same)))

pub returns-then-is_sooner : goal.returns-then-is_sooner
returns-then-is_sooner c =
    same_seen (sooner_completion c.saturating_sub-ticks.result (seen c.args.was.now)) (seen c.args.now.now) (sym c.is_sooner.ensures ∙ c.if-is_sooner.true)
