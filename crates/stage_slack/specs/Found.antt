-- What the trials of the stages give, one after another.
use Rattle.std.specs.Prelude.{ℕ, ◌≡◌, Option, None, Result, Ok, Err, IfOk}
use Rattle.stage_slack.specs.declared.slack.Slack.{Slack}
use Rattle.stage_slack.specs.Slacks.{kept}

-- the slack of a place, where memory sufficed
abbrev pub Gives : {E : Type 0} → (ℕ → Option Slack) → ℕ → Result (Option Slack) E → Type 0
Gives slack place answer = IfOk answer (λ found. found ≡ slack place)

-- the slack, unless memory ran out
abbrev pub slack_in : {E : Type 0} → Option ℕ → Result (Option Slack) E → Option Slack
slack_in within (Ok slack) = kept within slack
slack_in within (Err error) = None
