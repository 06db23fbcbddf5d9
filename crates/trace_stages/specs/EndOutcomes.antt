-- How that ends what spans have at their ends.
use Rattle.std.specs.Prelude.{ℕ, [], Option}
use Rattle.trace_stages.specs.declared.outcomes.Outcome.{Outcome}
use Rattle.trace_stages.specs.declared.stage.Exception.{Exception}
use Rattle.trace_stages.specs.Known.{PlainKnown, had_at}
use Rattle.trace_stages.specs.Outcomes.{PlainSight, join_outcomes, outcome_of}

-- what is known of stages while the joins of spans are not
abbrev pub own_sight : PlainKnown → (ℕ → Option Exception) → PlainSight
own_sight known failures = record { known = known; failures = failures; joins = [] }

-- how that ends what a span has at its end
abbrev pub end_outcome : PlainKnown → (ℕ → Option Exception) → ℕ → Outcome
end_outcome known failures place =
    outcome_of (own_sight known failures) (join_outcomes (own_sight known failures) (had_at known.hads place).joins) (had_at known.hads place).has
