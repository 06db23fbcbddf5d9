-- W. Own work: where a child starts later than what its host has then, the host has worked since.
use Rattle.std.specs.Prelude.{ℕ, ◌∷◌, [], ◌++◌, length, nat_lt, if◌then◌else◌}
use Rattle.trace_stages.specs.declared.walk.stage_id.StageId.TheVariants.{Work}
use Rattle.trace_stages.specs.Held.{PlainHolding}

-- after its work a span has that: from what it had until a tick
abbrev pub with_work : ℕ → PlainHolding → ℕ → PlainHolding
with_work span holding tick = record holding {
  has = Work span (length holding.works);
  reached = tick;
  begun = [];
  works = holding.works ++ record { after = holding.has; until = tick } ∷ [];
}

-- what a span has at a tick at which a child starts
abbrev pub worked : ℕ → PlainHolding → ℕ → PlainHolding
worked span holding tick = if nat_lt holding.reached tick then with_work span holding tick else holding
