-- Which stages a stage can wait for: itself, its feeds, their feeds, and so on.
use Rattle.std.specs.Prelude.{ℕ, zero, suc, ◌≡◌, ◌⊎◌, Bool, true, ◌==◌, ◌||◌, List, length, Option, filter}
use Rattle.std.specs.List.{list_any}
use Rattle.stage_graph.specs.Plain.{feeds_at, all_places}
use Rattle.rank_order.specs.Lists.{is_among}
use Rattle.propagate.specs.Reach.{Stages}
use Rattle.time_sweep.specs.Known.{IsKnown}

-- by at most this many steps from a stage to one of its feeds
abbrev pub waits_within : Stages → ℕ → ℕ → ℕ → Bool
waits_within stages zero target place = target == place
waits_within stages (suc steps) target place = target == place || list_any (λ feed. waits_within stages steps feed place) (feeds_at stages target)

-- no more steps lead further than there are places
abbrev pub can_wait_for : Stages → ℕ → ℕ → Bool
can_wait_for stages target place = waits_within stages (length stages) target place

-- their places, in order
abbrev pub waited_for : Stages → ℕ → List ℕ
waited_for stages target = filter (can_wait_for stages target) (all_places stages)

-- by any number of steps
abbrev pub CanWaitFor : Stages → ℕ → ℕ → Type 0
CanWaitFor stages target place = (steps : ℕ) × (waits_within stages steps target place ≡ true)

-- Of what is found since, and of what waits since, there are only some places.
pub record IsOnly (ranks : List (Option ℕ)) (waiting : List ℕ) (ranks_then : List (Option ℕ)) (waiting_then : List ℕ) (places : List ℕ) : Type 0 where
  pub known : (place : ℕ) → IsKnown ranks_then place → IsKnown ranks place ⊎ (is_among place places ≡ true)
  pub waits : (place : ℕ) → is_among place waiting_then ≡ true → (is_among place waiting ≡ true) ⊎ (is_among place places ≡ true)

-- what is found, and what waits, are places that the target can wait for
pub record AreWaitedFor (stages : Stages) (target : ℕ) (ranks : List (Option ℕ)) (waiting : List ℕ) : Type 0 where
  pub known : (place : ℕ) → IsKnown ranks place → CanWaitFor stages target place
  pub waits : (place : ℕ) → is_among place waiting ≡ true → CanWaitFor stages target place
