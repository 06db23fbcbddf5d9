-- The stage that completes last, of those on which none depends.
use Rattle.std.specs.Prelude.{ℕ, zero, suc, ◌<◌, ◌≡◌, ◌≢◌, true, false, nat_eq, nat_lt, if◌then◌else◌, length, Option, Some, None}
use Rattle.std.specs.Option.{option_and_then}
use Rattle.stage_graph.specs.Plain.{PlainGraph, dependents, stage_at}
use Rattle.version_store.specs.Queries.{moment_in, state_of}
use Rattle.tried_changes.specs.declared.last.Latest.{Latest}

-- when a stage that stands at the place completes, if none depends on it
abbrev pub final_of : PlainGraph → ℕ → Option ℕ
final_of graph place = if nat_eq (length (dependents graph.places place)) 0 then moment_in (state_of graph place) else None

-- the same, where one stands there
abbrev pub final_moment : PlainGraph → ℕ → Option ℕ
final_moment graph place = option_and_then (λ stage. final_of graph place) (stage_at graph.places place)

-- it completes, and all others that do complete before it
pub record IsLast (moment_of : ℕ → Option ℕ) (place : ℕ) : Type 0 where
  pub moment : ℕ
  pub completes : moment_of place ≡ Some moment
  pub others : (other earlier : ℕ) → other ≢ place → moment_of other ≡ Some earlier → earlier < moment

abbrev pub first_latest : ℕ → ℕ → Latest
first_latest place moment = record { place = place; moment = moment; is_alone = true }

-- the latest of a stage and one more
abbrev pub later_of : Latest → ℕ → ℕ → Latest
later_of latest place moment =
    if nat_lt latest.moment moment then first_latest place moment
    else (if nat_eq latest.moment moment then record latest { is_alone = false } else latest)

-- the latest, with one more that completes
abbrev pub latest_of : Option Latest → ℕ → ℕ → Latest
latest_of None place moment = first_latest place moment
latest_of (Some latest) place moment = later_of latest place moment

-- the latest, with one more
abbrev pub later : Option Latest → ℕ → Option ℕ → Option Latest
later latest place None = latest
later latest place (Some moment) = Some (latest_of latest place moment)

-- the latest of those below a place
abbrev pub latest_below : (ℕ → Option ℕ) → ℕ → Option Latest
latest_below moment_of zero = None
latest_below moment_of (suc n) = later (latest_below moment_of n) n (moment_of n)

-- where the latest stands, if no other one completes as late
abbrev pub single_of : Option Latest → Option ℕ
single_of None = None
single_of (Some latest) = if latest.is_alone then Some latest.place else None
