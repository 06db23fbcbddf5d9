-- In which stages two runs differ: in their own shares of the time, and in what they came to. Stages are matched by their names.
use Rattle.std.specs.Prelude.{ℕ, ◌≡◌, ◌+◌, ◌-◌, ◌^◌, Bool, true, false, not, ◌&&◌, ◌||◌, ◌==◌, if◌then◌else◌, List, [], ◌∷◌, ◌++◌, Option, None, Some, filter_map, max}
use Rattle.std.specs.Int.{abs_diff}
use Rattle.stage_graph.specs.declared.stage.Stage.{Stage}
use Rattle.stage_graph.specs.Plain.{PlainGraph, all_places, place_named, stage_at}
use Rattle.stage_ops.specs.declared.state.Done.{Done}
use Rattle.rank_order.specs.Lists.{is_among}
use Rattle.propagate.specs.Completions.{same_outcome}
use Rattle.scratch_eval.specs.Path.{path, reason_at}
use Rattle.version_store.specs.Queries.{state_of}
use Rattle.time_sweep.specs.ByKey.{by_key}
use Rattle.run_comparison.specs.declared.difference.Difference.{Difference}
use Rattle.run_comparison.specs.declared.difference.Stands.{Stands}
use Rattle.run_comparison.specs.declared.difference.Stands.TheVariants.{Both, OnlyBad, OnlyGood}
use Rattle.run_comparison.specs.declared.share.Share.{Share}

-- ---- a stage's own share of the time

-- how long its action was queued and ran since the cause of its state, as the line of its path tells it
abbrev pub share_of : PlainGraph → ℕ → Share
share_of graph place = record { queued = (reason_at graph place).queued; ran = (reason_at graph place).ran }

abbrev pub ticks_of : Share → ℕ
ticks_of share = share.queued + share.ran

abbrev pub same_share : Share → Share → Bool
same_share one other = one.queued == other.queued && one.ran == other.ran

-- ---- what it came to

-- of one outcome, or both pending
abbrev pub same_end : Option Done → Option Done → Bool
same_end None None = true
same_end (Some one) (Some other) = same_outcome one.outcome other.outcome
same_end None (Some other) = false
same_end (Some one) None = false

-- ---- a stage of both runs, which stands at these places

-- it differs in its share, or in what it came to
abbrev pub differs : PlainGraph → ℕ → PlainGraph → ℕ → Bool
differs good there bad here =
    not (same_share (share_of good there) (share_of bad here)) || not (same_end (state_of good there).done (state_of bad here).done)

-- the less, the more ticks its share differs by in all
abbrev pub order_of : Share → Share → ℕ
order_of good bad = 2 ^ 66 - abs_diff (ticks_of good) (ticks_of bad)

-- ---- what is told of a stage

-- by which it stands among others: a stage of one run alone comes after those of both, and one of the good run after those of the bad one
abbrev pub order_at : PlainGraph → PlainGraph → Stands → ℕ
order_at good bad (Both there here) = order_of (share_of good there) (share_of bad here)
order_at good bad (OnlyBad here) = 2 ^ 66 + 1
order_at good bad (OnlyGood there) = 2 ^ 66 + 2

abbrev pub difference : PlainGraph → PlainGraph → Stands → Difference
difference good bad stands = record { stands = stands; order = order_at good bad stands }

-- of one of both: where it is on a path, or differs
abbrev pub is_told : PlainGraph → ℕ → PlainGraph → ℕ → Bool → Bool
is_told good there bad here is_on_path = is_on_path || differs good there bad here

abbrev pub both_told : PlainGraph → ℕ → PlainGraph → ℕ → Bool → Option Difference
both_told good there bad here is_on_path = if is_told good there bad here is_on_path then Some (difference good bad (Both there here)) else None

-- of one of the bad run, by where the good one has the stage of its name
abbrev pub bad_told : PlainGraph → (ℕ → Bool) → PlainGraph → Bool → ℕ → Option ℕ → Option Difference
bad_told good on_good_path bad is_on_path here None = Some (difference good bad (OnlyBad here))
bad_told good on_good_path bad is_on_path here (Some there) = both_told good there bad here (is_on_path || on_good_path there)

abbrev pub bad_in : PlainGraph → (ℕ → Bool) → PlainGraph → Bool → ℕ → Option Stage → Option Difference
bad_in good on_good_path bad is_on_path here None = None
bad_in good on_good_path bad is_on_path here (Some stage) = bad_told good on_good_path bad is_on_path here (place_named good.places stage.name)

-- of one of the good run, by where the bad one has the stage of its name: where both have it, it is told of with those of the bad one
abbrev pub good_told : PlainGraph → PlainGraph → ℕ → Option ℕ → Option Difference
good_told good bad there None = Some (difference good bad (OnlyGood there))
good_told good bad there (Some here) = None

abbrev pub good_in : PlainGraph → PlainGraph → ℕ → Option Stage → Option Difference
good_in good bad there None = None
good_in good bad there (Some stage) = good_told good bad there (place_named bad.places stage.name)

-- ---- of the stages at the places of the runs, by which of them are on the paths of the stage that they are compared for

abbrev pub bad_at : PlainGraph → (ℕ → Bool) → PlainGraph → (ℕ → Bool) → ℕ → Option Difference
bad_at good on_good_path bad on_bad_path here = bad_in good on_good_path bad (on_bad_path here) here (stage_at bad.places here)

abbrev pub good_at : PlainGraph → PlainGraph → ℕ → Option Difference
good_at good bad there = good_in good bad there (stage_at good.places there)

-- those of the stages of the bad run
abbrev pub of_bad : PlainGraph → (ℕ → Bool) → PlainGraph → (ℕ → Bool) → List Difference
of_bad good on_good_path bad on_bad_path = filter_map (bad_at good on_good_path bad on_bad_path) (all_places bad.places)

-- those of the stages that only the good run has
abbrev pub of_good : PlainGraph → PlainGraph → List Difference
of_good good bad = filter_map (good_at good bad) (all_places good.places)

abbrev pub of_both : PlainGraph → (ℕ → Bool) → PlainGraph → (ℕ → Bool) → List Difference
of_both good on_good_path bad on_bad_path = of_bad good on_good_path bad on_bad_path ++ of_good good bad

-- ---- all of them

abbrev pub order_in : Difference → ℕ
order_in one = one.order

abbrev pub above_orders : List Difference → ℕ
above_orders [] = 0
above_orders (one ∷ others) = max (order_in one + 1) (above_orders others)

-- the place is one of these
abbrev pub is_on : List ℕ → ℕ → Bool
is_on places place = is_among place places

-- those that differ most first
abbrev pub in_turn : List Difference → List Difference
in_turn found = by_key order_in 0 (above_orders found) found

-- the stages in which two runs differ, or on which one of them has waited, by the places of the stage that they are compared for: those of both, of which those come first whose
-- shares differ by most ticks in all; then those of the bad run alone; then those of the good one alone; of several that are alike by place, in the bad run if that has them
abbrev pub differences : PlainGraph → ℕ → PlainGraph → ℕ → List Difference
differences good at_good bad at_bad = in_turn (of_both good (is_on (path good at_good)) bad (is_on (path bad at_bad)))

-- ---- what holds of each

-- it stands among others by its share
abbrev pub StandsByShare : PlainGraph → PlainGraph → Difference → Type 0
StandsByShare good bad one = one.order ≡ order_at good bad one.stands
