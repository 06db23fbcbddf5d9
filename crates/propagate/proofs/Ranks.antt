-- In a ranked graph each feed has a smaller rank.
use Rattle.std.proofs.Common.{◌≡◌, ℕ, zero, suc, ◌+◌, ◌<◌, ◌≤◌, true, List, [], ◌∷◌, length, refl, ap, sym, ◌∙◌, arith, subst, ⊎_elim}
use Rattle.std.specs.Prelude.{Contains, max, is_some, Option, Some, None}
use Rattle.std.proofs.lemmas.Bool.{false≢true, cases_lt}
use Rattle.std.proofs.lemmas.List.{get_or_past}
use Rattle.stage_graph.specs.declared.stage.Stage.{Stage}
use Rattle.stage_graph.specs.Plain.{stage_at, feeds_of, feeds_of_place, feeds_at, IsLive}
use Rattle.stage_graph.specs.Walk.{Walk, IsRanked, AsksFeeds, step_at, from_feeds, above_all, rank_step, rank}
use Rattle.stage_graph.proofs.Following.{found_meets_each}
use Rattle.propagate.specs.Reach.{Stages}

-- what follows the front of a list is in it
contains_rest : (x : ℕ) (xs : List ℕ) (y : ℕ) → Contains xs y → Contains (x ∷ xs) y
contains_rest x xs y (k, l, e) = (suc k, omega arith, e)

same_above : (f g : ℕ → ℕ) (xs : List ℕ) → ((x : ℕ) → Contains xs x → f x ≡ g x) → above_all f xs ≡ above_all g xs
same_above f g [] h = refl
same_above f g (x ∷ xs) h =
    let here : f x ≡ g x = h x (zero, omega arith, refl) in
    let rest : above_all f xs ≡ above_all g xs = same_above f g xs (λ y c. h y (contains_rest x xs y c)) in
    cc

asks_feeds : AsksFeeds rank_step
asks_feeds stage ranks others same = same_above ranks others (feeds_of stage) same

below_above : (f : ℕ → ℕ) (xs : List ℕ) (x : ℕ) → Contains xs x → f x < above_all f xs
below_above f [] x h = absurd (omega arith)
below_above f (y ∷ ys) x (zero, l, e) = let first : y ≡ x = e in subst (λ z. f z < max (f y + 1) (above_all f ys)) first (omega arith)
below_above f (y ∷ ys) x (suc k, l, e) = let rest : f x < above_all f ys = below_above f ys x (k, omega arith, e) in omega arith

feed_below : (ranks : ℕ → ℕ) (here : Option Stage) (feed : ℕ) → Contains (feeds_of_place here) feed → ranks feed < step_at 0 rank_step ranks here
feed_below ranks None feed h = absurd (omega arith)
feed_below ranks (Some stage) feed h = below_above ranks (feeds_of stage) feed h

pub rank_feed : (stages : Stages) → IsRanked stages → (s feed : ℕ) → Contains (feeds_at stages s) feed → rank stages feed < rank stages s
rank_feed stages ranked s feed h =
    subst (λ r. rank stages feed < r) (sym (found_meets_each 0 rank_step stages asks_feeds ranked s)) (feed_below (rank stages) (stage_at stages s) feed h)

above_le : (f : ℕ → ℕ) (xs : List ℕ) (bound : ℕ) → ((x : ℕ) → Contains xs x → f x < bound) → above_all f xs ≤ bound
above_le f [] bound h = omega arith
above_le f (x ∷ xs) bound h =
    let here : f x < bound = h x (zero, omega arith, refl) in
    let rest : above_all f xs ≤ bound = above_le f xs bound (λ y c. h y (contains_rest x xs y c)) in
    omega arith

step_le : (ranks : ℕ → ℕ) (here : Option Stage) (bound : ℕ) → ((feed : ℕ) → Contains (feeds_of_place here) feed → ranks feed < bound) → step_at 0 rank_step ranks here ≤ bound
step_le ranks None bound h = omega arith
step_le ranks (Some stage) bound h = above_le ranks (feeds_of stage) bound h

-- what stands at a place is within the graph
pub live_within : (stages : Stages) (s : ℕ) → is_some (stage_at stages s) ≡ true → s < length stages
live_within stages s h =
    ⊎_elim (λ l. l) (λ past. absurd (false≢true (sym (ap is_some (get_or_past stages s None past)) ∙ h))) (cases_lt s (length stages))

-- each feed of a stage is a stage
abbrev pub HasLiveFeeds : Stages → Type 0
HasLiveFeeds stages = (s feed : ℕ) → Contains (feeds_at stages s) feed → IsLive stages feed

rank_within : (stages : Stages) → HasLiveFeeds stages → (levels s : ℕ) → (Walk stages (suc levels) s → ⊥) → from_feeds 0 rank_step stages (suc levels) s ≤ levels
rank_within stages live zero s short =
    step_le (from_feeds 0 rank_step stages zero) (stage_at stages s) zero
    (λ feed h. absurd (short (feed, h, live_within stages feed (live s feed h))))
rank_within stages live (suc levels) s short =
    step_le (from_feeds 0 rank_step stages (suc levels)) (stage_at stages s) (suc levels)
    (λ feed h. let low : from_feeds 0 rank_step stages (suc levels) feed ≤ levels = rank_within stages live levels feed (λ walk. short (feed, h, walk)) in omega arith)

rank_below_levels : (stages : Stages) → HasLiveFeeds stages → (levels s : ℕ) → 0 < levels → (Walk stages levels s → ⊥) → from_feeds 0 rank_step stages levels s < levels
rank_below_levels stages live zero s some short = absurd (omega arith)
rank_below_levels stages live (suc levels) s some short = let low : from_feeds 0 rank_step stages (suc levels) s ≤ levels = rank_within stages live levels s short in omega arith

-- the rank of a stage is below the number of places
pub rank_below : (stages : Stages) → IsRanked stages → HasLiveFeeds stages → (s : ℕ) → is_some (stage_at stages s) ≡ true → rank stages s < length stages
rank_below stages ranked live s h =
    let within : s < length stages = live_within stages s h in
    rank_below_levels stages live (length stages) s (omega arith) (ranked s)

rank_le_levels : (stages : Stages) (levels s : ℕ) → from_feeds 0 rank_step stages levels s ≤ levels
rank_le_levels stages zero s = omega arith
rank_le_levels stages (suc levels) s =
    step_le (from_feeds 0 rank_step stages levels) (stage_at stages s) (suc levels)
    (λ feed h. let low : from_feeds 0 rank_step stages levels feed ≤ levels = rank_le_levels stages levels feed in omega arith)

-- no rank is above the number of places
pub rank_le : (stages : Stages) (s : ℕ) → rank stages s ≤ length stages
rank_le stages s = rank_le_levels stages (length stages) s
