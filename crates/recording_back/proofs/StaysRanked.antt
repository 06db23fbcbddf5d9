-- A sound graph without a cycle has none without its empty places either: the ranks of its stages fall along each walk.
use Rattle.std.proofs.Common.{◌≡◌, ℕ, zero, suc, ◌+◌, ◌<◌, ◌≤◌, inl, inr, cond, nat_lt, List, [], ◌∷◌, length, map, Option, Some, None, option_map, refl, sym, ap, ◌∙◌, subst, arith, lt-ltb, le-ltb}
use Rattle.std.specs.Prelude.{Contains, max}
use Rattle.std.proofs.lemmas.Bool.{cases_lt}
use Rattle.std.proofs.lemmas.List.{map-append}
use Rattle.std.proofs.lemmas.List.Elements.{All-contains}
use Rattle.stage_graph.specs.declared.stage.Stage.{Stage}
use Rattle.stage_graph.specs.Plain.{PlainGraph, stage_at, feeds_of, feeds_of_place, feeds_at, IsLive}
use Rattle.stage_graph.specs.Sound.{IsSound}
use Rattle.stage_graph.specs.Walk.{Walk, IsRanked, AsksFeeds, step_at, above_all, rank_step, rank}
use Rattle.stage_graph.proofs.Following.{found_meets_each}
use Rattle.stage_graph.proofs.Placing.{place_from_live}
use Rattle.stage_graph.proofs.Ranked.{live_from_feed}
use Rattle.recording_back.specs.Accepted.{EachStaysRanked}
use Rattle.recording_back.specs.Packed.{moved, moved_stage, moved_among}

-- ---- a graph whose feeds have smaller ranks is ranked, whatever the ranks are

-- how many of the first places have a rank below the bound
abbrev lower : (ℕ → ℕ) → ℕ → ℕ → ℕ
lower ranks bound zero = 0
lower ranks bound (suc count) = cond (nat_lt (ranks count) bound) 1 0 + lower ranks bound count

one_more : (at low high : ℕ) → low ≤ high → cond (nat_lt at low) 1 0 ≤ cond (nat_lt at high) 1 0
one_more at low high less = elim (cases_lt at low) [
  | inl below ↦ rw (lt-ltb at low below, lt-ltb at high (omega arith)) (omega arith)
  | inr above ↦ rw (le-ltb at low above) (omega arith)
]

lower_more : (ranks : ℕ → ℕ) (low high : ℕ) → low ≤ high → (count : ℕ) → lower ranks low count ≤ lower ranks high count
lower_more ranks low high less zero = omega arith
lower_more ranks low high less (suc count) = omega (arith, one_more (ranks count) low high less, lower_more ranks low high less count)

-- a place with a rank between the bounds counts
lower_one : (ranks : ℕ → ℕ) (low high place : ℕ) → low ≤ ranks place → ranks place < high → (count : ℕ) → place < count → lower ranks low count + 1 ≤ lower ranks high count
lower_one ranks low high place above below zero within = absurd (omega arith)
lower_one ranks low high place above below (suc count) within = elim (cases_lt place count) [
  | inl earlier ↦ omega (arith, one_more (ranks count) low high (omega arith), lower_one ranks low high place above below count earlier)
  | inr last ↦
      let same : place ≡ count = omega arith in
      let first : low ≤ ranks count = subst (λ p. low ≤ ranks p) same above in
      let second : ranks count < high = subst (λ p. ranks p < high) same below in
      let others : lower ranks low count ≤ lower ranks high count = lower_more ranks low high (omega arith) count in
      rw (le-ltb (ranks count) low first, lt-ltb (ranks count) high second) (omega (arith, others))
]

lower_few : (ranks : ℕ → ℕ) (bound count : ℕ) → lower ranks bound count ≤ count
lower_few ranks bound zero = omega arith
lower_few ranks bound (suc count) = elim (cases_lt (ranks count) bound) [
  | inl below ↦ rw (lt-ltb (ranks count) bound below) (omega (arith, lower_few ranks bound count))
  | inr above ↦ rw (le-ltb (ranks count) bound above) (omega (arith, lower_few ranks bound count))
]

module _ (places : List (Option Stage)) (ranks : ℕ → ℕ) (falls : (place feed : ℕ) → Contains (feeds_at places place) feed → ranks feed < ranks place) where
  begins_within : (steps place : ℕ) → Walk places steps place → place < length places
  begins_within zero place walk = walk
  begins_within (suc steps) place (feed, here, rest) = place_from_live places place (live_from_feed (stage_at places place) feed here)

  -- each step leads to a place below, and no place comes twice
  steps_few : (steps place : ℕ) → Walk places steps place → steps ≤ lower ranks (ranks place) (length places)
  steps_few zero place walk = omega arith
  steps_few (suc steps) place (feed, here, rest) =
      let fewer : steps ≤ lower ranks (ranks feed) (length places) = steps_few steps feed rest in
      let one : lower ranks (ranks feed) (length places) + 1 ≤ lower ranks (ranks place) (length places)
      = lower_one ranks (ranks feed) (ranks place) feed (omega arith) (falls place feed here) (length places) (begins_within steps feed rest) in
      omega arith

  ranked_from_falls : IsRanked places
  ranked_from_falls place walk =
      let few : length places ≤ lower ranks (ranks place) (length places) = steps_few (length places) place walk in
      let one : lower ranks (ranks place) (length places) + 1 ≤ lower ranks (ranks place + 1) (length places)
      = lower_one ranks (ranks place) (ranks place + 1) place (omega arith) (omega arith) (length places) (begins_within (length places) place walk) in
      let all : lower ranks (ranks place + 1) (length places) ≤ length places = lower_few ranks (ranks place + 1) (length places) in
      omega arith

-- ---- in a ranked graph each feed has a smaller rank

contains_rest : (x : ℕ) (xs : List ℕ) (y : ℕ) → Contains xs y → Contains (x ∷ xs) y
contains_rest x xs y (k, within, at) = (suc k, omega arith, at)

same_above : (ranks others : ℕ → ℕ) (feeds : List ℕ) → ((feed : ℕ) → Contains feeds feed → ranks feed ≡ others feed) → above_all ranks feeds ≡ above_all others feeds
same_above ranks others [] same = refl
same_above ranks others (feed ∷ feeds) same =
    let here : ranks feed ≡ others feed = same feed (zero, omega arith, refl) in
    let rest : above_all ranks feeds ≡ above_all others feeds = same_above ranks others feeds (λ y c. same y (contains_rest feed feeds y c)) in
    cc

asks_feeds : AsksFeeds rank_step
asks_feeds stage ranks others same = same_above ranks others (feeds_of stage) same

below_above : (ranks : ℕ → ℕ) (feeds : List ℕ) (feed : ℕ) → Contains feeds feed → ranks feed < above_all ranks feeds
below_above ranks [] feed (k, within, at) = absurd (omega arith)
below_above ranks (first ∷ feeds) feed (zero, within, at) = let is : first ≡ feed = at in subst (λ x. ranks x < max (ranks first + 1) (above_all ranks feeds)) is (omega arith)
below_above ranks (first ∷ feeds) feed (suc k, within, at) = let rest : ranks feed < above_all ranks feeds = below_above ranks feeds feed (k, omega arith, at) in omega arith

feed_below : (ranks : ℕ → ℕ) (here : Option Stage) (feed : ℕ) → Contains (feeds_of_place here) feed → ranks feed < step_at 0 rank_step ranks here
feed_below ranks None feed h = absurd (omega arith)
feed_below ranks (Some stage) feed h = below_above ranks (feeds_of stage) feed h

rank_falls : (places : List (Option Stage)) → IsRanked places → (place feed : ℕ) → Contains (feeds_at places place) feed → rank places feed < rank places place
rank_falls places ranked place feed h =
    subst (λ r. rank places feed < r) (sym (found_meets_each 0 rank_step places asks_feeds ranked place)) (feed_below (rank places) (stage_at places place) feed h)

-- ---- where a stage stood before the stages moved up

abbrev stood : List (Option Stage) → ℕ → ℕ
stood [] place = 0
stood (None ∷ rest) place = suc (stood rest place)
stood (Some stage ∷ rest) zero = 0
stood (Some stage ∷ rest) (suc place) = suc (stood rest place)

stood_moved : (rest : List (Option Stage)) (place : ℕ) → IsLive rest place → stood rest (moved rest place) ≡ place
stood_moved [] place live = absurd cc
stood_moved (None ∷ rest) zero live = absurd cc
stood_moved (None ∷ rest) (suc place) live = ap suc (stood_moved rest place live)
stood_moved (Some stage ∷ rest) zero live = refl
stood_moved (Some stage ∷ rest) (suc place) live = ap suc (stood_moved rest place live)

stood_at : (places rest : List (Option Stage)) (place : ℕ) → stage_at (moved_among places rest) place ≡ option_map (moved_stage places) (stage_at rest (stood rest place))
stood_at places [] place = refl
stood_at places (None ∷ rest) place = stood_at places rest place
stood_at places (Some stage ∷ rest) zero = refl
stood_at places (Some stage ∷ rest) (suc place) = stood_at places rest place

contains_map : (f : ℕ → ℕ) (xs : List ℕ) (y : ℕ) → Contains (map f xs) y → (x : ℕ) × Contains xs x × (f x ≡ y)
contains_map f [] y (k, within, at) = absurd (omega arith)
contains_map f (x ∷ xs) y (zero, within, at) = (x, (zero, omega arith, refl), at)
contains_map f (x ∷ xs) y (suc k, within, at) =
    let (z, here, same) = contains_map f xs y (k, omega arith, at) in
    (z, contains_rest x xs z here, same)

-- a feed of a stage that moved was a feed of the stage
feed_stood : (places : List (Option Stage)) (here : Option Stage) (feed : ℕ) → Contains (feeds_of_place (option_map (moved_stage places) here)) feed
    → (old : ℕ) × Contains (feeds_of_place here) old × (moved places old ≡ feed)
feed_stood places None feed (k, within, at) = absurd (omega arith)
feed_stood places (Some stage) feed h =
    contains_map (moved places) (feeds_of stage) feed (subst (λ feeds. Contains feeds feed) (sym (map-append (moved places) stage.sources stage.inner)) h)

module _ (graph : PlainGraph) (sound : IsSound graph) (ranked : IsRanked graph.places) where
  live_feed : (place feed : ℕ) (here : Option Stage) → stage_at graph.places place ≡ here → Contains (feeds_of_place here) feed → IsLive graph.places feed
  live_feed place feed None is (k, within, at) = absurd (omega arith)
  live_feed place feed (Some stage) is h = All-contains (IsLive graph.places) (feeds_of stage) feed (sound.stages place stage is).live_feeds h

  abbrev old_rank : ℕ → ℕ
  old_rank place = rank graph.places (stood graph.places place)

  old_rank_falls : (place feed : ℕ) → Contains (feeds_at (moved_among graph.places graph.places) place) feed → old_rank feed < old_rank place
  old_rank_falls place feed h =
      let before = stood graph.places place in
      let (old, here, same) = feed_stood graph.places (stage_at graph.places before) feed (subst (λ at. Contains (feeds_of_place at) feed) (stood_at graph.places graph.places place) h) in
      let live : IsLive graph.places old = live_feed before old (stage_at graph.places before) refl here in
      let back : old ≡ stood graph.places feed = sym (stood_moved graph.places old live) ∙ ap (stood graph.places) same in
      subst (λ p. rank graph.places p < rank graph.places before) back (rank_falls graph.places ranked before old here)

pub stays_ranked : EachStaysRanked
stays_ranked graph sound ranked = ranked_from_falls (moved_among graph.places graph.places) (old_rank graph sound ranked) (old_rank_falls graph sound ranked)
