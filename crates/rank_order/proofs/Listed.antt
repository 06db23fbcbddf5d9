-- What the lists of an order contain at a place.
use Rattle.std.proofs.Common.{◌≡◌, ℕ, zero, suc, ◌<◌, ◌≤◌, true, List, [], ◌∷◌, length, map, Option, Some, None, get_or, refl, ap, sym, ◌∙◌, inl, inr, arith}
use Rattle.std.specs.Prelude.{Contains}
use Rattle.std.proofs.lemmas.Bool.{cases_lt}
use Rattle.std.proofs.lemmas.List.{get_or_past}
use Rattle.std.proofs.lemmas.List.FromFn.{length-map-range_with_len, get_or-map-range_with_len, fill_by_all}
use Rattle.stage_graph.specs.declared.stage.Stage.{Stage}
use Rattle.std.proofs.lemmas.List.Elements.{All-contains}
use Rattle.stage_graph.specs.Sound.{IsSound}
use Rattle.stage_graph.specs.Plain.{PlainGraph, stage_at, feeds_of, feeds_of_place, feeds_at, IsLive, uses, all_places, dependents}
use Rattle.stage_graph.specs.Walk.{from_feeds, step_at, above_all, rank_step, rank, IsRanked, AsksFeeds}
use Rattle.stage_graph.proofs.Following.{found_meets_each, found_alone}
use Rattle.rank_order.specs.Lists.{is_among, IsAscending}
use Rattle.rank_order.specs.Orders.{PlainOrder, IsOrder}
use Rattle.rank_order.proofs.Members.{same_tests, among_filter, filter_among, range_among, ascends_filter, range_ascends, among_contains, same_members}
use Rattle.stage_graph.proofs.Ranked.{live_from_feed}
use Rattle.stage_graph.proofs.Placing.{place_from_live}

-- ---- ranks

-- the greatest of the ranks depends on no place but these
pub same_above : (ranks others : ℕ → ℕ) (feeds : List ℕ) → ((feed : ℕ) → Contains feeds feed → ranks feed ≡ others feed) → above_all ranks feeds ≡ above_all others feeds
same_above ranks others [] same = refl
same_above ranks others (feed ∷ feeds) same =
    let here : ranks feed ≡ others feed = same feed (zero, omega arith, refl) in
    let rest : above_all ranks feeds ≡ above_all others feeds = same_above ranks others feeds (λ other (k, within, at). same other (suc k, omega arith, at)) in
    cc

pub rank_asks_feeds : AsksFeeds rank_step
rank_asks_feeds stage ranks others same = same_above ranks others (feeds_of stage) same

-- the step at a place, live or not
pub step_is_above : (ranks : ℕ → ℕ) (here : Option Stage) → step_at 0 rank_step ranks here ≡ above_all ranks (feeds_of_place here)
step_is_above ranks None = refl
step_is_above ranks (Some stage) = refl

pub above_le : (ranks : ℕ → ℕ) (feeds : List ℕ) (bound : ℕ) → ((feed : ℕ) → Contains feeds feed → ranks feed < bound) → above_all ranks feeds ≤ bound
above_le ranks [] bound low = omega arith
above_le ranks (feed ∷ feeds) bound low =
    let here : ranks feed < bound = low feed (zero, omega arith, refl) in
    let rest : above_all ranks feeds ≤ bound = above_le ranks feeds bound (λ other (k, within, at). low other (suc k, omega arith, at)) in
    omega arith

module _ (places : List (Option Stage)) where
  rank_le_levels : (levels place : ℕ) → from_feeds 0 rank_step places levels place ≤ levels
  rank_le_levels zero place = omega arith
  rank_le_levels (suc levels) place =
      let low : above_all (from_feeds 0 rank_step places levels) (feeds_at places place) ≤ suc levels =
      above_le (from_feeds 0 rank_step places levels) (feeds_at places place) (suc levels) (λ feed here. let below = rank_le_levels levels feed in omega arith) in
      omega (arith, step_is_above (from_feeds 0 rank_step places levels) (stage_at places place))

  -- a rank is at most the number of places
  pub rank_le : (place : ℕ) → rank places place ≤ length places
  rank_le place = rank_le_levels (length places) place

  empty_rank_at : (levels place : ℕ) → stage_at places place ≡ None → from_feeds 0 rank_step places levels place ≡ 0
  empty_rank_at zero place empty = refl
  empty_rank_at (suc levels) place empty = ap (step_at 0 rank_step (from_feeds 0 rank_step places levels)) empty

  pub empty_rank : (place : ℕ) → stage_at places place ≡ None → rank places place ≡ 0
  empty_rank place empty = empty_rank_at (length places) place empty

  -- the entry of the list of ranks at any place
  pub rank_listed : (place : ℕ) → get_or (map (rank places) (all_places places)) place 0 ≡ rank places place
  rank_listed place = elim (cases_lt place (length places)) [
    | inl within ↦ get_or-map-range_with_len (rank places) 0 (length places) place place 0 within (omega arith)
    | inr past ↦
        let long : length (map (rank places) (all_places places)) ≡ length places = length-map-range_with_len (rank places) 0 (length places) in
        get_or_past (map (rank places) (all_places places)) place 0 (omega arith) ∙ sym (empty_rank place (get_or_past places place None past))
  ]

  pub ranks_listed : (ranks : List ℕ) → length ranks ≡ length places → ((place : ℕ) → get_or ranks place 0 ≡ rank places place) → ranks ≡ map (rank places) (all_places places)
  ranks_listed ranks long each = fill_by_all (rank places) ranks (length places) 0 long (λ place within. each place)

  pub rank_is_above : IsRanked places → (place : ℕ) → rank places place ≡ above_all (rank places) (feeds_at places place)
  rank_is_above ranked place = found_meets_each 0 rank_step places rank_asks_feeds ranked place ∙ step_is_above (rank places) (stage_at places place)

  -- ranks that meet each place's equation are the graph's
  pub ranks_alone : IsRanked places → (ranks : ℕ → ℕ) → ((place : ℕ) → ranks place ≡ above_all ranks (feeds_at places place)) → (place : ℕ) → ranks place ≡ rank places place
  ranks_alone ranked ranks meets place =
      found_alone 0 rank_step places rank_asks_feeds ranked ranks (λ other. meets other ∙ sym (step_is_above ranks (stage_at places other))) place

-- ---- dependents

pub uses_among : (place : ℕ) (here : Option Stage) → uses place here ≡ is_among place (feeds_of_place here)
uses_among place None = refl
uses_among place (Some stage) = refl

module _ (places : List (Option Stage)) where
  pub dependent_within : (dependent place : ℕ) → is_among place (feeds_at places dependent) ≡ true → dependent < length places
  dependent_within dependent place among = place_from_live places dependent (live_from_feed (stage_at places dependent) place (among_contains place (feeds_at places dependent) among))

  -- the dependents of a place have it among their feeds
  pub among_dependents : (place dependent : ℕ) → is_among dependent (dependents places place) ≡ is_among place (feeds_at places dependent)
  among_dependents place dependent = same_tests (is_among dependent (dependents places place)) (is_among place (feeds_at places dependent))
      (λ among. sym (uses_among place (stage_at places dependent)) ∙ (among_filter (λ other. uses place (stage_at places other)) dependent (all_places places) among).1)
      (λ among. filter_among (λ other. uses place (stage_at places other)) dependent (all_places places)
      (range_among dependent 0 (length places) (omega arith) (let within = dependent_within dependent place among in omega arith))
      (uses_among place (stage_at places dependent) ∙ among))

  pub dependents_ascend : (place : ℕ) → IsAscending (dependents places place)
  dependents_ascend place = ascends_filter (λ x y. x < y) (λ dependent. uses place (stage_at places dependent)) (all_places places) (range_ascends 0 (length places))

  -- a list in order of the places that have it among their feeds
  pub dependents_are : (place : ℕ) (its_dependents : List ℕ) → IsAscending its_dependents → ((dependent : ℕ) → is_among dependent its_dependents ≡ is_among place (feeds_at places dependent)) → its_dependents ≡ dependents places place
  dependents_are place its_dependents ascending each =
      same_members its_dependents (dependents places place) ascending (dependents_ascend place) (λ dependent. each dependent ∙ sym (among_dependents place dependent))

  pub dependents_listed : (place : ℕ) → place < length places → get_or (map (dependents places) (all_places places)) place [] ≡ dependents places place
  dependents_listed place within = get_or-map-range_with_len (dependents places) 0 (length places) place place [] within (omega arith)

-- ---- orders

module _ (order : PlainOrder) (is : IsOrder order) where
  pub order_long : length order.ranks ≡ length order.graph.places
  order_long = ap (λ (whole : PlainOrder). length whole.ranks) is.whole ∙ length-map-range_with_len (rank order.graph.places) 0 (length order.graph.places)

  pub order_rank : (place : ℕ) → get_or order.ranks place 0 ≡ rank order.graph.places place
  order_rank place = ap (λ (whole : PlainOrder). get_or whole.ranks place 0) is.whole ∙ rank_listed order.graph.places place

  pub order_dependents : (place : ℕ) → IsLive order.graph.places place → get_or order.dependents place [] ≡ dependents order.graph.places place
  order_dependents place live =
      ap (λ (whole : PlainOrder). get_or whole.dependents place []) is.whole ∙ dependents_listed order.graph.places place (place_from_live order.graph.places place live)

-- ---- sound graphs

module _ (graph : PlainGraph) (sound : IsSound graph) where
  pub feed_within : (dependent feed : ℕ) → Contains (feeds_at graph.places dependent) feed → feed < length graph.places
  feed_within dependent feed has = by_stage (stage_at graph.places dependent) refl has where
    by_stage : (here : Option Stage) → stage_at graph.places dependent ≡ here → Contains (feeds_of_place here) feed → feed < length graph.places
    by_stage None empty (k, within, at) = absurd (omega arith)
    by_stage (Some stage) live has_feed = place_from_live graph.places feed (All-contains (IsLive graph.places) (feeds_of stage) feed (sound.stages dependent stage live).live_feeds has_feed)

  pub among_within : (feed dependent : ℕ) → is_among feed (feeds_at graph.places dependent) ≡ true → feed < length graph.places
  among_within feed dependent among = feed_within dependent feed (among_contains feed (feeds_at graph.places dependent) among)
