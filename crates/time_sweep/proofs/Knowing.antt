-- The states and the ranks that a sweep starts from.
use Rattle.std.proofs.Common.{◌≡◌, ◌+◌, ◌<◌, ◌≤◌, ℕ, zero, suc, true, List, [], ◌∷◌, ◌++◌, Option, Some, None, Ok, Err, length, get_or, is_some, refl, ap, sym, ◌∙◌, arith, ⊎_elim}
use Rattle.std.specs.Prelude.{map}
use Rattle.std.specs.Option.{option_map}
use Rattle.std.specs.List.{range_with_len}
use Rattle.std.proofs.lemmas.Bool.{cases_lt, false≢true, ltb-true}
use Rattle.std.proofs.lemmas.List.{get_or_past}
use Rattle.std.proofs.lemmas.List.FromFn.{get_or-map-range_with_len, map-range_with_len_more}
use Rattle.stage_graph.specs.declared.fault.NoStage.{NoStage}
use Rattle.stage_graph.specs.declared.stage.Stage.{Stage}
use Rattle.stage_graph.specs.Plain.{PlainGraph, stage_at, IsLive}
use Rattle.stage_graph.specs.Sound.{IsSound}
use Rattle.stage_graph.specs.Walk.{IsRanked, rank}
use Rattle.stage_ops.specs.declared.state.State.{State}
use Rattle.stage_ops.specs.States.{pending}
use Rattle.stage_ops.specs.Evaluation.{at, ReadsDecide}
use Rattle.propagate.specs.Reach.{Stages, Step, AreStates, come_to}
use Rattle.propagate.proofs.Ranks.{live_within}
use Rattle.propagate.proofs.Scratch.{scratch_meets}
use Rattle.propagate.proofs.Turns.{live_feeds}
use Rattle.version_store.specs.Queries.{of_stage}
use Rattle.time_sweep.specs.Known.{AreRanksFor, IsKnown, is_below, rank_in}

-- what is told of a stage
pub told_is : {A : Type 0} (here : Option Stage) (answer told : A) → of_stage here answer ≡ Ok told → told ≡ answer
told_is None answer told is = cc
told_is (Some stage) answer told is = cc

pub told_none : {A : Type 0} (here : Option Stage) (answer : A) (fault : NoStage) → of_stage here answer ≡ Err fault → here ≡ None
told_none None answer fault is = refl
told_none (Some stage) answer fault is = cc

pub told_some : {A : Type 0} (here : Option Stage) (answer told : A) → of_stage here answer ≡ Ok told → Some told ≡ option_map (λ _. answer) here
told_some None answer told is = cc
told_some (Some stage) answer told is = cc

-- nothing is computed at an empty place
pub none_pending : {step : Step} → ReadsDecide step → (stages : Stages) → IsRanked stages → (place : ℕ) → stage_at stages place ≡ None → pending ≡ at step stages place
none_pending {step} law stages ranked place none = sym (scratch_meets law stages ranked place ∙ ap (λ here. come_to step here (at step stages)) none)

-- one more item of a list by place
pub by_place_more : {A : Type 0} (f : ℕ → A) (count : ℕ) (items more : List A) (item : A) → items ≡ map f (range_with_len 0 count) → more ≡ items ++ item ∷ [] → item ≡ f count
    → more ≡ map f (range_with_len 0 (count + 1))
by_place_more f count items more item so_far grown is =
    grown ∙ ap (λ items. items ++ item ∷ []) so_far ∙ ap (λ item. map f (range_with_len 0 count) ++ item ∷ []) is
    ∙ sym (map-range_with_len_more f 0 count count (omega arith))

pub by_place_at : {A : Type 0} (f : ℕ → A) (count : ℕ) (items : List A) → items ≡ map f (range_with_len 0 count) → (place : ℕ) (d : A) → place < count → get_or items place d ≡ f place
by_place_at f count items are place d within = ap (λ items. get_or items place d) are ∙ get_or-map-range_with_len f 0 count place place d within (omega arith)

range_length : (from count : ℕ) → length (range_with_len from count) ≡ count
range_length from zero = refl
range_length from (suc count) = ap suc (range_length (from + 1) count)

map_length : {A : Type 0} (f : ℕ → A) (xs : List ℕ) → length (map f xs) ≡ length xs
map_length f [] = refl
map_length f (x ∷ xs) = ap suc (map_length f xs)

pub by_place_long : {A : Type 0} (f : ℕ → A) (count : ℕ) (items : List A) → items ≡ map f (range_with_len 0 count) → length items ≡ count
by_place_long f count items are = ap length are ∙ map_length f (range_with_len 0 count) ∙ range_length 0 count

pub all_states : {step : Step} → ReadsDecide step → (stages : Stages) → IsRanked stages → (states : List State) → states ≡ map (at step stages) (range_with_len 0 (length stages)) → AreStates step stages states
all_states {step} law stages ranked states are = record {
  count = by_place_long (at step stages) (length stages) states are;
  each = λ place.
      ⊎_elim
      (λ within. by_place_at (at step stages) (length stages) states are place pending within)
      (λ past.
      let long : length states ≡ length stages = by_place_long (at step stages) (length stages) states are in
      let beyond : length states ≤ place = omega (arith, past, long) in
      get_or_past states place pending beyond ∙ none_pending law stages ranked place (get_or_past stages place None past))
      (cases_lt place (length stages));
}

-- the rank of a place with a stage
abbrev pub live_rank : Stages → ℕ → Option ℕ
live_rank stages place = option_map (λ _. rank stages place) (stage_at stages place)

is_live : {A : Type 0} (here : Option Stage) (a : A) → is_some (option_map (λ _. a) here) ≡ is_some here
is_live None a = refl
is_live (Some stage) a = refl

its_rank : (here : Option Stage) (a known : ℕ) → option_map (λ _. a) here ≡ Some known → known ≡ a
its_rank None a known is = cc
its_rank (Some stage) a known is = cc

module _ (graph : PlainGraph) (sound : IsSound graph) (ranks : List (Option ℕ)) (are : ranks ≡ map (live_rank graph.places) (range_with_len 0 (length graph.places))) where
  long : length ranks ≡ length graph.places
  long = by_place_long (live_rank graph.places) (length graph.places) ranks are

  here : (place : ℕ) → place < length graph.places → rank_in ranks place ≡ live_rank graph.places place
  here place within = by_place_at (live_rank graph.places) (length graph.places) ranks are place None within

  known_live : (place : ℕ) → IsLive graph.places place → IsKnown ranks place
  known_live place live = ap is_some (here place (live_within graph.places place live)) ∙ is_live (stage_at graph.places place) (rank graph.places place) ∙ live

  pub all_ranks : (target : ℕ) → IsLive graph.places target → AreRanksFor graph.places target ranks
  all_ranks target live = record {
    count = long;
    own = known_live target live;
    live = λ place known.
        ⊎_elim
        (λ within. sym (is_live (stage_at graph.places place) (rank graph.places place)) ∙ sym (ap is_some (here place within)) ∙ known)
        (λ past.
        let beyond : length ranks ≤ place = omega (arith, past, long) in
        absurd (false≢true (sym (ap is_some (get_or_past ranks place None beyond)) ∙ known)))
        (cases_lt place (length graph.places));
    rank = λ place known is.
        ⊎_elim
        (λ within. its_rank (stage_at graph.places place) (rank graph.places place) known (sym (here place within) ∙ is))
        (λ past.
        let beyond : length ranks ≤ place = omega (arith, past, long) in
        absurd (nothing (sym (get_or_past ranks place None beyond) ∙ is)))
        (cases_lt place (length graph.places));
    feeds = λ place feed known c. known_live feed (live_feeds graph sound place feed c);
  } where
    nothing : {known : ℕ} → None ≡ Some known → ⊥
    nothing e = cc

-- ---- the ranks that a sweep knows

module _ (stages : Stages) (target : ℕ) (ranks : List (Option ℕ)) (are : AreRanksFor stages target ranks) where
  pub rank_known : (place : ℕ) → is_some (rank_in ranks place) ≡ true → rank_in ranks place ≡ Some (rank stages place)
  rank_known place known = of (rank_in ranks place) refl known where
    of : (here : Option ℕ) → rank_in ranks place ≡ here → is_some here ≡ true → rank_in ranks place ≡ Some (rank stages place)
    of None is some = absurd (false≢true some)
    of (Some k) is some = is ∙ ap (λ (k : ℕ). Some k) (are.rank place k is)

  pub ranks_below : (one other : ℕ) → is_some (rank_in ranks one) ≡ true → is_some (rank_in ranks other) ≡ true → is_below (rank_in ranks one) (rank_in ranks other) ≡ true → rank stages one < rank stages other
  ranks_below one other known also below =
      ltb-true (rank stages one) (rank stages other)
      (sym (ap (λ (here : Option ℕ). is_below here (rank_in ranks other)) (rank_known one known) ∙ ap (λ (there : Option ℕ). is_below (Some (rank stages one)) there) (rank_known other also)) ∙ below)
