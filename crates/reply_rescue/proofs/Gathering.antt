-- The rescues of all places together.
use Rattle.std.proofs.Common.{◌≡◌, ◌+◌, ◌<◌, ◌≤◌, ◌++◌, ℕ, zero, suc, Bool, true, false, List, [], ◌∷◌, Option, Some, None, Result, Ok, Err, length, get_or, take, refl, ap, sym, ◌∙◌, arith, append-nil, append_assoc, length-append}
use Rattle.std.specs.Prelude.{All, IsOk, filter_map, nat_le, nat_lt, not, ◌&&◌}
use Rattle.std.specs.Option.{option_to_list}
use Rattle.std.specs.List.{AllZip, cons_option, flat_map, list_all, range_with_len, sum_by}
use Rattle.std.proofs.Math.Nat.{le-max_left, le-max_right}
use Rattle.std.proofs.lemmas.Bool.{and_parts, leb-true}
use Rattle.std.proofs.lemmas.Grind.{flat_map-append}
use Rattle.std.proofs.lemmas.List.{length-map, map-id, take_more}
use Rattle.std.proofs.lemmas.List.Elements.{All-cons, All-head, All-nil, All-tail, filter_map-append}
use Rattle.std.proofs.lemmas.List.FromFn.{length-range_with_len, map-range_with_len_more}
use Rattle.std.proofs.lemmas.List.Sums.{count_by-le-length, length-filter, sum_by-append, sum_by-cons}
use Rattle.act_expr.specs.declared.outcome.Value.{Value}
use Rattle.act_expr.specs.declared.outcome.Value.TheVariants.{Null}
use Rattle.stage_graph.specs.declared.stage.Stage.{Stage}
use Rattle.stage_graph.specs.Checks.{is_end}
use Rattle.stage_graph.specs.Plain.{PlainGraph, all_places, stage_at}
use Rattle.stage_graph.specs.Sound.{IsSound}
use Rattle.time_sweep.specs.Waits.{can_wait_for, waited_for}
use Rattle.reply_rescue.specs.declared.change.Change.{Change}
use Rattle.reply_rescue.specs.declared.change.Change.TheVariants.{NoTime, NotQueued, WithoutEnd, TwiceTheDelay}
use Rattle.reply_rescue.specs.declared.rescue.Rescue.{Rescue}
use Rattle.reply_rescue.specs.declared.rescue.Rescues.{Rescues}
use Rattle.reply_rescue.specs.Changes.{at_ends, changes_of, end_changes, failure_change, longer_at, only_if, takes_away, without_at}
use Rattle.reply_rescue.specs.Ends.{can_double, delay_at, is_timeout_at}
use Rattle.reply_rescue.specs.Found.{count_in, saved_in, Gives}
use Rattle.reply_rescue.specs.Rescues.{above_moments, rescue_moment, trial_at, trials_at, trials_of, Trial}

-- ---- where memory sufficed, what was found at the places is what their trials give

module _ {E : Type 0} (trials : ℕ → List Trial) (saves : Trial → Option Rescue) where
  pub all_counted : (places : List ℕ) (tried : List (Result Rescues E)) → AllZip (Gives trials saves) places tried → All (λ one. IsOk one) tried → sum_by count_in tried ≡ length (flat_map trials places)
  all_counted [] [] zip all = refl
  all_counted [] (one ∷ rest) zip all = absurd zip
  all_counted (place ∷ places) [] zip all = absurd zip
  all_counted (place ∷ places) (Ok found ∷ rest) zip all =
      sum_by-cons count_in (Ok found) rest
      ∙ ap (λ (count : ℕ). count + sum_by count_in rest) zip.0.tried
      ∙ ap (λ (count : ℕ). length (trials place) + count) (all_counted places rest zip.1 (All-tail (λ one. IsOk one) (Ok found) rest all))
      ∙ sym (length-append (trials place) (flat_map trials places))
  all_counted (place ∷ places) (Err error ∷ rest) zip all = let ok = All-head (λ one. IsOk one) (Err error) rest all in cc

  pub all_saved : (places : List ℕ) (tried : List (Result Rescues E)) → AllZip (Gives trials saves) places tried → All (λ one. IsOk one) tried → flat_map saved_in tried ≡ filter_map saves (flat_map trials places)
  all_saved [] [] zip all = refl
  all_saved [] (one ∷ rest) zip all = absurd zip
  all_saved (place ∷ places) [] zip all = absurd zip
  all_saved (place ∷ places) (Ok found ∷ rest) zip all =
      ap (λ (first : List Rescue). first ++ flat_map saved_in rest) zip.0.saved
      ∙ ap (λ (later : List Rescue). filter_map saves (trials place) ++ later) (all_saved places rest zip.1 (All-tail (λ one. IsOk one) (Ok found) rest all))
      ∙ sym (filter_map-append saves (trials place) (flat_map trials places))
  all_saved (place ∷ places) (Err error ∷ rest) zip all = let ok = All-head (λ one. IsOk one) (Err error) rest all in cc

  pub as_many : (places : List ℕ) (tried : List (Result Rescues E)) → AllZip (Gives trials saves) places tried → length tried ≡ length places
  as_many [] [] zip = refl
  as_many [] (one ∷ rest) zip = absurd zip
  as_many (place ∷ places) [] zip = absurd zip
  as_many (place ∷ places) (one ∷ rest) zip = ap (λ (count : ℕ). suc count) (as_many places rest zip.1)

  -- each place has no more trials than this
  pub each_count : (most : ℕ) → ((place : ℕ) → length (trials place) ≤ most) → (places : List ℕ) (tried : List (Result Rescues E)) → AllZip (Gives trials saves) places tried → All (λ one. count_in one ≤ most) tried
  each_count most few [] [] zip = All-nil (λ one. count_in one ≤ most)
  each_count most few [] (one ∷ rest) zip = absurd zip
  each_count most few (place ∷ places) [] zip = absurd zip
  each_count most few (place ∷ places) (Ok found ∷ rest) zip =
      let short = few place in
      All-cons (λ one. count_in one ≤ most) (Ok found) rest (omega (arith, short, zip.0.tried)) (each_count most few places rest zip.1)
  each_count most few (place ∷ places) (Err error ∷ rest) zip =
      All-cons (λ one. count_in one ≤ most) (Err error) rest (omega arith) (each_count most few places rest zip.1)

-- one place more
module _ {E : Type 0} (tried : List (Result Rescues E)) (k : ℕ) (one : Result Rescues E) (within : k < length tried) (is : one ≡ get_or tried k one) where
  only_count : (one : Result Rescues E) → sum_by count_in (one ∷ []) ≡ count_in one
  only_count one = let all = sum_by-cons count_in one [] in omega (arith, all)

  pub counted_more : sum_by count_in (take (k + 1) tried) ≡ sum_by count_in (take k tried) + count_in one
  counted_more =
      ap (sum_by count_in) (take_more tried k one within)
      ∙ sum_by-append count_in (take k tried) (get_or tried k one ∷ [])
      ∙ ap (λ (count : ℕ). sum_by count_in (take k tried) + count) (only_count (get_or tried k one))
      ∙ ap (λ (one : Result Rescues E). sum_by count_in (take k tried) + count_in one) (sym is)

  pub saved_more : flat_map saved_in (take (k + 1) tried) ≡ flat_map saved_in (take k tried) ++ saved_in one
  saved_more =
      ap (flat_map saved_in) (take_more tried k one within)
      ∙ flat_map-append saved_in (take k tried) (get_or tried k one ∷ [])
      ∙ ap (λ (one : Result Rescues E). flat_map saved_in (take k tried) ++ (saved_in one ++ [])) (sym is)
      ∙ ap (λ (last : List Rescue). flat_map saved_in (take k tried) ++ last) (append-nil (saved_in one))

-- one thing more that a list gives
pub given_more : {X Y : Type 0} (given : X → Option Y) (items : List X) (k : ℕ) (none : X) → k < length items
    → filter_map given (take (k + 1) items) ≡ filter_map given (take k items) ++ cons_option (given (get_or items k none)) []
given_more given items k none within = ap (filter_map given) (take_more items k none within) ∙ filter_map-append given (take k items) (get_or items k none ∷ [])

-- ---- those of one index more

range_more : (count : ℕ) → range_with_len 0 (count + 1) ≡ range_with_len 0 count ++ count ∷ []
range_more count =
    sym (map-id (range_with_len 0 (count + 1)))
    ∙ map-range_with_len_more (λ index. index) 0 count count (omega arith)
    ∙ ap (λ indexes. indexes ++ count ∷ []) (map-id (range_with_len 0 count))

pub index_more : (changes : ℕ → List Change) (before so_far made : List Change) (index : ℕ) → so_far ≡ before ++ flat_map changes (range_with_len 0 index) → made ≡ so_far ++ changes index
    → made ≡ before ++ flat_map changes (range_with_len 0 (index + 1))
index_more changes before so_far made index was is =
    is ∙ ap (λ (front : List Change). front ++ changes index) was
    ∙ append_assoc before (flat_map changes (range_with_len 0 index)) (changes index)
    ∙ ap (λ (last : List Change). before ++ (flat_map changes (range_with_len 0 index) ++ last)) (sym (append-nil (changes index)))
    ∙ ap (λ (more : List Change). before ++ more) (sym (flat_map-append changes (range_with_len 0 index) (index ∷ [])))
    ∙ ap (λ (indexes : List ℕ). before ++ flat_map changes indexes) (sym (range_more index))

-- ---- a stage has few trials

one_at_most : (holds : Bool) (change : Change) → length (only_if holds change) ≤ 1
one_at_most true change = omega arith
one_at_most false change = omega arith

few_among : (changes : ℕ → List Change) → ((index : ℕ) → length (changes index) ≤ 1) → (start count : ℕ) → length (flat_map changes (range_with_len start count)) ≤ count
few_among changes each start zero = omega arith
few_among changes each start (suc count) =
    let all = length-append (changes start) (flat_map changes (range_with_len (start + 1) count)) in
    let one = each start in
    let rest = few_among changes each (start + 1) count in
    omega (arith, all, one, rest)

one_option : (failure : Option Change) → length (option_to_list failure) ≤ 1
one_option None = omega arith
one_option (Some change) = omega arith

few_changes : (graph : PlainGraph) (value : Value) (place : ℕ) (stage : Stage) → length stage.ends ≤ 16 → length (changes_of graph value place stage) ≤ 64
few_changes graph value place stage few =
    let failure = failure_change graph value place in
    let ends = stage.ends in
    let runs = only_if (nat_lt 0 stage.runs) NoTime in
    let queue = only_if (nat_lt 0 stage.queued) NotQueued in
    let all = length-append (runs ++ queue) (option_to_list failure ++ end_changes failure ends) in
    let action = length-append runs queue in
    let rest = length-append (option_to_list failure) (end_changes failure ends) in
    let both = length-append (at_ends (without_at failure ends) ends) (at_ends (longer_at ends) ends) in
    let run = one_at_most (nat_lt 0 stage.runs) NoTime in
    let queued = one_at_most (nat_lt 0 stage.queued) NotQueued in
    let one = one_option failure in
    let without = few_among (without_at failure ends) (λ index. one_at_most (is_timeout_at ends index && not (takes_away failure index)) (WithoutEnd index)) 0 (length ends) in
    let longer = few_among (longer_at ends) (λ index. one_at_most (can_double (delay_at ends index)) (TwiceTheDelay index)) 0 (length ends) in
    omega (arith, all, action, rest, both, run, queued, one, without, longer, few)

pub few_trials : (graph : PlainGraph) → IsSound graph → (value : Value) (place : ℕ) → length (trials_at graph value place) ≤ 64
few_trials graph sound value place = of (stage_at graph.places place) refl where
  of : (here : Option Stage) → stage_at graph.places place ≡ here → length (trials_of graph value place here) ≤ 64
  of None none = omega arith
  of (Some stage) here =
      let lawful = (sound.stages place stage here).lawful in
      let few : length stage.ends ≤ 16 = leb-true (length stage.ends) 16 (and_parts (nat_le (length stage.ends) 16) (list_all is_end stage.ends) lawful.ends).0 in
      let short = few_changes graph value place stage few in
      let same = length-map (changes_of graph value place stage) (trial_at place) in
      omega (arith, short, same)

pub few_places : (graph : PlainGraph) → IsSound graph → (target : ℕ) → length (waited_for graph.places target) ≤ 65536
few_places graph sound target =
    let few = length-filter (can_wait_for graph.places target) (all_places graph.places) in
    let some = count_by-le-length (can_wait_for graph.places target) (all_places graph.places) in
    let all = length-range_with_len 0 (length graph.places) in
    let most = sound.few in
    omega (arith, few, some, all, most)

-- ---- their moments

pub all_below : (rescues : List Rescue) → All (λ (rescue : Rescue). rescue_moment rescue < above_moments rescues) rescues
all_below [] = All-nil (λ (rescue : Rescue). rescue_moment rescue < 0)
all_below (first ∷ rest) =
    let one = le-max_left (rescue_moment first + 1) (above_moments rest) in
    let more = le-max_right (rescue_moment first + 1) (above_moments rest) in
    All-cons (λ (rescue : Rescue). rescue_moment rescue < above_moments (first ∷ rest)) first rest
    (omega (arith, one))
    (λ k d short. let less = all_below rest k d short in omega (arith, less, more))

-- a rescue of this moment
abbrev pub of_moment : ℕ → Rescue
of_moment moment = record { place = 0; change = NoTime; value = Null; moment = moment }
