-- What a search from the target finds are the places that it can wait for.
use Rattle.std.proofs.Common.{◌≡◌, ◌+◌, ◌<◌, ◌≤◌, ℕ, zero, suc, Bool, true, false, List, [], ◌∷◌, ◌++◌, Option, cond, length, refl, ap, sym, ◌∙◌, subst, inl, inr, arith, ⊎_elim}
use Rattle.std.specs.Prelude.{Contains, filter, ◌==◌, ◌⊎◌}
use Rattle.std.specs.List.{list_any, range_with_len}
use Rattle.std.proofs.lemmas.Bool.{eq-eqb, eqb-true, or_cases, or_left, or_right}
use Rattle.std.proofs.lemmas.List.Elements.{filter-append}
use Rattle.stage_graph.specs.Plain.{feeds_at}
use Rattle.stage_graph.specs.Walk.{rank, IsRanked}
use Rattle.rank_order.specs.Lists.{is_among}
use Rattle.propagate.specs.Reach.{Stages}
use Rattle.propagate.proofs.Members.{among_append_left, among_append_right, among_cases, among_contains, passes, same_tests, some_passes}
use Rattle.propagate.proofs.Ranks.{rank_feed, rank_le}
use Rattle.time_sweep.specs.Known.{AreRanksFor, IsKnown}
use Rattle.time_sweep.specs.Waits.{can_wait_for, waits_within, AreWaitedFor, CanWaitFor, IsOnly}
use Rattle.time_sweep.proofs.Hurrying.{range_more}
use Rattle.time_sweep.proofs.Unreached.{is_known}

-- ---- steps from a stage to one of its feeds

module _ (stages : Stages) where
  abbrev by_a_feed : ℕ → ℕ → ℕ → Bool
  by_a_feed steps target place = list_any (λ feed. waits_within stages steps feed place) (feeds_at stages target)

  itself : (steps target place : ℕ) → target ≡ place → waits_within stages steps target place ≡ true
  itself zero target place same = eq-eqb target place same
  itself (suc steps) target place same = or_left (target == place) (by_a_feed steps target place) (eq-eqb target place same)

  by_feed : (steps target feed place : ℕ) → Contains (feeds_at stages target) feed → waits_within stages steps feed place ≡ true → waits_within stages (suc steps) target place ≡ true
  by_feed steps target feed place c waits =
      or_right (target == place) (by_a_feed steps target place) (passes (λ feed. waits_within stages steps feed place) (feeds_at stages target) feed c waits)

  first_step : (steps target place : ℕ) → waits_within stages (suc steps) target place ≡ true
      → (target ≡ place) ⊎ ((feed : ℕ) × Contains (feeds_at stages target) feed × (waits_within stages steps feed place ≡ true))
  first_step steps target place waits =
      ⊎_elim
      (λ same. inl (eqb-true target place same))
      (λ fed. inr (some_passes (λ feed. waits_within stages steps feed place) (feeds_at stages target) fed))
      (or_cases (target == place) (by_a_feed steps target place) waits)

  -- one step more at the end
  step_more : (steps target place feed : ℕ) → waits_within stages steps target place ≡ true → Contains (feeds_at stages place) feed → waits_within stages (suc steps) target feed ≡ true
  step_more zero target place feed waits c =
      by_feed zero target feed feed (subst (λ (s : ℕ). Contains (feeds_at stages s) feed) (sym (eqb-true target place waits)) c) (itself zero feed feed refl)
  step_more (suc steps) target place feed waits c =
      ⊎_elim
      (λ (same : target ≡ place). by_feed (suc steps) target feed feed (subst (λ (s : ℕ). Contains (feeds_at stages s) feed) (sym same) c) (itself (suc steps) feed feed refl))
      (λ (one : (feed : ℕ) × Contains (feeds_at stages target) feed × (waits_within stages steps feed place ≡ true)).
      by_feed (suc steps) target one.0 feed one.1 (step_more steps one.0 place feed one.2 c))
      (first_step steps target place waits)

  -- as many steps as the rank are enough
  enough : IsRanked stages → (steps many target place : ℕ) → waits_within stages steps target place ≡ true → rank stages target ≤ many → waits_within stages many target place ≡ true
  enough ranked zero many target place waits low = itself many target place (eqb-true target place waits)
  enough ranked (suc steps) zero target place waits low =
      ⊎_elim
      (λ same. itself zero target place same)
      (λ (one : (feed : ℕ) × Contains (feeds_at stages target) feed × (waits_within stages steps feed place ≡ true)).
      let lower : rank stages one.0 < rank stages target = rank_feed stages ranked target one.0 one.1 in absurd (omega (arith, lower, low)))
      (first_step steps target place waits)
  enough ranked (suc steps) (suc many) target place waits low =
      ⊎_elim
      (λ same. itself (suc many) target place same)
      (λ (one : (feed : ℕ) × Contains (feeds_at stages target) feed × (waits_within stages steps feed place ≡ true)).
      let lower : rank stages one.0 < rank stages target = rank_feed stages ranked target one.0 one.1 in
      by_feed many target one.0 place one.1 (enough ranked steps many one.0 place one.2 (omega (arith, lower, low))))
      (first_step steps target place waits)

  -- what is known of each feed of a known place is known of all that it can wait for
  all_known : (known : ℕ → Bool) → ((s feed : ℕ) → known s ≡ true → Contains (feeds_at stages s) feed → known feed ≡ true)
      → (steps target place : ℕ) → known target ≡ true → waits_within stages steps target place ≡ true → known place ≡ true
  all_known known closed zero target place own waits = subst (λ (s : ℕ). known s ≡ true) (eqb-true target place waits) own
  all_known known closed (suc steps) target place own waits =
      ⊎_elim
      (λ (same : target ≡ place). subst (λ (s : ℕ). known s ≡ true) same own)
      (λ (one : (feed : ℕ) × Contains (feeds_at stages target) feed × (waits_within stages steps feed place ≡ true)).
      all_known known closed steps one.0 place (closed target one.0 own one.1) one.2)
      (first_step steps target place waits)

  pub own_waited : (target : ℕ) → CanWaitFor stages target target
  own_waited target = (0, itself 0 target target refl)

  pub feed_waited : (target place feed : ℕ) → CanWaitFor stages target place → Contains (feeds_at stages place) feed → CanWaitFor stages target feed
  feed_waited target place feed waits c = (suc waits.0, step_more waits.0 target place feed waits.1 c)

  -- the places of a search are exactly those
  pub found_waits : IsRanked stages → (target : ℕ) (ranks : List (Option ℕ)) → AreRanksFor stages target ranks → ((place : ℕ) → IsKnown ranks place → CanWaitFor stages target place)
      → (place : ℕ) → is_known ranks place ≡ can_wait_for stages target place
  found_waits ranked target ranks are only place =
      same_tests (is_known ranks place) (can_wait_for stages target place)
      (λ known. let waits = only place known in enough ranked waits.0 (length stages) target place waits.1 (rank_le stages target))
      (λ waits. all_known (is_known ranks) are.feeds (length stages) target place are.own waits)

-- ---- only some places are found

pub nothing_more : (ranks : List (Option ℕ)) (waiting places : List ℕ) → IsOnly ranks waiting ranks waiting places
nothing_more ranks waiting places = record { known = λ place known. inl known; waits = λ place waits. inl waits }

-- first some places, and then others
pub both_only : {ranks ranks_then ranks_last : List (Option ℕ)} {waiting waiting_then waiting_last : List ℕ} (ones others : List ℕ) → IsOnly ranks waiting ranks_then waiting_then ones
    → IsOnly ranks_then waiting_then ranks_last waiting_last others → IsOnly ranks waiting ranks_last waiting_last (ones ++ others)
both_only ones others first second = record {
  known = λ place known.
      ⊎_elim (λ was. ⊎_elim (λ before. inl before) (λ one. inr (among_append_left place ones others one)) (first.known place was)) (λ other. inr (among_append_right place ones others other)) (second.known place known);
  waits = λ place waits.
      ⊎_elim (λ was. ⊎_elim (λ before. inl before) (λ one. inr (among_append_left place ones others one)) (first.waits place was)) (λ other. inr (among_append_right place ones others other)) (second.waits place waits);
}

-- one more of some places
pub one_more_only : {ranks ranks_then ranks_last : List (Option ℕ)} {waiting waiting_then waiting_last : List ℕ} (places : List ℕ) (one : ℕ) → is_among one places ≡ true
    → IsOnly ranks waiting ranks_then waiting_then places → IsOnly ranks_then waiting_then ranks_last waiting_last (one ∷ []) → IsOnly ranks waiting ranks_last waiting_last places
one_more_only places one among first second = record {
  known = λ place known. ⊎_elim (λ was. first.known place was) (λ is. inr (that place is)) (second.known place known);
  waits = λ place waits. ⊎_elim (λ was. first.waits place was) (λ is. inr (that place is)) (second.waits place waits);
} where
  that : (place : ℕ) → is_among place (one ∷ []) ≡ true → is_among place places ≡ true
  that place is = ⊎_elim (λ (same : place ≡ one). subst (λ (s : ℕ). is_among s places ≡ true) (sym same) among) (λ none. absurd (nowhere none)) (among_cases place one [] is) where
    nowhere : false ≡ true → ⊥
    nowhere e = cc

-- ---- the places that are found can be waited for

-- the target first
pub first_waited : (stages : Stages) (target : ℕ) {ranks ranks_then : List (Option ℕ)} {waiting waiting_then : List ℕ} → ((place : ℕ) → IsKnown ranks place → ⊥) → waiting ≡ []
    → IsOnly ranks waiting ranks_then waiting_then (target ∷ []) → AreWaitedFor stages target ranks_then waiting_then
first_waited stages target {ranks} {ranks_then} {waiting} {waiting_then} none nothing only = record {
  known = λ place known. ⊎_elim (λ was. absurd (none place was)) (λ is. that place is) (only.known place known);
  waits = λ place waits. ⊎_elim (λ was. absurd (nowhere (ap (λ (places : List ℕ). is_among place places) (sym nothing) ∙ was))) (λ is. that place is) (only.waits place waits);
} where
  nowhere : false ≡ true → ⊥
  nowhere e = cc

  that : (place : ℕ) → is_among place (target ∷ []) ≡ true → CanWaitFor stages target place
  that place is = ⊎_elim (λ (same : place ≡ target). subst (λ (s : ℕ). CanWaitFor stages target s) (sym same) (own_waited stages target)) (λ none. absurd (nowhere none)) (among_cases place target [] is)

-- and the feeds of a place that waits
pub more_waited : (stages : Stages) (target : ℕ) {ranks ranks_then : List (Option ℕ)} {waiting left waiting_then : List ℕ} (here : ℕ) → AreWaitedFor stages target ranks waiting → waiting ≡ left ++ here ∷ []
    → IsOnly ranks left ranks_then waiting_then (feeds_at stages here) → AreWaitedFor stages target ranks_then waiting_then
more_waited stages target {ranks} {ranks_then} {waiting} {left} {waiting_then} here are split only = record {
  known = λ place known. ⊎_elim (λ was. are.known place was) (λ is. that place is) (only.known place known);
  waits = λ place waits. ⊎_elim (λ was. are.waits place (among place (among_append_left place left (here ∷ []) was))) (λ is. that place is) (only.waits place waits);
} where
  among : (place : ℕ) → is_among place (left ++ here ∷ []) ≡ true → is_among place waiting ≡ true
  among place is = ap (λ (places : List ℕ). is_among place places) split ∙ is

  own : CanWaitFor stages target here
  own = are.waits here (among here (among_append_right here left (here ∷ []) (or_left (here == here) (is_among here []) (eq-eqb here here refl))))

  that : (place : ℕ) → is_among place (feeds_at stages here) ≡ true → CanWaitFor stages target place
  that place is = feed_waited stages target here place own (among_contains place (feeds_at stages here) is)

-- ---- their list

pub kept_more : (p : ℕ → Bool) (place : ℕ) (b : Bool) → b ≡ p place → filter p (range_with_len 0 (place + 1)) ≡ filter p (range_with_len 0 place) ++ cond b (place ∷ []) []
kept_more p place b is =
    ap (filter p) (range_more place) ∙ filter-append p (range_with_len 0 place) (place ∷ []) ∙ ap (λ (b : Bool). filter p (range_with_len 0 place) ++ cond b (place ∷ []) []) (sym is)
