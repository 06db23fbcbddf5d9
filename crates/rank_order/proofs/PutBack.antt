-- Stages that are removed from a graph, and put back one by one.
use Rattle.std.proofs.Common.{◌≡◌, ℕ, zero, suc, ◌+◌, ◌-◌, ◌<◌, ◌≤◌, true, false, List, [], ◌∷◌, length, take, drop, get_or, Option, ap, sym, ◌∙◌, subst, inl, inr, arith}
use Rattle.std.specs.Prelude.{Contains, All, ◌||◌, ◌==◌, slice_index, if◌then◌else◌}
use Rattle.std.proofs.lemmas.Bool.{cases_lt, cond-true, cond-false, true≢false, false≢true, or_parts}
use Rattle.std.proofs.lemmas.List.{drop_more, drop_all}
use Rattle.stage_graph.specs.declared.stage.Stage.{Stage}
use Rattle.stage_graph.specs.Plain.{stage_at, feeds_at}
use Rattle.stage_graph.specs.Walk.{above_all}
use Rattle.stage_graph.proofs.Ranked.{live_from_feed}
use Rattle.stage_graph.proofs.Placing.{place_from_live}
use Rattle.rank_order.specs.declared.fault.PatchFault.{PatchFault}
use Rattle.rank_order.specs.declared.fault.PatchFault.TheVariants.{Cycle, Memory}
use Rattle.rank_order.specs.Lists.{is_among}
use Rattle.rank_order.specs.Ranking.{feeds_left, AreRanks, AreRanksBut, AreTraced, IsStop, IsStopFault, IsCycleAmong}
use Rattle.rank_order.proofs.Members.{false_unless, among_cases}

module _ (places : List (Option Stage)) where
  pub left_out : (out : List ℕ) (place : ℕ) → is_among place out ≡ true → feeds_left places out place ≡ []
  left_out out place is = cond-true (is_among place out) [] (feeds_at places place) is

  pub left_stays : (out : List ℕ) (place : ℕ) → is_among place out ≡ false → feeds_left places out place ≡ feeds_at places place
  left_stays out place is = cond-false (is_among place out) [] (feeds_at places place) is

  -- a stage with a feed is not removed, and has the feed in the graph
  pub left_in : (out : List ℕ) (place feed : ℕ) → Contains (feeds_left places out place) feed → is_among place out ≡ false
  left_in out place feed has = false_unless (is_among place out) (λ is. let (k, within, at) = subst (λ xs. Contains xs feed) (left_out out place is) has in absurd (omega arith))

  pub left_feed : (out : List ℕ) (place feed : ℕ) → Contains (feeds_left places out place) feed → Contains (feeds_at places place) feed
  left_feed out place feed has = subst (λ xs. Contains xs feed) (left_stays out place (left_in out place feed has)) has

  pub left_dependent : (out : List ℕ) (dependent feed : ℕ) → Contains (feeds_left places out dependent) feed → dependent < length places
  left_dependent out dependent feed has = place_from_live places dependent (live_from_feed (stage_at places dependent) feed (left_feed out dependent feed has))

  -- a trace in a part of the graph is one in the graph
  pub traced_in : (out moved : List ℕ) (before now : ℕ → ℕ) → AreTraced moved (feeds_left places out) before now → AreTraced moved (feeds_at places) before now
  traced_in out moved before now traced place changed other =
      let trace = traced place changed other in
      let stays = left_stays out place (left_in out place trace.feed trace.is_feed) in
      record {
        feed = trace.feed;
        is_feed = left_feed out place trace.feed trace.is_feed;
        changed = trace.changed;
        lower = λ feed has. trace.lower feed (subst (λ xs. Contains xs feed) (sym stays) has);
      }

  -- with none removed it is the graph
  pub left_none : (ranks : ℕ → ℕ) → AreRanks (feeds_left places []) ranks → AreRanks (feeds_at places) ranks
  left_none ranks are place = are place

  -- ranks that are right except at the moved places stay so when these are removed
  pub taken_out : (moved : List ℕ) (before : ℕ → ℕ) → AreRanksBut moved (feeds_at places) before → AreRanksBut moved (feeds_left places moved) before
  taken_out moved before are place other = are place other ∙ ap (above_all before) (sym (left_stays moved place other))

  -- one alone need not be removed
  pub one_alone : (moved : List ℕ) (before : ℕ → ℕ) → length moved < 2 → AreRanksBut moved (feeds_at places) before → AreRanksBut (take 1 moved) (feeds_left places (drop 1 moved)) before
  one_alone [] before few are place other = are place other
  one_alone (one ∷ []) before few are place other = are place other
  one_alone (one ∷ two ∷ moved) before few are place other = absurd (omega arith)

  -- the next stage is put back: the ranks are right except there
  pub put_next : (moved : List ℕ) (turn : ℕ) (ranks : ℕ → ℕ) → AreRanks (feeds_left places (drop turn moved)) ranks → AreRanksBut (take 1 (drop turn moved)) (feeds_left places (drop (turn + 1) moved)) ranks
  put_next moved turn ranks are place other = elim (cases_lt turn (length moved)) [
    | inl within ↦
        let next = drop_more moved turn 0 within in
        let apart : (place == get_or moved turn 0) ≡ false = (or_parts (place == get_or moved turn 0) false (ap (λ xs. is_among place (take 1 xs)) (sym next) ∙ other)).0 in
        are place ∙ ap (λ xs. above_all ranks (feeds_left places xs place)) next
        ∙ ap (λ b. above_all ranks (if b || is_among place (drop (turn + 1) moved) then [] else feeds_at places place)) apart
    | inr past ↦ are place ∙ ap (λ xs. above_all ranks (feeds_left places xs place)) (drop_all turn moved past ∙ sym (drop_all (turn + 1) moved (omega arith)))
  ]

  pub next_is : (moved : List ℕ) (turn : ℕ) → turn < length moved → take 1 (drop turn moved) ≡ get_or moved turn 0 ∷ []
  next_is moved turn within = ap (take 1) (drop_more moved turn 0 within)

  -- when all are put back, the ranks are right
  pub all_back : (moved : List ℕ) (turn : ℕ) (ranks : ℕ → ℕ) → length moved ≤ turn → AreRanksBut (take 1 (drop turn moved)) (feeds_left places (drop (turn + 1) moved)) ranks → AreRanks (feeds_at places) ranks
  all_back moved turn ranks past are place =
      are place (ap (λ xs. is_among place (take 1 xs)) (drop_all turn moved past)) ∙ ap (λ xs. above_all ranks (feeds_left places xs place)) (drop_all (turn + 1) moved (omega arith))

  -- no rank is wrong while all moved stages are removed
  pub no_stop : (moved path : List ℕ) → IsStop places moved moved path → ⊥
  no_stop moved path stop = true≢false (sym stop.begins ∙ stop.stays)

  -- and where one is put back, a walk from it to it is closed
  pub closed_at : (out moved : List ℕ) (place : ℕ) (fault : PatchFault) → is_among place moved ≡ true → IsStopFault places out (place ∷ []) fault → IsCycleAmong places moved fault
  closed_at out moved place Memory here stop = tt
  closed_at out moved place (Cycle path) here stop =
      let first : slice_index path 0 ≡ place = only (slice_index path 0) stop.begins in
      let last : slice_index path (length path - 1) ≡ place = only (slice_index path (length path - 1)) stop.ends in
      (record { steps = stop.steps; walk = stop.walk; closed = first ∙ sym last }, ap (λ x. is_among x moved) first ∙ here) where
        only : (x : ℕ) → is_among x (place ∷ []) ≡ true → x ≡ place
        only x among = elim (among_cases x place [] among) [ inl same ↦ same | inr none ↦ absurd (false≢true none) ]

  pub one_within : (place : ℕ) → place < length places → All (λ other. other < length places) (place ∷ [])
  one_within place within zero d short = within
  one_within place within (suc k) d short = absurd (omega arith)
