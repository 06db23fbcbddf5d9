-- Evaluation in an order in which each stage comes after its feeds gives what the definitions say.
use Rattle.std.proofs.Common.{ℕ, zero, suc, ◌+◌, ◌*◌, ◌^◌, ◌≤◌, ◌<◌, ◌≡◌, inl, inr, max, List, [], ◌∷◌, ◌++◌, length, take, Option, Some, None, refl, sym, ap, ◌∙◌, subst, arith, get_or}
use Rattle.std.specs.Prelude.{Contains, All, is_some, replicate}
use Rattle.std.proofs.Math.ListN.{set, length-set, get_or-map}
use Rattle.std.proofs.lemmas.List.Elements.{Contains-append_left, Contains-append_right, Contains-push_cases, All-contains, All-set, All-weaker, All-map}
use Rattle.std.proofs.lemmas.List.Sums.{count_by-le-length}
use Rattle.std.proofs.lemmas.List.{take_more, length-append, length-take, length-map, length-replicate, get_or_past, get_or_default}
use Rattle.std.proofs.lemmas.Option.{slice_get_within, get_or_from_slice_get}
use Rattle.std.proofs.lemmas.Bool.{cases_lt}
use Rattle.std.proofs.Math.Nat.{mul-le-mul_right}
use Rattle.std.proofs.lemmas.Grind.{common_steps}
use Rattle.stage_graph.specs.declared.stage.Stage.{Stage}
use Rattle.stage_graph.specs.Plain.{stage_at, feeds_at, feeds_of_place, feeds_of}
use Rattle.stage_ops.specs.Among.{IsSoundAmong}
use Rattle.stage_ops.proofs.AmongLemmas.{sound_among}
use Rattle.stage_graph.specs.Walk.{Walk, step_at, AsksFeeds, IsRanked, above_all, rank_step, rank}
use Rattle.stage_graph.specs.Order.{IsFeedsFirst}
use Rattle.stage_graph.proofs.Placing.{place_from_live}
use Rattle.stage_graph.proofs.Lists.{set_cases}
use Rattle.stage_graph.proofs.Following.{found_meets_each}
use Rattle.stage_ops.specs.declared.state.State.{State}
use Rattle.stage_ops.specs.declared.state.Reads.{Reads}
use Rattle.stage_ops.specs.declared.state.Reads.TheVariants.{Nothing, Sources, Picked}
use Rattle.stage_ops.specs.States.{pending, seen_at, state_at, IsReadBy, IsBy, seen_of, Completion}
use Rattle.stage_ops.specs.Evaluation.{on_states, at, ReadsDecide, ReadBy, IsSoon, IsPrompt}
use Rattle.scratch_eval.specs.declared.answers.Answer.{Answer}
use Rattle.scratch_eval.specs.Answers.{AreAnswers, AreSoFar, MomentsFollowRanks, MomentsFollowRanksUnqueued, answer_at, answer_for, rank_at, rank_of, state_of, states_of}

-- a later moment bounds too
by_later : (done : Option Completion) (early late : ℕ) → early ≤ late → IsBy early done → IsBy late done
by_later None early late before by = tt
by_later (Some done) early late before by = omega (arith, before, by)

-- a bound on all answers bounds the states at a place
by_at : (answers : List (Option Answer)) (moment : ℕ) → All (λ answer. IsBy moment (seen_of (state_of answer))) answers → (place : ℕ)
    → IsBy moment (seen_at (state_at (states_of answers)) place)
by_at answers moment all place =
    subst (λ state. IsBy moment (seen_of state)) (sym (get_or-map state_of answers place None))
    (elim (cases_lt place (length answers)) [
      | inl within ↦ all place None within
      | inr past ↦ subst (λ answer. IsBy moment (seen_of (state_of answer))) (sym (get_or_past answers place None past)) tt
    ])

-- what is read is a feed
pub read_is_feed : (stage : Stage) (reads : Reads) (feed : ℕ) → IsReadBy stage reads feed → Contains (feeds_of stage) feed
read_is_feed stage Nothing feed read = absurd read
read_is_feed stage Sources feed read = Contains-append_left stage.sources stage.inner feed read
read_is_feed stage (Picked index) feed (inl source) = Contains-append_left stage.sources stage.inner feed source
read_is_feed stage (Picked index) feed (inr picked) =
    let within : index < length stage.inner = slice_get_within stage.inner index feed picked in
    Contains-append_right stage.sources stage.inner feed (index, within, get_or_from_slice_get stage.inner index feed feed picked)

-- a step that is determined by what it reads asks of no place but the feeds
pub asks_feeds : (step : Stage → (ℕ → Option Completion) → State) → ReadsDecide step → AsksFeeds (on_states step)
asks_feeds step decide stage inputs others same =
    decide stage (seen_at inputs) (seen_at others)
    (λ feed read. ap seen_of (same feed (read_is_feed stage (step stage (seen_at inputs)).reads feed read)))

-- ranks that agree on a list have one bound above it
pub same_above : (ranks others : ℕ → ℕ) (feeds : List ℕ) → ((feed : ℕ) → Contains feeds feed → ranks feed ≡ others feed) → above_all ranks feeds ≡ above_all others feeds
same_above ranks others [] same = refl
same_above ranks others (feed ∷ feeds) same =
    let first : ranks feed ≡ others feed = same feed (Contains-append_left (feed ∷ []) feeds feed (0, omega arith, refl)) in
    let rest : above_all ranks feeds ≡ above_all others feeds = same_above ranks others feeds (λ other at. same other (Contains-append_right (feed ∷ []) feeds other at)) in
    grind (arith, first, rest)

ranks_ask_feeds : AsksFeeds rank_step
ranks_ask_feeds stage inputs others same = same_above inputs others (feeds_of stage) same

pub above_all-append : (ranks : ℕ → ℕ) (xs ys : List ℕ) → above_all ranks (xs ++ ys) ≡ max (above_all ranks xs) (above_all ranks ys)
above_all-append ranks [] ys = omega arith
above_all-append ranks (x ∷ xs) ys = let rest : above_all ranks (xs ++ ys) ≡ max (above_all ranks xs) (above_all ranks ys) = above_all-append ranks xs ys in omega (arith, rest)

pub above_all-take : (ranks : ℕ → ℕ) (feeds : List ℕ) (k : ℕ) → k < length feeds → above_all ranks (take (k + 1) feeds) ≡ max (above_all ranks (take k feeds)) (ranks (get_or feeds k 0) + 1)
above_all-take ranks feeds k within =
    ap (above_all ranks) (take_more feeds k 0 within) ∙ above_all-append ranks (take k feeds) (get_or feeds k 0 ∷ []) ∙ ap (max (above_all ranks (take k feeds))) (omega arith)

-- a bound on ranks bounds what is above them
above_all-le : (ranks : ℕ → ℕ) (feeds : List ℕ) (most : ℕ) → ((place : ℕ) → ranks place ≤ most) → above_all ranks feeds ≤ most + 1
above_all-le ranks [] most each = omega arith
above_all-le ranks (feed ∷ feeds) most each = omega (arith, each feed, above_all-le ranks feeds most each)

module _ (step : Stage → (ℕ → Option Completion) → State) (decide : ReadsDecide step) (places : List (Option Stage)) (ranked : IsRanked places) where
  -- the state of a live stage is its step on the states of the others
  pub at_stage : (place : ℕ) (stage : Stage) → stage_at places place ≡ Some stage → at step places place ≡ step stage (seen_at (at step places))
  at_stage place stage here = found_meets_each pending (on_states step) places (asks_feeds step decide) ranked place ∙ ap (step_at pending (on_states step) (at step places)) here

  at_empty : (place : ℕ) → stage_at places place ≡ None → at step places place ≡ pending
  at_empty place here = found_meets_each pending (on_states step) places (asks_feeds step decide) ranked place ∙ ap (step_at pending (on_states step) (at step places)) here

  rank_stage : (place : ℕ) (stage : Stage) → stage_at places place ≡ Some stage → rank places place ≡ above_all (rank places) (feeds_of stage)
  rank_stage place stage here = found_meets_each 0 rank_step places ranks_ask_feeds ranked place ∙ ap (step_at 0 rank_step (rank places)) here

  rank_empty : (place : ℕ) → stage_at places place ≡ None → rank places place ≡ 0
  rank_empty place here = found_meets_each 0 rank_step places ranks_ask_feeds ranked place ∙ ap (step_at 0 rank_step (rank places)) here

  -- the state and the rank of an answer by the definitions
  told_at : (place : ℕ) (here : Option Stage) → stage_at places place ≡ here → state_of (answer_for step places place here) ≡ at step places place
  told_at place None here = sym (at_empty place here)
  told_at place (Some stage) here = refl

  told_rank_at : (place : ℕ) (here : Option Stage) → stage_at places place ≡ here → rank_of (answer_for step places place here) ≡ rank places place
  told_rank_at place None here = sym (rank_empty place here)
  told_rank_at place (Some stage) here = refl

  module _ (done : List ℕ) (answers : List (Option Answer)) (so_far : AreSoFar step places done answers) (place : ℕ) (stage : Stage)
      (here : stage_at places place ≡ Some stage) (first : All (Contains done) (feeds_of stage)) where
    known_state : (feed : ℕ) → Contains (feeds_of stage) feed → state_at (states_of answers) feed ≡ at step places feed
    known_state feed among =
        get_or-map state_of answers feed None
        ∙ ap state_of (so_far.known feed (All-contains (Contains done) (feeds_of stage) feed first among))
        ∙ told_at feed (stage_at places feed) refl

    known_rank : (feed : ℕ) → Contains (feeds_of stage) feed → rank_at answers feed ≡ rank places feed
    known_rank feed among = ap rank_of (so_far.known feed (All-contains (Contains done) (feeds_of stage) feed first among)) ∙ told_rank_at feed (stage_at places feed) refl

    -- the state and the rank computed from the answers so far are those of the definitions
    pub computed_state : step stage (seen_at (state_at (states_of answers))) ≡ at step places place
    computed_state = asks_feeds step decide stage (state_at (states_of answers)) (at step places) known_state ∙ sym (at_stage place stage here)

    pub computed_rank : above_all (rank_at answers) (feeds_of stage) ≡ rank places place
    computed_rank = same_above (rank_at answers) (rank places) (feeds_of stage) known_rank ∙ sym (rank_stage place stage here)

    pub so_far_more : (answer : Answer) → IsSoundAmong (length places) stage → IsSoon step
        → answer.state ≡ step stage (seen_at (state_at (states_of answers))) → answer.rank ≡ above_all (rank_at answers) (feeds_of stage)
        → AreSoFar step places (done ++ place ∷ []) (set answers place (Some answer))
    so_far_more answer sound soon state rank =
        let longer : length (done ++ place ∷ []) ≡ length done + 1 = length-append done (place ∷ []) in
        let within : place < length answers = omega (arith, so_far.each, place_from_live places place (ap is_some here)) in
        let told : Some answer ≡ answer_for step places place (stage_at places place) =
        ap (λ state. Some (record { state = state; rank = answer.rank })) (state ∙ computed_state)
        ∙ ap (λ rank. Some (record { state = at step places place; rank = rank })) (rank ∙ computed_rank)
        ∙ ap (answer_for step places place) (sym here) in
        record {
          each = length-set answers place (Some answer) ∙ so_far.each;
          known = λ other among. elim (set_cases answers place other (Some answer) None within) [
            | inl (same, now) ↦ now ∙ told ∙ ap (λ place. answer_for step places place (stage_at places place)) (sym same)
            | inr (differ, now) ↦ now ∙ so_far.known other (elim (Contains-push_cases done place other among) [
              | inl before ↦ before
              | inr same ↦ absurd (differ (sym same))
            ])
          ];
          empty = λ other nothing. elim (set_cases answers place other (Some answer) None within) [
            | inl (same, now) ↦ let clash : Some stage ≡ None = sym here ∙ ap (stage_at places) (sym same) ∙ nothing in cc
            | inr (differ, now) ↦ now ∙ so_far.empty other nothing
          ];
          moments =
              let soon_after : IsBy (2 ^ 42 + length done * 2 ^ 41 + 2 ^ 41) (seen_of (step stage (seen_at (state_at (states_of answers))))) =
              soon (length places) stage (seen_at (state_at (states_of answers))) (2 ^ 42 + length done * 2 ^ 41) sound (omega arith)
              (λ feed read. by_at answers (2 ^ 42 + length done * 2 ^ 41) so_far.moments feed) in
              All-set (λ answer. IsBy (2 ^ 42 + length (done ++ place ∷ []) * 2 ^ 41) (seen_of (state_of answer))) answers place (Some answer)
              (by_later (seen_of answer.state) (2 ^ 42 + length done * 2 ^ 41 + 2 ^ 41) (2 ^ 42 + length (done ++ place ∷ []) * 2 ^ 41) (omega (arith, longer))
              (subst (λ state. IsBy (2 ^ 42 + length done * 2 ^ 41 + 2 ^ 41) (seen_of state)) (sym state) soon_after))
              (All-weaker (λ answer. IsBy (2 ^ 42 + length done * 2 ^ 41) (seen_of (state_of answer))) (λ answer. IsBy (2 ^ 42 + length (done ++ place ∷ []) * 2 ^ 41) (seen_of (state_of answer)))
              (λ answer by. by_later (seen_of (state_of answer)) (2 ^ 42 + length done * 2 ^ 41) (2 ^ 42 + length (done ++ place ∷ []) * 2 ^ 41) (omega (arith, longer)) by)
              answers so_far.moments);
          ranks = λ other. elim (set_cases answers place other (Some answer) None within) [
            | inl (same, now) ↦
                let is : rank_at (set answers place (Some answer)) other ≡ answer.rank = ap rank_of now in
                let most : above_all (rank_at answers) (feeds_of stage) ≤ length done + 1 = above_all-le (rank_at answers) (feeds_of stage) (length done) so_far.ranks in
                omega (arith, is, rank, most, longer)
            | inr (differ, now) ↦
                let is : rank_at (set answers place (Some answer)) other ≡ rank_at answers other = ap rank_of now in
                omega (arith, is, so_far.ranks other, longer)
          ];
        }

-- before a stage of the order is evaluated, the preconditions of its evaluation hold
module _ (step : Stage → (ℕ → Option Completion) → State) (places : List (Option Stage)) (order : List ℕ) (first : IsFeedsFirst places order) (few : length places ≤ 65536)
    (k : ℕ) (answers : List (Option Answer)) (so_far : AreSoFar step places (take k order) answers) where
  pub few_done : length (take k order) ≤ 65536
  few_done = omega (arith, few, length-take k order, first.once, count_by-le-length is_some places)

  pub each_state : length (states_of answers) ≡ length places
  each_state = length-map answers state_of ∙ so_far.each

  pub early_states : All (λ state. IsBy (2 ^ 62) (seen_of state)) (states_of answers)
  early_states =
      All-map (λ state. IsBy (2 ^ 62) (seen_of state)) state_of answers
      (All-weaker (λ answer. IsBy (2 ^ 42 + length (take k order) * 2 ^ 41) (seen_of (state_of answer))) (λ answer. IsBy (2 ^ 62) (seen_of (state_of answer)))
      (λ answer by. by_later (seen_of (state_of answer)) (2 ^ 42 + length (take k order) * 2 ^ 41) (2 ^ 62) (omega (arith, few_done)) by) answers so_far.moments)

  pub low_ranks : (place : ℕ) → rank_at answers place ≤ 2 ^ 20
  low_ranks place = omega (arith, few_done, so_far.ranks place)

-- where each stage of the order is done, the answers are whole
pub whole : (step : Stage → (ℕ → Option Completion) → State) (places : List (Option Stage)) (order : List ℕ) → IsFeedsFirst places order
    → (answers : List (Option Answer)) → AreSoFar step places order answers → AreAnswers step places answers
whole step places order first answers so_far = record {
  each = so_far.each;
  answer = λ place. answer_here place (stage_at places place) refl;
} where
  answer_here : (place : ℕ) (here : Option Stage) → stage_at places place ≡ here → answer_at answers place ≡ answer_for step places place (stage_at places place)
  answer_here place None nothing = so_far.empty place nothing ∙ ap (answer_for step places place) (sym nothing)
  answer_here place (Some stage) here = so_far.known place (first.all place (ap is_some here))

-- before the first stage each place is empty
pub so_far_none : (step : Stage → (ℕ → Option Completion) → State) (places : List (Option Stage)) → AreSoFar step places [] (replicate (length places) None)
so_far_none step places =
    let nothing : (place : ℕ) → answer_at (replicate (length places) None) place ≡ None = λ place. grind (arith, common_steps) in
    record {
      each = length-replicate (length places) None;
      known = λ place among. absurd (omega (arith, among.1));
      empty = λ place is. nothing place;
      moments = λ k d within. subst (λ answer. IsBy (2 ^ 42 + length {A = ℕ} [] * 2 ^ 41) (seen_of (state_of answer))) (sym (get_or_default (replicate (length places) None) k d None within ∙ nothing k)) tt;
      ranks = λ place. let is : rank_at (replicate (length places) None) place ≡ 0 = ap rank_of (nothing place) in omega (arith, is);
    }

-- each of a list is below what is above them all
above_each : (ranks : ℕ → ℕ) (feeds : List ℕ) (feed : ℕ) → Contains feeds feed → ranks feed + 1 ≤ above_all ranks feeds
above_each ranks [] feed (k, within, is) = absurd (omega arith)
above_each ranks (first ∷ feeds) feed (zero, within, is) = let same : ranks first ≡ ranks feed = ap ranks is in omega (arith, same)
above_each ranks (first ∷ feeds) feed (suc k, within, is) = omega (arith, above_each ranks feeds feed (k, omega arith, is))

-- one more rank is one more lag
one_lag_more : (lag low high : ℕ) → low + 1 ≤ high → low * lag + lag ≤ high * lag
one_lag_more lag low high less = omega (arith, mul-le-mul_right lag less)

-- on a ranked graph where each stage completes within a lag of what it read
module _ (step : Stage → (ℕ → Option Completion) → State) (decide : ReadsDecide step) (places : List (Option Stage)) (ranked : IsRanked places) (lag : ℕ)
    (soon : (place : ℕ) (stage : Stage) → stage_at places place ≡ Some stage → (inputs : ℕ → Option Completion) (moment : ℕ) → 2 ^ 40 ≤ moment
    → ReadBy step stage inputs moment → IsBy (moment + lag) (seen_of (step stage inputs))) where
  -- by the length of the walks from the place
  in_time : (levels place : ℕ) → (Walk places levels place → ⊥) → (here : Option Stage) → stage_at places place ≡ here → IsBy (2 ^ 40 + lag + rank places place * lag) (seen_of (at step places place))
  in_time levels place short None nothing =
      subst (λ state. IsBy (2 ^ 40 + lag + rank places place * lag) (seen_of state)) (sym (at_empty step decide places ranked place nothing)) tt
  in_time zero place short (Some stage) here = absurd (short (place_from_live places place (ap is_some here)))
  in_time (suc levels) place short (Some stage) here =
      let feeds_here : feeds_at places place ≡ feeds_of stage = ap feeds_of_place here in
      let ranks_here : rank places place ≡ above_all (rank places) (feeds_of stage) = rank_stage step decide places ranked place stage here in
      subst (λ state. IsBy (2 ^ 40 + lag + rank places place * lag) (seen_of state)) (sym (at_stage step decide places ranked place stage here))
      (by_later (seen_of (step stage (seen_at (at step places)))) (2 ^ 40 + rank places place * lag + lag) (2 ^ 40 + lag + rank places place * lag) (omega arith)
      (soon place stage here (seen_at (at step places)) (2 ^ 40 + rank places place * lag) (omega arith)
      (λ feed read.
      let among : Contains (feeds_of stage) feed = read_is_feed stage (step stage (seen_at (at step places))).reads feed read in
      let below : rank places feed + 1 ≤ rank places place = omega (arith, ranks_here, above_each (rank places) (feeds_of stage) feed among) in
      by_later (seen_of (at step places feed)) (2 ^ 40 + lag + rank places feed * lag) (2 ^ 40 + rank places place * lag)
      (omega (arith, one_lag_more lag (rank places feed) (rank places place) below))
      (in_time levels feed (λ walk. short (feed, subst (λ (feeds : List ℕ). Contains feeds feed) (sym feeds_here) among, walk)) (stage_at places feed) refl))))

  pub in_time_by_rank : (place : ℕ) → IsBy (2 ^ 40 + lag + rank places place * lag) (seen_of (at step places place))
  in_time_by_rank place = in_time (length places) place (ranked place) (stage_at places place) refl

pub moments_follow_ranks : (step : Stage → (ℕ → Option Completion) → State) → ReadsDecide step → IsSoon step → MomentsFollowRanks step
moments_follow_ranks step decide soon graph sound ranked place =
    let places = graph.places in
    by_later (seen_of (at step places place)) (2 ^ 40 + 2 ^ 41 + rank places place * 2 ^ 41) (2 ^ 42 + rank places place * 2 ^ 41) (omega arith)
    (in_time_by_rank step decide places ranked (2 ^ 41)
    (λ place stage here inputs moment late by. soon (length places) stage inputs moment (sound_among places place stage (sound.stages place stage here)) late by) place)

pub moments_follow_ranks_unqueued : (step : Stage → (ℕ → Option Completion) → State) → ReadsDecide step → IsPrompt step → MomentsFollowRanksUnqueued step
moments_follow_ranks_unqueued step decide prompt graph sound ranked idle place =
    let places = graph.places in
    by_later (seen_of (at step places place)) (2 ^ 40 + 2 ^ 40 + rank places place * 2 ^ 40) (2 ^ 41 + rank places place * 2 ^ 40) (omega arith)
    (in_time_by_rank step decide places ranked (2 ^ 40)
    (λ place stage here inputs moment late by. prompt (length places) stage inputs moment (sound_among places place stage (sound.stages place stage here)) (idle place stage here) late by) place)
