-- Following blame from stage to stage, and looking for a stage among the feeds of each.
use Rattle.std.proofs.Common.{ℕ, zero, suc, ◌+◌, ◌*◌, ◌^◌, ◌-◌, ◌<◌, ◌≤◌, ◌≡◌, Bool, true, false, cond, List, [], ◌∷◌, ◌++◌, length, Option, Some, None, Result, Ok, Err, refl, sym, ap, ◌∙◌, subst, arith, append_assoc, append-nil}
use Rattle.std.proofs.Math.ListN.{get_or-map}
use Rattle.std.specs.List.{range_with_len, filter}
use Rattle.std.proofs.lemmas.List.{map-id}
use Rattle.std.proofs.lemmas.List.FromFn.{map-range_with_len_more}
use Rattle.std.proofs.lemmas.List.Elements.{filter-append}
use Rattle.stage_graph.specs.declared.stage.Stage.{Stage}
use Rattle.stage_graph.specs.Plain.{stage_at}
use Rattle.stage_graph.specs.Walk.{step_at, from_feeds}
use Rattle.stage_graph.proofs.Lists.{same_function}
use Rattle.stage_ops.specs.declared.state.State.{State}
use Rattle.stage_ops.specs.declared.state.Done.{Done}
use Rattle.stage_ops.specs.Sources.{is_exceptional}
use Rattle.stage_graph.specs.Plain.{PlainGraph}
use Rattle.stage_graph.specs.Sound.{IsSound}
use Rattle.stage_ops.specs.States.{pending, state_at, Completion}
use Rattle.std.specs.Prelude.{Contains, IfSome}
use Rattle.std.proofs.lemmas.List.{get_or_past}
use Rattle.stage_graph.specs.Plain.{feeds_of, feeds_at, feeds_of_place}
use Rattle.stage_graph.specs.Walk.{Walk, IsRanked}
use Rattle.stage_ops.specs.States.{seen_at, IsReadBy}
use Rattle.stage_ops.specs.Evaluation.{on_states, at, ReadsDecide, BlamesRead}
use Rattle.stage_graph.specs.Walk.{rank}
use Rattle.stage_ops.specs.States.{seen_of, IsBy}
use Rattle.stage_ops.specs.Java.{java_step}
use Rattle.stage_ops.specs.JavaLaws.{java_reads_decide, java_soon, java_prompt}
use Rattle.scratch_eval.proofs.Evaluating.{at_stage, read_is_feed, moments_follow_ranks, moments_follow_ranks_unqueued}
use Rattle.scratch_eval.specs.declared.answers.Answer.{Answer}
use Rattle.scratch_eval.specs.declared.fault.QueryFault.{QueryFault}
use Rattle.scratch_eval.specs.declared.fault.QueryFault.TheVariants.{NoStage}
use Rattle.act_expr.specs.declared.outcome.Mode.{Mode}
use Rattle.stage_ops.specs.OneDuration.{sight_of}
use Rattle.stage_ops.proofs.OneDurationLemmas.{same_at}
use Rattle.scratch_eval.specs.Answers.{AreAnswers, TellOneDuration, StatesFollowRanks, answer_at, answer_for, state_of, states_of}
use Rattle.scratch_eval.specs.Queries.{list_at, chain_at}
use Rattle.scratch_eval.specs.Blame.{chain, chain_after, chain_of, chain_step, failure_of, followed}

-- one more place is the last one
range_more : (count : ℕ) → range_with_len 0 (count + 1) ≡ range_with_len 0 count ++ count ∷ []
range_more count =
    sym (map-id (range_with_len 0 (count + 1)))
    ∙ map-range_with_len_more (λ place. place) 0 count count (omega arith)
    ∙ ap (λ places. places ++ count ∷ []) (map-id (range_with_len 0 count))

-- the places that pass, with one more place
pub passing_more : (passes : ℕ → Bool) (count : ℕ) → filter passes (range_with_len 0 (count + 1)) ≡ filter passes (range_with_len 0 count) ++ cond (passes count) (count ∷ []) []
passing_more passes count = ap (filter passes) (range_more count) ∙ filter-append passes (range_with_len 0 count) (count ∷ [])

-- where nothing failed the chain ends
ends_at : (place : ℕ) (done : Option Done) (chains : ℕ → List ℕ) → failure_of done ≡ None → chain_of place done chains ≡ []
ends_at place None chains none = refl
ends_at place (Some done) chains none = ends (is_exceptional done.outcome) none where
  ends : (failed : Bool) → cond failed (Some done) None ≡ None → cond failed (place ∷ chain_after chains done.from) [] ≡ []
  ends true none = cc
  ends false none = refl

-- where something failed the chain begins with the place
begins_at : (place : ℕ) (done : Option Done) (failure : Done) (chains : ℕ → List ℕ) → failure_of done ≡ Some failure → chain_of place done chains ≡ place ∷ chain_after chains failure.from
begins_at place None failure chains some = cc
begins_at place (Some done) failure chains some = begins (is_exceptional done.outcome) some where
  begins : (failed : Bool) → cond failed (Some done) None ≡ Some failure → cond failed (place ∷ chain_after chains done.from) [] ≡ place ∷ chain_after chains failure.from
  begins true some = let same : done ≡ failure = cc in ap (λ done. place ∷ chain_after chains done.from) same
  begins false some = cc

-- a chain that was followed so far, and what is left of it
module _ (states : ℕ → State) (chain whole : List ℕ) (left place : ℕ) (so_far : chain ++ followed states left place ≡ whole) where
  pub followed_out : left ≡ 0 → chain ≡ whole
  followed_out none = sym (append-nil chain) ∙ ap (λ left. chain ++ followed states left place) (sym none) ∙ so_far

  pub followed_to_end : failure_of (states place).done ≡ None → chain ≡ whole
  followed_to_end none = sym (append-nil chain) ∙ ap (λ rest. chain ++ rest) (sym (nothing left)) ∙ so_far where
    nothing : (left : ℕ) → followed states left place ≡ []
    nothing zero = refl
    nothing (suc left) = ends_at place (states place).done (followed states left) none

  -- with one more place
  followed_more : (failure : Done) (rest : ℕ) → left ≡ suc rest → failure_of (states place).done ≡ Some failure → (chain ++ place ∷ []) ++ chain_after (followed states rest) failure.from ≡ whole
  followed_more failure rest more some =
      append_assoc chain (place ∷ []) (chain_after (followed states rest) failure.from)
      ∙ ap (λ rest. chain ++ rest) (sym (begins_at place (states place).done failure (followed states rest) some))
      ∙ ap (λ left. chain ++ followed states left place) (sym more)
      ∙ so_far

  pub followed_to_origin : (failure : Done) → 0 < left → failure_of (states place).done ≡ Some failure → failure.from ≡ None → chain ++ place ∷ [] ≡ whole
  followed_to_origin failure within some origin =
      sym (append-nil (chain ++ place ∷ []))
      ∙ ap (λ from. (chain ++ place ∷ []) ++ chain_after (followed states (left - 1)) from) (sym origin)
      ∙ followed_more failure (left - 1) (omega (arith, within)) some

  pub followed_on : (failure : Done) (source : ℕ) → 0 < left → failure_of (states place).done ≡ Some failure → failure.from ≡ Some source → (chain ++ place ∷ []) ++ followed states (left - 1) source ≡ whole
  followed_on failure source within some from =
      ap (λ from. (chain ++ place ∷ []) ++ chain_after (followed states (left - 1)) from) (sym from)
      ∙ followed_more failure (left - 1) (omega (arith, within)) some

-- at each level the chain by the states alone is that of the graph, where each stage knows its place and an empty place is pending
pub followed_is_found : (states : ℕ → State) (places : List (Option Stage))
    → ((place : ℕ) → stage_at places place ≡ None → (states place).done ≡ None) → ((place : ℕ) (stage : Stage) → stage_at places place ≡ Some stage → stage.place ≡ place)
    → (levels place : ℕ) → followed states levels place ≡ from_feeds [] (chain_step states) places levels place
followed_is_found states places empty own zero place = refl
followed_is_found states places empty own (suc levels) place = at_level (followed_is_found states places empty own levels) (stage_at places place) refl where
  at_level : ((place : ℕ) → followed states levels place ≡ from_feeds [] (chain_step states) places levels place) → (here : Option Stage) → stage_at places place ≡ here → followed states (suc levels) place ≡ from_feeds [] (chain_step states) places (suc levels) place
  at_level below None nothing =
      ap (λ done. chain_of place done (followed states levels)) (empty place nothing)
      ∙ ap (step_at [] (chain_step states) (from_feeds [] (chain_step states) places levels)) (sym nothing)
  at_level below (Some stage) here =
      ap (λ chains. chain_of place (states place).done chains) (same_function below)
      ∙ ap (λ place. chain_of place (states place).done (from_feeds [] (chain_step states) places levels)) (sym (own place stage here))
      ∙ ap (step_at [] (chain_step states) (from_feeds [] (chain_step states) places levels)) (sym here)

-- an empty place is pending at each level
nothing_at : (step : Stage → (ℕ → Option Completion) → State) (places : List (Option Stage)) (place : ℕ) → stage_at places place ≡ None
    → (levels : ℕ) → from_feeds pending (on_states step) places levels place ≡ pending
nothing_at step places place nothing zero = refl
nothing_at step places place nothing (suc levels) = ap (step_at pending (on_states step) (from_feeds pending (on_states step) places levels)) nothing

-- the answers have the states of the definitions
module _ (step : Stage → (ℕ → Option Completion) → State) (places : List (Option Stage)) (answers : List (Option Answer)) (are : AreAnswers step places answers) where
  pub told_state_at : (place : ℕ) → state_at (states_of answers) place ≡ at step places place
  told_state_at place = get_or-map state_of answers place None ∙ ap state_of (are.answer place) ∙ of_stage (stage_at places place) refl where
    of_stage : (here : Option Stage) → stage_at places place ≡ here → state_of (answer_for step places place here) ≡ at step places place
    of_stage None nothing = sym (nothing_at step places place nothing (length places))
    of_stage (Some stage) here = refl

  pub told_one_duration : (mode : Mode) → TellOneDuration step mode places answers
  told_one_duration mode java idle place = ap sight_of (told_state_at place ∙ ap (λ step. at step places place) java) ∙ same_at mode places idle place

module _ (step : Stage → (ℕ → Option Completion) → State) (graph : PlainGraph) (sound : IsSound graph) (answers : List (Option Answer)) (are : AreAnswers step graph.places answers) where
  followed_chain : (place : ℕ) → followed (state_at (states_of answers)) (length answers) place ≡ chain step graph.places place
  followed_chain place =
      ap (λ states. followed states (length answers) place) (same_function (told_state_at step graph.places answers are))
      ∙ ap (λ most. followed (at step graph.places) most place) are.each
      ∙ followed_is_found (at step graph.places) graph.places
      (λ place nothing. ap (λ (state : State). state.done) (nothing_at step graph.places place nothing (length graph.places)))
      (λ place stage here. (sound.stages place stage here).own_place) (length graph.places) place

  pub chain_told : (place : ℕ) (answer : Answer) → answer_at answers place ≡ Some answer → Ok (followed (state_at (states_of answers)) (length answers) place) ≡ chain_at step graph.places place
  chain_told place answer some = of_stage (stage_at graph.places place) (sym (are.answer place) ∙ some) where
    of_stage : (here : Option Stage) → answer_for step graph.places place here ≡ Some answer
        → ◌≡◌ {A = Result (List ℕ) QueryFault} (Ok (followed (state_at (states_of answers)) (length answers) place)) (list_at (chain step graph.places) place here)
    of_stage None is = cc
    of_stage (Some stage) is = ap (λ chain. Ok chain) (followed_chain place)

  pub no_chain : (place : ℕ) → answer_at answers place ≡ None → Err NoStage ≡ chain_at step graph.places place
  no_chain place none = of_stage (stage_at graph.places place) (sym (are.answer place) ∙ none) where
    of_stage : (here : Option Stage) → answer_for step graph.places place here ≡ None → ◌≡◌ {A = Result (List ℕ) QueryFault} (Err NoStage) (list_at (chain step graph.places) place here)
    of_stage None is = refl
    of_stage (Some stage) is = cc

-- the state of an answer is that of the definitions
answered : (step : Stage → (ℕ → Option Completion) → State) (places : List (Option Stage)) (answers : List (Option Answer)) → AreAnswers step places answers
    → (place : ℕ) (answer : Answer) → answer_at answers place ≡ Some answer → answer.state ≡ at step places place
answered step places answers are place answer some = of_stage (stage_at places place) (sym some ∙ are.answer place) where
  of_stage : (here : Option Stage) → Some answer ≡ answer_for step places place here → answer.state ≡ at step places place
  of_stage None is = cc
  of_stage (Some stage) is = ap state_of is

-- and it completes no later than its rank allows
pub follows_ranks : (answers : List (Option Answer)) (place : ℕ) (answer : Answer) → answer_at answers place ≡ Some answer → StatesFollowRanks answers place answer.state
follows_ranks answers place answer some = record {
  bound = λ graph sound ranked are.
      subst (λ state. IsBy (2 ^ 42 + rank graph.places place * 2 ^ 41) (seen_of state)) (sym (answered (java_step graph.mode) graph.places answers are place answer some))
      (moments_follow_ranks (java_step graph.mode) (java_reads_decide graph.mode) (java_soon graph.mode) graph sound ranked place);
  unqueued = λ graph sound ranked idle are.
      subst (λ state. IsBy (2 ^ 41 + rank graph.places place * 2 ^ 40) (seen_of state)) (sym (answered (java_step graph.mode) graph.places answers are place answer some))
      (moments_follow_ranks_unqueued (java_step graph.mode) (java_reads_decide graph.mode) (java_prompt graph.mode) graph sound ranked idle place);
}

-- chains that agree at the source that is blamed make one chain
same_chain : (place : ℕ) (done : Option Done) (chains others : ℕ → List ℕ) → ((completion : Done) (source : ℕ) → done ≡ Some completion → completion.from ≡ Some source → chains source ≡ others source)
    → chain_of place done chains ≡ chain_of place done others
same_chain place None chains others same = refl
same_chain place (Some done) chains others same = ap (λ rest. cond (is_exceptional done.outcome) (place ∷ rest) []) (after done.from (λ source is. same done source refl is)) where
  after : (from : Option ℕ) → ((source : ℕ) → from ≡ Some source → chains source ≡ others source) → chain_after chains from ≡ chain_after others from
  after None same = refl
  after (Some source) same = same source refl

-- the blamed source of a live stage is one of its feeds
module _ (step : Stage → (ℕ → Option Completion) → State) (decide : ReadsDecide step) (blames : (stage : Stage) (inputs : ℕ → Option Completion) → BlamesRead stage (step stage inputs))
    (graph : PlainGraph) (sound : IsSound graph) (ranked : IsRanked graph.places) where
  blamed_feed : (stage : Stage) (state : State) → BlamesRead stage state → (completion : Done) (source : ℕ) → state.done ≡ Some completion → completion.from ≡ Some source → Contains (feeds_of stage) source
  blamed_feed stage state read completion source here is = of_from completion.from (subst (λ (done : Option Done). IfSome done (λ done. IfSome done.from (IsReadBy stage state.reads))) here read) is where
    of_from : (from : Option ℕ) → IfSome from (IsReadBy stage state.reads) → from ≡ Some source → Contains (feeds_of stage) source
    of_from None read is = cc
    of_from (Some other) read is = read_is_feed stage state.reads source (subst (λ (from : Option ℕ). IfSome from (IsReadBy stage state.reads)) is read)

  same_chains : (stage : Stage) (place : ℕ) → stage_at graph.places place ≡ Some stage → (chains others : ℕ → List ℕ)
      → ((feed : ℕ) → Contains (feeds_of stage) feed → chains feed ≡ others feed)
      → chain_step (at step graph.places) stage chains ≡ chain_step (at step graph.places) stage others
  same_chains stage place here chains others same =
      let state = at step graph.places stage.place in
      let own : stage_at graph.places stage.place ≡ Some stage = ap (stage_at graph.places) (sound.stages place stage here).own_place ∙ here in
      let is : state ≡ step stage (seen_at (at step graph.places)) = at_stage step decide graph.places ranked stage.place stage own in
      same_chain stage.place state.done chains others
      (λ completion source here blamed. same source (blamed_feed stage state (subst (BlamesRead stage) (sym is) (blames stage (seen_at (at step graph.places)))) completion source here blamed))

  chains_settled : (levels place : ℕ) → (Walk graph.places levels place → ⊥)
      → from_feeds [] (chain_step (at step graph.places)) graph.places levels place ≡ from_feeds [] (chain_step (at step graph.places)) graph.places (suc levels) place
  chains_settled zero place short =
      let far : length graph.places ≤ place = omega arith in
      ap (step_at [] (chain_step (at step graph.places)) (from_feeds [] (chain_step (at step graph.places)) graph.places zero)) (sym (get_or_past graph.places place None far))
  chains_settled (suc levels) place short =
      settled_at (λ feed here. chains_settled levels feed (λ walk. short (feed, here, walk))) (stage_at graph.places place) refl where
        settled_at : ((feed : ℕ) → Contains (feeds_at graph.places place) feed
            → from_feeds [] (chain_step (at step graph.places)) graph.places levels feed ≡ from_feeds [] (chain_step (at step graph.places)) graph.places (suc levels) feed)
            → (here : Option Stage) → stage_at graph.places place ≡ here
            → step_at [] (chain_step (at step graph.places)) (from_feeds [] (chain_step (at step graph.places)) graph.places levels) here
            ≡ step_at [] (chain_step (at step graph.places)) (from_feeds [] (chain_step (at step graph.places)) graph.places (suc levels)) here
        settled_at same None nothing = refl
        settled_at same (Some stage) here =
            same_chains stage place here _ _ (λ feed among. same feed (subst (λ (feeds : List ℕ). Contains feeds feed) (sym (ap feeds_of_place here)) among))

  pub chains_follow : (place : ℕ) → chain step graph.places place ≡ chain_of place (at step graph.places place).done (chain step graph.places)
  chains_follow place = chains_settled (length graph.places) place (ranked place) ∙ unfolded (stage_at graph.places place) refl where
    unfolded : (here : Option Stage) → stage_at graph.places place ≡ here
        → step_at [] (chain_step (at step graph.places)) (chain step graph.places) here ≡ chain_of place (at step graph.places place).done (chain step graph.places)
    unfolded None nothing = ap (λ (state : State). chain_of place state.done (chain step graph.places)) (sym (nothing_at step graph.places place nothing (length graph.places)))
    unfolded (Some stage) here = ap (λ place. chain_of place (at step graph.places place).done (chain step graph.places)) (sound.stages place stage here).own_place

  -- chains that continue as the states say, from level to level
  chains_agree : (chains : ℕ → List ℕ) → ((place : ℕ) → chains place ≡ chain_of place (at step graph.places place).done chains)
      → (levels place : ℕ) → (Walk graph.places levels place → ⊥) → chains place ≡ from_feeds [] (chain_step (at step graph.places)) graph.places levels place
  chains_agree chains goes zero place short =
      let far : length graph.places ≤ place = omega arith in
      goes place ∙ ap (λ (state : State). chain_of place state.done chains) (nothing_at step graph.places place (get_or_past graph.places place None far) (length graph.places))
  chains_agree chains goes (suc levels) place short =
      agrees_at (λ feed here. chains_agree chains goes levels feed (λ walk. short (feed, here, walk))) (stage_at graph.places place) refl where
        agrees_at : ((feed : ℕ) → Contains (feeds_at graph.places place) feed → chains feed ≡ from_feeds [] (chain_step (at step graph.places)) graph.places levels feed)
            → (here : Option Stage) → stage_at graph.places place ≡ here
            → chains place ≡ step_at [] (chain_step (at step graph.places)) (from_feeds [] (chain_step (at step graph.places)) graph.places levels) here
        agrees_at same None nothing = goes place ∙ ap (λ (state : State). chain_of place state.done chains) (nothing_at step graph.places place nothing (length graph.places))
        agrees_at same (Some stage) here =
            goes place
            ∙ ap (λ place. chain_of place (at step graph.places place).done chains) (sym (sound.stages place stage here).own_place)
            ∙ same_chains stage place here chains _ (λ feed among. same feed (subst (λ (feeds : List ℕ). Contains feeds feed) (sym (ap feeds_of_place here)) among))

  -- chains that continue as the states say are those of the graph
  pub chains_alone : (chains : ℕ → List ℕ) → ((place : ℕ) → chains place ≡ chain_of place (at step graph.places place).done chains) → (place : ℕ) → chain step graph.places place ≡ chains place
  chains_alone chains goes place = sym (chains_agree chains goes (length graph.places) place (ranked place))
