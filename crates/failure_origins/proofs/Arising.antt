-- Where the exception of a stage arose, by where those of its sources did.
use Rattle.std.proofs.Common.{◌≡◌, ℕ, zero, suc, ◌+◌, ◌<◌, ◌≤◌, true, false, List, [], ◌∷◌, length, take, get_or, set, Option, Some, None, is_some, refl, ap, sym, ◌∙◌, subst, inl, inr, arith, length-set, get_or-set_same}
use Rattle.std.specs.Prelude.{Contains, All, IfSome, not, replicate}
use Rattle.std.proofs.lemmas.Bool.{cases_Bool, cases_lt, cond-true, cond-false, and_parts, and_from, false≢true}
use Rattle.std.proofs.lemmas.List.{get_or_past, get_or-replicate, length-replicate, take_all}
use Rattle.std.proofs.lemmas.List.Elements.{All-contains, All-more, All-weaker}
use Rattle.stage_graph.specs.declared.stage.Stage.{Stage}
use Rattle.stage_graph.specs.Plain.{PlainGraph, stage_at, feeds_at, feeds_of_place, IsLive}
use Rattle.stage_graph.specs.Sound.{IsSound}
use Rattle.stage_graph.specs.Walk.{from_feeds, step_at, IsRanked}
use Rattle.stage_graph.specs.Order.{IsFeedsFirst}
use Rattle.stage_graph.proofs.Placing.{place_from_live}
use Rattle.stage_graph.proofs.Lists.{set_cases}
use Rattle.stage_ops.specs.declared.state.State.{State}
use Rattle.stage_ops.specs.declared.state.Done.{Done}
use Rattle.stage_ops.specs.States.{seen_at, IsReadBy}
use Rattle.stage_ops.specs.Evaluation.{at, BlamesRead}
use Rattle.stage_ops.specs.Java.{java_step}
use Rattle.stage_ops.specs.JavaLaws.{java_reads_decide, java_blames_read}
use Rattle.stage_ops.specs.Sources.{is_exceptional}
use Rattle.scratch_eval.specs.Blame.{chain_after, chain_of, chain_step}
use Rattle.scratch_eval.proofs.Evaluating.{at_stage, read_is_feed}
use Rattle.scratch_eval.proofs.Querying.{chains_follow}
use Rattle.rank_order.specs.Lists.{is_among}
use Rattle.rank_order.proofs.Members.{among_here, among_later, among_cases}
use Rattle.version_store.specs.Queries.{state_of}
use Rattle.failure_origins.specs.Failures.{arises_in, is_origin, blame_of, holds}
use Rattle.failure_origins.specs.Origins.{origin_at, origin_after, origin_by, KnowsOrigin, AreOrigins}

-- the origins so far: of these places they are known, and of an empty one there is none
pub record AreOriginsSoFar (graph : PlainGraph) (found : List ℕ) (origins : List (Option ℕ)) : Type 0 where
  pub long : length origins ≡ length graph.places
  pub empty : (place : ℕ) → stage_at graph.places place ≡ None → origin_at origins place ≡ None
  pub known : All (λ place. KnowsOrigin graph place (origin_at origins place)) found

-- an empty place has no chain
empty_chain : (states : ℕ → State) (places : List (Option Stage)) (place : ℕ) → stage_at places place ≡ None → (levels : ℕ) → from_feeds [] (chain_step states) places levels place ≡ []
empty_chain states places place nothing zero = refl
empty_chain states places place nothing (suc levels) = ap (step_at [] (chain_step states) (from_feeds [] (chain_step states) places levels)) nothing

-- an exception arises in a completion that blames nobody
arises_blameless : (done : Done) → is_exceptional done.outcome ≡ true → done.from ≡ None → arises_in (Some done) ≡ true
arises_blameless done fails from = and_from (is_exceptional done.outcome) (not (is_some done.from)) fails (ap (λ (from : Option ℕ). not (is_some from)) from)

blameless : (from : Option ℕ) → not (is_some from) ≡ true → from ≡ None
blameless None is = refl
blameless (Some source) is = absurd (false≢true is)

-- it does so in no other
arises_parts : (done : Done) → arises_in (Some done) ≡ true → (is_exceptional done.outcome ≡ true) × (done.from ≡ None)
arises_parts done arises =
    let (fails, nobody) = and_parts (is_exceptional done.outcome) (not (is_some done.from)) arises in
    (fails, blameless done.from nobody)

module _ (graph : PlainGraph) where
  -- where nothing failed there is no origin
  none_known : (place : ℕ) → blame_of graph place ≡ [] → KnowsOrigin graph place None
  none_known place nothing = record {
    arose = tt;
    held = tt;
    only = λ origin is here. absurd (false≢true (ap (is_among origin) (sym nothing) ∙ here));
  }

  -- where the place blames nobody it is the place itself
  own_known : (place : ℕ) → is_origin graph place ≡ true → blame_of graph place ≡ place ∷ [] → KnowsOrigin graph place (Some place)
  own_known place arose alone = record {
    arose = arose;
    held = ap (is_among place) alone ∙ among_here place [];
    only = λ origin is here. elim (among_cases origin place [] (ap (is_among origin) (sym alone) ∙ here)) [
      | inl same ↦ ap (λ (place : ℕ). Some place) (sym same)
      | inr none ↦ absurd (false≢true none)
    ];
  }

  -- where it blames a source it is that of the source
  source_known : (place source : ℕ) (known : Option ℕ) → (is_origin graph place ≡ true → ⊥) → blame_of graph place ≡ place ∷ blame_of graph source → KnowsOrigin graph source known → KnowsOrigin graph place known
  source_known place source known carries goes are = record {
    arose = are.arose;
    held = carried known are.held;
    only = λ origin is here. elim (among_cases origin place (blame_of graph source) (ap (is_among origin) (sym goes) ∙ here)) [
      | inl same ↦ absurd (carries (ap (is_origin graph) (sym same) ∙ is))
      | inr later ↦ are.only origin is later
    ];
  } where
    carried : (known : Option ℕ) → IfSome known (λ origin. holds graph origin source ≡ true) → IfSome known (λ origin. holds graph origin place ≡ true)
    carried None held = tt
    carried (Some origin) held = ap (is_among origin) goes ∙ among_later origin place (blame_of graph source) held

  empty_known : (place : ℕ) → stage_at graph.places place ≡ None → KnowsOrigin graph place None
  empty_known place nothing = none_known place (empty_chain (at (java_step graph.mode) graph.places) graph.places place nothing (length graph.places))

  -- nothing is known at first
  pub found_none : (origins : List (Option ℕ)) → origins ≡ replicate (length graph.places) None → AreOriginsSoFar graph [] origins
  found_none origins is = record {
    long = ap length is ∙ length-replicate (length graph.places) None;
    empty = λ place nothing. ap (λ (origins : List (Option ℕ)). origin_at origins place) is ∙ none_at place;
    known = λ k d short. absurd (omega arith);
  } where
    none_at : (place : ℕ) → origin_at (replicate (length graph.places) None) place ≡ None
    none_at place = elim (cases_lt place (length graph.places)) [
      | inl within ↦ get_or-replicate (length graph.places) place None None within
      | inr past ↦
          let nothing : List (Option ℕ) = replicate (length graph.places) None in
          let long : length nothing ≡ length graph.places = length-replicate (length graph.places) None in
          get_or_past nothing place None (omega arith)
    ]

  -- all places are found
  pub found_all : (order : List ℕ) (i : ℕ) (origins : List (Option ℕ)) → IsFeedsFirst graph.places order → length order ≤ i → AreOriginsSoFar graph (take i order) origins → AreOrigins graph origins
  found_all order i origins first past are = record { long = are.long; each = λ place. by_stage place (stage_at graph.places place) refl } where
    by_stage : (place : ℕ) (here : Option Stage) → stage_at graph.places place ≡ here → KnowsOrigin graph place (origin_at origins place)
    by_stage place None here = subst (KnowsOrigin graph place) (sym (are.empty place here)) (empty_known place here)
    by_stage place (Some stage) here =
        let taken : Contains (take i order) place = subst (λ (xs : List ℕ). Contains xs place) (sym (take_all i order past)) (first.all place (ap (λ (here : Option Stage). is_some here) here)) in
        All-contains (λ other. KnowsOrigin graph other (origin_at origins other)) (take i order) place are.known taken

module _ (graph : PlainGraph) (sound : IsSound graph) (ranked : IsRanked graph.places) where
  goes_on : (place : ℕ) → blame_of graph place ≡ chain_of place (state_of graph place).done (blame_of graph)
  goes_on place = chains_follow (java_step graph.mode) (java_reads_decide graph.mode) (java_blames_read graph.mode) graph sound ranked place

  -- the chain of an exceptional completion begins with its place
  goes_from : (place : ℕ) (done : Done) → (state_of graph place).done ≡ Some done → is_exceptional done.outcome ≡ true → blame_of graph place ≡ place ∷ chain_after (blame_of graph) done.from
  goes_from place done is fails =
      goes_on place ∙ ap (λ (done : Option Done). chain_of place done (blame_of graph)) is
      ∙ cond-true (is_exceptional done.outcome) (place ∷ chain_after (blame_of graph) done.from) [] fails

  stops_at : (place : ℕ) (done : Done) → (state_of graph place).done ≡ Some done → is_exceptional done.outcome ≡ false → blame_of graph place ≡ []
  stops_at place done is fine =
      goes_on place ∙ ap (λ (done : Option Done). chain_of place done (blame_of graph)) is
      ∙ cond-false (is_exceptional done.outcome) (place ∷ chain_after (blame_of graph) done.from) [] fine

  -- an origin holds its own exception
  pub holds_own : (place : ℕ) → is_origin graph place ≡ true → holds graph place place ≡ true
  holds_own place is =
      by_done (state_of graph place).done refl (and_parts (is_some (stage_at graph.places place)) (arises_in (state_of graph place).done) is).1 where
        by_done : (done : Option Done) → (state_of graph place).done ≡ done → arises_in done ≡ true → holds graph place place ≡ true
        by_done None here arises = absurd (false≢true arises)
        by_done (Some done) here arises =
            ap (is_among place) (goes_from place done here (arises_parts done arises).0) ∙ among_here place (chain_after (blame_of graph) done.from)

  -- the feed that is blamed
  blamed_feed : (place : ℕ) (stage : Stage) → stage_at graph.places place ≡ Some stage → (done : Done) (source : ℕ) → (state_of graph place).done ≡ Some done → done.from ≡ Some source
      → Contains (feeds_at graph.places place) source
  blamed_feed place stage here done source is from =
      let state = state_of graph place in
      let came : state ≡ java_step graph.mode stage (seen_at (state_of graph)) = at_stage (java_step graph.mode) (java_reads_decide graph.mode) graph.places ranked place stage here in
      let blames : BlamesRead stage state = subst (BlamesRead stage) (sym came) (java_blames_read graph.mode stage (seen_at (state_of graph))) in
      let read : IfSome done.from (IsReadBy stage state.reads) = subst (λ (done : Option Done). IfSome done (λ done. IfSome done.from (IsReadBy stage state.reads))) is blames in
      subst (λ (here : Option Stage). Contains (feeds_of_place here) source) (sym here)
      (read_is_feed stage state.reads source (subst (λ (from : Option ℕ). IfSome from (IsReadBy stage state.reads)) from read))

  -- the origin of a stage, where those of its feeds are known
  stage_origin : (place : ℕ) (stage : Stage) → stage_at graph.places place ≡ Some stage → (origins : List (Option ℕ)) → ((feed : ℕ) → Contains (feeds_at graph.places place) feed → KnowsOrigin graph feed (origin_at origins feed))
      → KnowsOrigin graph place (origin_by origins place (state_of graph place).done)
  stage_origin place stage here origins known = by_done (state_of graph place).done refl where
    by_from : (done : Done) → (state_of graph place).done ≡ Some done → is_exceptional done.outcome ≡ true → (from : Option ℕ) → done.from ≡ from → KnowsOrigin graph place (origin_after origins place from)
    by_from done is fails None nobody =
        own_known graph place
        (and_from (is_some (stage_at graph.places place)) (arises_in (state_of graph place).done) (ap (λ (here : Option Stage). is_some here) here) (ap arises_in is ∙ arises_blameless done fails nobody))
        (goes_from place done is fails ∙ ap (λ (from : Option ℕ). place ∷ chain_after (blame_of graph) from) nobody)
    by_from done is fails (Some source) blamed =
        source_known graph place source (origin_at origins source)
        (λ arose.
        let arises : arises_in (Some done) ≡ true = sym (ap arises_in is) ∙ (and_parts (is_some (stage_at graph.places place)) (arises_in (state_of graph place).done) arose).1 in
        let nobody : done.from ≡ None = (arises_parts done arises).1 in
        let both : ◌≡◌ {A = Option ℕ} None (Some source) = sym nobody ∙ blamed in
        cc)
        (goes_from place done is fails ∙ ap (λ (from : Option ℕ). place ∷ chain_after (blame_of graph) from) blamed)
        (known source (blamed_feed place stage here done source is blamed))

    by_done : (done : Option Done) → (state_of graph place).done ≡ done → KnowsOrigin graph place (origin_by origins place done)
    by_done None is = none_known graph place (goes_on place ∙ ap (λ (done : Option Done). chain_of place done (blame_of graph)) is)
    by_done (Some done) is = elim (cases_Bool (is_exceptional done.outcome)) [
      | inl fails ↦ subst (KnowsOrigin graph place) (sym (cond-true (is_exceptional done.outcome) (origin_after origins place done.from) None fails)) (by_from done is fails done.from refl)
      | inr fine ↦ subst (KnowsOrigin graph place) (sym (cond-false (is_exceptional done.outcome) (origin_after origins place done.from) None fine)) (none_known graph place (stops_at place done is fine))
    ]

  -- the same of a live place
  found_origin : (place : ℕ) → IsLive graph.places place → (origins : List (Option ℕ)) → ((feed : ℕ) → Contains (feeds_at graph.places place) feed → KnowsOrigin graph feed (origin_at origins feed))
      → KnowsOrigin graph place (origin_by origins place (state_of graph place).done)
  found_origin place live origins known = by_stage (stage_at graph.places place) refl where
    by_stage : (here : Option Stage) → stage_at graph.places place ≡ here → KnowsOrigin graph place (origin_by origins place (state_of graph place).done)
    by_stage None here = absurd (false≢true (ap (λ (here : Option Stage). is_some here) (sym here) ∙ live))
    by_stage (Some stage) here = stage_origin place stage here origins known

  -- the origin of one more place, of which the feeds have theirs
  pub found_more : (order : List ℕ) (i : ℕ) (origins : List (Option ℕ)) (told : Option ℕ) → IsFeedsFirst graph.places order → i < length order
      → AreOriginsSoFar graph (take i order) origins → told ≡ origin_by origins (get_or order i 0) (state_of graph (get_or order i 0)).done
      → AreOriginsSoFar graph (take (i + 1) order) (set origins (get_or order i 0) told)
  found_more order i origins told first inside are is =
      let place = get_or order i 0 in
      let live : IsLive graph.places place = first.live i 0 inside in
      let within : place < length origins = (let low : place < length graph.places = place_from_live graph.places place live in omega (arith, are.long)) in
      let new : KnowsOrigin graph place told =
      subst (KnowsOrigin graph place) (sym is) (found_origin place live origins (λ feed among.
      All-contains (λ other. KnowsOrigin graph other (origin_at origins other)) (take i order) feed are.known (All-contains (Contains (take i order)) (feeds_at graph.places place) feed (first.feeds i inside) among))) in
      let keep : (other : ℕ) → KnowsOrigin graph other (origin_at origins other) → KnowsOrigin graph other (origin_at (set origins place told) other) = λ other was.
      elim (set_cases origins place other told None within) [
        | inl (same, now) ↦ subst (KnowsOrigin graph other) (sym now) (subst (λ (other : ℕ). KnowsOrigin graph other told) (sym same) new)
        | inr (apart, now) ↦ subst (KnowsOrigin graph other) (sym now) was
      ] in
      record {
        long = length-set origins place told ∙ are.long;
        empty = λ other nothing. elim (set_cases origins place other told None within) [
          | inl (same, now) ↦ absurd (false≢true (ap (λ (here : Option Stage). is_some here) (sym nothing) ∙ ap (λ (other : ℕ). is_some (stage_at graph.places other)) same ∙ live))
          | inr (apart, now) ↦ now ∙ are.empty other nothing
        ];
        known = All-more (λ other. KnowsOrigin graph other (origin_at (set origins place told) other)) order i 0 inside
            (All-weaker (λ other. KnowsOrigin graph other (origin_at origins other)) (λ other. KnowsOrigin graph other (origin_at (set origins place told) other)) keep (take i order) are.known)
            (subst (KnowsOrigin graph place) (sym (get_or-set_same origins place told None within)) new);
      }
