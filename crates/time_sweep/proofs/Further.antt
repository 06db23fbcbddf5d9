-- What reaches the target, over one stage more.
use Rattle.std.proofs.Common.{◌≡◌, ℕ, zero, suc, ◌+◌, ◌<◌, ◌≤◌, Bool, true, false, not, List, Option, Some, None, inl, inr, length, get_or, take, refl, ap, sym, ◌∙◌, subst, ⊎_elim, arith, replicate, slice_set}
use Rattle.std.specs.Prelude.{Contains, is_some, ◌==◌, ◌&&◌}
use Rattle.std.proofs.lemmas.Bool.{and_from, and_parts, cases_Bool, cases_lt, eqb-true, false≢true, not_from_false, or_cases, true≢false}
use Rattle.std.proofs.lemmas.List.{get_or-replicate, get_or_past, length-replicate}
use Rattle.std.proofs.lemmas.List.Folds.{list_any_more}
use Rattle.std.proofs.lemmas.Option.{same_Some}
use Rattle.rank_order.specs.Lists.{is_among}
use Rattle.stage_graph.specs.Plain.{PlainGraph, dependents, feeds_at, stage_at}
use Rattle.stage_graph.specs.Walk.{rank, IsRanked}
use Rattle.stage_graph.specs.declared.stage.Stage.{Stage}
use Rattle.stage_graph.proofs.Lists.{same_function, set_cases}
use Rattle.act_expr.specs.declared.outcome.Mode.{Mode}
use Rattle.stage_ops.specs.declared.state.Reads.{Reads}
use Rattle.stage_ops.specs.declared.state.Reads.TheVariants.{Sources}
use Rattle.stage_ops.specs.declared.state.State.{State}
use Rattle.stage_ops.specs.Evaluation.{at}
use Rattle.stage_ops.specs.Java.{java_step}
use Rattle.stage_ops.specs.JavaLaws.{java_reads_decide}
use Rattle.stage_ops.specs.States.{seen_at, state_at}
use Rattle.propagate.specs.Reach.{AreStates, Stages, Step, come_to, has_read, read_places, reads_at, reads_of}
use Rattle.propagate.proofs.Members.{among_contains, contains_among}
use Rattle.propagate.proofs.Ranks.{rank_feed}
use Rattle.propagate.proofs.Reading.{among_readers, among_readers_all}
use Rattle.propagate.proofs.Scratch.{reads_are_feeds, scratch_meets}
use Rattle.time_sweep.specs.HandedOn.{handed_at, through, AreHandedOn, IsHandedOn, IsReached, Reaches}
use Rattle.time_sweep.specs.Known.{IsKnown, rank_in}
use Rattle.time_sweep.specs.Sooner.{HandsOn}

-- ---- a stage hands on what it hands on as a stage of the graph

module _ (graph : PlainGraph) (ranked : IsRanked graph.places) (ranks : List (Option ℕ)) (before : List State) (states : AreStates (java_step graph.mode) graph.places before) where
  same_states : state_at before ≡ at (java_step graph.mode) graph.places
  same_states = same_function (λ place. states.each place)

  module _ (place : ℕ) (stage : Stage) (stands : stage_at graph.places place ≡ Some stage) (sources : (state_at before place).reads ≡ Sources) where
    own_reads : (at (java_step graph.mode) graph.places place).reads ≡ Sources
    own_reads = sym (ap (λ (state : State). state.reads) (states.each place)) ∙ sources

    own_state : at (java_step graph.mode) graph.places place ≡ java_step graph.mode stage (seen_at (state_at before))
    own_state =
        scratch_meets (java_reads_decide graph.mode) graph.places ranked place
        ∙ ap (λ (here : Option Stage). come_to (java_step graph.mode) here (at (java_step graph.mode) graph.places)) stands
        ∙ ap (λ states. java_step graph.mode stage (seen_at states)) (sym same_states)

    reads_source : (feed : ℕ) → Contains stage.sources feed → has_read graph.places (at (java_step graph.mode) graph.places) feed place ≡ true
    reads_source feed here =
        ap (λ (here : Option Stage). is_among feed (reads_of here (at (java_step graph.mode) graph.places place).reads)) stands
        ∙ ap (λ (reads : Reads). is_among feed (read_places stage reads)) own_reads
        ∙ contains_among feed stage.sources here

    pub handed_by_stage : (feed most : ℕ) → IsKnown ranks place → Contains stage.sources feed
        → ((mode : Mode) → (java_step mode stage (seen_at (state_at before))).reads ≡ Sources → HandsOn (java_step mode) stage (seen_at (state_at before)) feed most)
        → ((other : ℕ) → IsKnown ranks other → has_read graph.places (state_at before) feed other ≡ true → other ≡ place)
        → IsHandedOn (java_step graph.mode) graph.places ranks feed place most
    handed_by_stage feed most known source hands only = record {
      stage = stage;
      stands = stands;
      known = known;
      reads = reads_source feed source;
      only = λ other here read. only other here (ap (λ states. has_read graph.places states feed other) same_states ∙ read);
      hands_on = subst (λ states. HandsOn (java_step graph.mode) stage (seen_at states) feed most) same_states
          (hands graph.mode (sym (ap (λ (state : State). state.reads) own_state) ∙ own_reads));
    }

    -- what is known of the stage's feeds is known before the only reader is
    pub source_feed : (feed : ℕ) → Contains stage.sources feed → Contains (feeds_at graph.places place) feed
    source_feed feed here =
        reads_are_feeds (stage_at graph.places place) (at (java_step graph.mode) graph.places place).reads feed
        (among_contains feed (reads_at (java_step graph.mode) graph.places place) (reads_source feed here))

-- ---- the only reader of a place

module _ (reads_it : ℕ → Bool) (reader : ℕ) where
  -- of the first dependents
  abbrev pub IsOnlyOf : List ℕ → Type 0
  IsOnlyOf dependents = (s : ℕ) → among_readers reads_it dependents s ≡ true → s ≡ reader

  pub only_more : (dependents : List ℕ) (k : ℕ) → k < length dependents → IsOnlyOf (take k dependents)
      → (not (get_or dependents k 0 == reader) && reads_it (get_or dependents k 0)) ≡ false → IsOnlyOf (take (k + 1) dependents)
  only_more dependents k within only other s is =
      let dependent = get_or dependents k 0 in
      ⊎_elim
      (λ earlier. only s earlier)
      (λ here.
      let parts = and_parts (s == dependent) (reads_it dependent) here in
      let same : (dependent == reader) ≡ true =
      ⊎_elim
      (λ e. e)
      (λ apart. absurd (true≢false (sym (and_from (not (dependent == reader)) (reads_it dependent) (not_from_false (dependent == reader) apart) parts.1) ∙ other)))
      (cases_Bool (dependent == reader)) in
      eqb-true s dependent parts.0 ∙ eqb-true dependent reader same)
      (or_cases (among_readers reads_it (take k dependents) s) ((s == dependent) && reads_it dependent)
      (sym (list_any_more (λ dependent. (s == dependent) && reads_it dependent) dependents k 0 within) ∙ is))

-- of all of them
pub only_reader : (stages : Stages) (ranks : List (Option ℕ)) (states : ℕ → State) (feed reader : ℕ)
    → IsOnlyOf (λ s. is_some (rank_in ranks s) && has_read stages states feed s) reader (dependents stages feed)
    → (other : ℕ) → IsKnown ranks other → has_read stages states feed other ≡ true → other ≡ reader
only_reader stages ranks states feed reader only other known read =
    only other
    (among_readers_all stages (λ s. is_some (rank_in ranks s) && has_read stages states feed s) feed other
    ∙ and_from (is_among feed (feeds_at stages other)) (is_some (rank_in ranks other) && has_read stages states feed other)
    (contains_among feed (feeds_at stages other) (reads_are_feeds (stage_at stages other) (states other).reads feed (among_contains feed (reads_of (stage_at stages other) (states other).reads) read)))
    (and_from (is_some (rank_in ranks other)) (has_read stages states feed other) known read))

-- ---- the way from the target

-- the feed is one, and stands below the stage
pub handed_feed : {step : Step} {stages : Stages} {ranks : List (Option ℕ)} {feed place most : ℕ} → IsHandedOn step stages ranks feed place most → Contains (feeds_at stages place) feed
handed_feed {step} {stages} {ranks} {feed} {place} handed =
    reads_are_feeds (stage_at stages place) (at step stages place).reads feed (among_contains feed (reads_at step stages place) handed.reads)

pub handed_below : {step : Step} {stages : Stages} {ranks : List (Option ℕ)} {feed place most : ℕ} → IsRanked stages → IsHandedOn step stages ranks feed place most → rank stages feed < rank stages place
handed_below {step} {stages} {ranks} {feed} {place} ranked handed = rank_feed stages ranked place feed (handed_feed handed)

-- one stage more
pub reaches_further : {step : Step} {stages : Stages} {ranks : List (Option ℕ)} {target feed place own : ℕ} (later : Option ℕ)
    → IsHandedOn step stages ranks feed place own → IsReached step stages ranks target place later → Reaches step stages ranks target feed (through later own)
reaches_further {step} {stages} {ranks} {target} {feed} {place} {own} None handed here = (zero, subst (λ next. IsHandedOn step stages ranks feed next own) here handed)
reaches_further {step} {stages} {ranks} {target} {feed} {place} {own} (Some later) handed reaches =
    (suc reaches.0, (record { next = place; own = own; later = later; here = handed; least = refl }, reaches.1))

-- nothing is known at first
pub none_handed : {step : Step} {stages : Stages} {ranks : List (Option ℕ)} {target : ℕ} (count : ℕ) (handed : List (Option ℕ)) → handed ≡ replicate count None → AreHandedOn step stages ranks target handed
none_handed count handed none place most here =
    let nothing : handed_at (replicate count None) place ≡ None =
    ⊎_elim
    (λ within. get_or-replicate count place None None within)
    (λ past. let long : length (replicate {A = Option ℕ} count None) ≡ count = length-replicate count None in
    let beyond : length (replicate {A = Option ℕ} count None) ≤ place = omega (arith, long, past) in get_or_past (replicate count None) place None beyond)
    (cases_lt place count) in
    absurd (false≢true (ap is_some (sym nothing ∙ ap (λ (handed : List (Option ℕ)). handed_at handed place) (sym none) ∙ here)))

-- one place more is known
pub one_handed : {step : Step} {stages : Stages} {ranks : List (Option ℕ)} {target : ℕ} (handed : List (Option ℕ)) (feed most : ℕ) → feed < length handed → AreHandedOn step stages ranks target handed
    → Reaches step stages ranks target feed most → AreHandedOn step stages ranks target (slice_set handed feed (Some most))
one_handed {step} {stages} {ranks} {target} handed feed most within known reaches place ticks here = elim (set_cases handed feed place (Some most) None within) [
  | inl (same, now) ↦
      subst (λ place. Reaches step stages ranks target place ticks) (sym same)
      (subst (λ ticks. Reaches step stages ranks target feed ticks) (same_Some most ticks (sym now ∙ here)) reaches)
  | inr (differ, now) ↦ known place ticks (sym now ∙ here)
]
