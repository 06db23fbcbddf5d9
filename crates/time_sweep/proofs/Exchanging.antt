-- The graph with other stages in place of those that stand there.
use Rattle.std.proofs.Common.{◌≡◌, ◌≢◌, ◌<◌, ℕ, zero, suc, ◌++◌, [], ◌∷◌, Option, Some, None, true, false, refl, ap, sym, ◌∙◌, arith, List, length, get_or, subst, inl, inr, ⊎_elim}
use Rattle.std.specs.Prelude.{Contains, is_some, slice_get, slice_set, ◌==◌}
use Rattle.std.specs.Option.{option_map, option_to_list}
use Rattle.std.proofs.Math.ListN.{length-set}
use Rattle.std.proofs.lemmas.Bool.{cases_Bool, cond-false, cond-true, eq-eqb, eqb-true, true≢false}
use Rattle.std.proofs.lemmas.List.{set-get_or}
use Rattle.std.proofs.lemmas.List.Elements.{All-cons, All-head, All-nil, All-tail}
use Rattle.std.proofs.lemmas.Option.{same_Some}
use Rattle.stage_graph.specs.declared.stage.Stage.{Stage}
use Rattle.stage_graph.specs.Plain.{PlainGraph, stage_at, has_name, feeds_at, feeds_of, feeds_of_place, IsLive}
use Rattle.stage_graph.specs.Sound.{IsSound, IsSoundStage}
use Rattle.stage_graph.specs.Walk.{Walk, IsRanked}
use Rattle.stage_graph.proofs.Lists.{set_cases}
use Rattle.stage_graph.proofs.Placing.{live_from_name, named_at, names_after_replace, sound_after_replace}
use Rattle.stage_ops.specs.declared.state.Reads.{Reads}
use Rattle.stage_ops.specs.declared.state.Reads.TheVariants.{Nothing, Sources, Picked}
use Rattle.stage_ops.specs.Among.{IsSoundAmong}
use Rattle.propagate.specs.Reach.{reads_of}
use Rattle.propagate.proofs.Members.{false_unless}
use Rattle.propagate.proofs.Ranks.{live_within}
use Rattle.time_sweep.specs.WithStage.{is_changed, stage_among, with_stage, with_stages, AreFitting, IsFitting}
use Rattle.time_sweep.proofs.ChangedStages.{among_all, among_place, ascend_head, ascend_tail, is_changed_among, none_among}
use Rattle.time_sweep.proofs.Settling.{IsExchange}

-- the feeds of a sound stage are among the places
pub sound_among : (places : List (Option Stage)) (place : ℕ) (stage : Stage) (count : ℕ) → count ≡ length places → IsSoundStage places place stage → IsSoundAmong count stage
sound_among places place stage count size sound = record {
  lawful = sound.lawful;
  feeds = λ k d short. let inside = live_within places (get_or (feeds_of stage) k d) (sound.live_feeds k d short) in omega (arith, size, inside);
}

-- ---- a stage has the feeds of the one that stands there

same_feeds : (here : Option Stage) (stage : Stage) → option_map (λ (here : Stage). here.sources) here ≡ Some stage.sources → option_map (λ (here : Stage). here.inner) here ≡ Some stage.inner
    → feeds_of stage ≡ feeds_of_place here
same_feeds None stage sources inner = cc
same_feeds (Some old) stage sources inner =
    ap (λ (places : List ℕ). places ++ stage.inner) (sym (same_Some old.sources stage.sources sources))
    ∙ ap (λ (places : List ℕ). old.sources ++ places) (sym (same_Some old.inner stage.inner inner))

-- with the same reads it has read the same places
same_reads : (here : Option Stage) (stage : Stage) → option_map (λ (here : Stage). here.sources) here ≡ Some stage.sources → option_map (λ (here : Stage). here.inner) here ≡ Some stage.inner
    → (reads : Reads) → reads_of (Some stage) reads ≡ reads_of here reads
same_reads None stage sources inner reads = cc
same_reads (Some old) stage sources inner Nothing = refl
same_reads (Some old) stage sources inner Sources = sym (same_Some old.sources stage.sources sources)
same_reads (Some old) stage sources inner (Picked index) =
    ap (λ (places : List ℕ). places ++ option_to_list (slice_get stage.inner index)) (sym (same_Some old.sources stage.sources sources))
    ∙ ap (λ (places : List ℕ). old.sources ++ option_to_list (slice_get places index)) (sym (same_Some old.inner stage.inner inner))

module _ (graph : PlainGraph) (stage : Stage) (fits : IsFitting graph.places stage) where
  named : has_name stage.name (stage_at graph.places stage.place) ≡ true
  named = (named_at graph.places stage.name stage.place fits.sound.by_name).1

  within : stage.place < length graph.places
  within = (named_at graph.places stage.name stage.place fits.sound.by_name).0

  pub fits_live : IsLive graph.places stage.place
  fits_live = live_from_name stage.name (stage_at graph.places stage.place) named

  pub with_sound : IsSound graph → IsSound (with_stage graph stage)
  with_sound sound = sound_after_replace graph.mode graph.places stage named fits.sound sound

  pub with_feeds : (s : ℕ) → feeds_at (with_stage graph stage).places s ≡ feeds_at graph.places s
  with_feeds s = elim (set_cases graph.places stage.place s (Some stage) None within) [
    | inl (at, now) ↦ ap feeds_of_place now ∙ same_feeds (stage_at graph.places stage.place) stage fits.sources fits.inner ∙ sym (ap (λ (place : ℕ). feeds_at graph.places place) at)
    | inr (differ, now) ↦ ap feeds_of_place now
  ]

  pub with_elsewhere : (s : ℕ) → s ≢ stage.place → stage_at (with_stage graph stage).places s ≡ stage_at graph.places s
  with_elsewhere s other = elim (set_cases graph.places stage.place s (Some stage) None within) [
    | inl (at, now) ↦ absurd (other at)
    | inr (differ, now) ↦ now
  ]

  -- with the same reads a stage has read the same places
  pub with_reads : (s : ℕ) (reads : Reads) → reads_of (stage_at (with_stage graph stage).places s) reads ≡ reads_of (stage_at graph.places s) reads
  with_reads s reads = elim (set_cases graph.places stage.place s (Some stage) None within) [
    | inl (at, now) ↦
        ap (λ (here : Option Stage). reads_of here reads) now
        ∙ same_reads (stage_at graph.places stage.place) stage fits.sources fits.inner reads
        ∙ sym (ap (λ (place : ℕ). reads_of (stage_at graph.places place) reads) at)
    | inr (differ, now) ↦ ap (λ (here : Option Stage). reads_of here reads) now
  ]

  long : length (with_stage graph stage).places ≡ length graph.places
  long = length-set graph.places stage.place (Some stage)

  walk_same : (steps place : ℕ) → Walk (with_stage graph stage).places steps place → Walk graph.places steps place
  walk_same zero place walk = omega (arith, long, walk)
  walk_same (suc steps) place (feed, c, walk) = (feed, subst (λ feeds. Contains feeds feed) (with_feeds place) c, walk_same steps feed walk)

  pub with_ranked : IsRanked graph.places → IsRanked (with_stage graph stage).places
  with_ranked ranked place walk = ranked place (walk_same (length graph.places) place (subst (λ steps. Walk (with_stage graph stage).places steps place) long walk))

  pub exchange : IsRanked graph.places → IsExchange graph.places (with_stage graph stage).places (λ place. place == stage.place)
  exchange ranked = record {
    old_ranked = ranked;
    new_ranked = with_ranked ranked;
    feeds = with_feeds;
    elsewhere = λ s other. with_elsewhere s (λ same. true≢false (sym (eq-eqb s stage.place same) ∙ other));
  }

  with_here : stage_at (with_stage graph stage).places stage.place ≡ Some stage
  with_here = elim (set_cases graph.places stage.place stage.place (Some stage) None within) [
    | inl (at, now) ↦ now
    | inr (differ, now) ↦ absurd (differ refl)
  ]

  with_live : (feed : ℕ) → IsLive graph.places feed → IsLive (with_stage graph stage).places feed
  with_live feed live = elim (set_cases graph.places stage.place feed (Some stage) None within) [
    | inl (at, now) ↦ ap is_some now
    | inr (differ, now) ↦ ap is_some now ∙ live
  ]

  -- what fits into the graph still does
  module _ (other : Stage) (also : IsFitting graph.places other) where
    other_sources : option_map (λ (here : Stage). here.sources) (stage_at (with_stage graph stage).places other.place) ≡ Some other.sources
    other_sources = elim (set_cases graph.places stage.place other.place (Some stage) None within) [
      | inl (at, now) ↦
          ap (option_map (λ (here : Stage). here.sources)) now
          ∙ sym fits.sources
          ∙ sym (ap (λ (place : ℕ). option_map (λ (here : Stage). here.sources) (stage_at graph.places place)) at)
          ∙ also.sources
      | inr (differ, now) ↦ ap (option_map (λ (here : Stage). here.sources)) now ∙ also.sources
    ]

    other_inner : option_map (λ (here : Stage). here.inner) (stage_at (with_stage graph stage).places other.place) ≡ Some other.inner
    other_inner = elim (set_cases graph.places stage.place other.place (Some stage) None within) [
      | inl (at, now) ↦
          ap (option_map (λ (here : Stage). here.inner)) now
          ∙ sym fits.inner
          ∙ sym (ap (λ (place : ℕ). option_map (λ (here : Stage). here.inner) (stage_at graph.places place)) at)
          ∙ also.inner
      | inr (differ, now) ↦ ap (option_map (λ (here : Stage). here.inner)) now ∙ also.inner
    ]

    pub still_fits : IsFitting (with_stage graph stage).places other
    still_fits = record {
      sound = record {
        lawful = also.sound.lawful;
        own_place = also.sound.own_place;
        by_name = names_after_replace graph.mode graph.places stage named other.name ∙ also.sound.by_name;
        live_feeds = λ k d short. with_live (get_or (feeds_of other) k d) (also.sound.live_feeds k d short);
      };
      sources = other_sources;
      inner = other_inner;
    }

-- ---- several stages

-- a stage alone
pub fits_alone : (places : List (Option Stage)) (stage : Stage) → IsFitting places stage → AreFitting places (stage ∷ [])
fits_alone places stage fits = record {
  each = All-cons (IsFitting places) stage [] fits (All-nil (IsFitting places));
  ascend = λ i j d below short. absurd (omega arith);
}

-- the first of several, and the others in the graph with that one
pub first_fits : (places : List (Option Stage)) (stage : Stage) (stages : List Stage) → AreFitting places (stage ∷ stages) → IsFitting places stage
first_fits places stage stages fit = All-head (IsFitting places) stage stages fit.each

pub others_fit : (graph : PlainGraph) (stage : Stage) (stages : List Stage) → AreFitting graph.places (stage ∷ stages) → AreFitting (with_stage graph stage).places stages
others_fit graph stage stages fit = record {
  each = λ k d short.
      still_fits graph stage (first_fits graph.places stage stages fit) (get_or stages k d) (All-tail (IsFitting graph.places) stage stages fit.each k d short);
  ascend = ascend_tail stage stages fit.ascend;
}

pub all_sound : (graph : PlainGraph) (stages : List Stage) → AreFitting graph.places stages → IsSound graph → IsSound (with_stages graph stages)
all_sound graph [] fit sound = sound
all_sound graph (stage ∷ stages) fit sound =
    all_sound (with_stage graph stage) stages (others_fit graph stage stages fit) (with_sound graph stage (first_fits graph.places stage stages fit) sound)

pub all_feeds : (graph : PlainGraph) (stages : List Stage) → AreFitting graph.places stages → (s : ℕ) → feeds_at (with_stages graph stages).places s ≡ feeds_at graph.places s
all_feeds graph [] fit s = refl
all_feeds graph (stage ∷ stages) fit s =
    all_feeds (with_stage graph stage) stages (others_fit graph stage stages fit) s ∙ with_feeds graph stage (first_fits graph.places stage stages fit) s

pub all_reads : (graph : PlainGraph) (stages : List Stage) → AreFitting graph.places stages → (s : ℕ) (reads : Reads)
    → reads_of (stage_at (with_stages graph stages).places s) reads ≡ reads_of (stage_at graph.places s) reads
all_reads graph [] fit s reads = refl
all_reads graph (stage ∷ stages) fit s reads =
    all_reads (with_stage graph stage) stages (others_fit graph stage stages fit) s reads ∙ with_reads graph stage (first_fits graph.places stage stages fit) s reads

pub all_ranked : (graph : PlainGraph) (stages : List Stage) → AreFitting graph.places stages → IsRanked graph.places → IsRanked (with_stages graph stages).places
all_ranked graph [] fit ranked = ranked
all_ranked graph (stage ∷ stages) fit ranked =
    all_ranked (with_stage graph stage) stages (others_fit graph stage stages fit) (with_ranked graph stage (first_fits graph.places stage stages fit) ranked)

-- a stage, or else what stands there
abbrev pub or_here : Option Stage → Option Stage → Option Stage
or_here None here = here
or_here (Some stage) here = Some stage

-- which stage stands at a place
pub all_here : (graph : PlainGraph) (stages : List Stage) → AreFitting graph.places stages → (s : ℕ)
    → stage_at (with_stages graph stages).places s ≡ or_here (stage_among stages s) (stage_at graph.places s)
all_here graph [] fit s = refl
all_here graph (stage ∷ stages) fit s =
    let first = first_fits graph.places stage stages fit in
    all_here (with_stage graph stage) stages (others_fit graph stage stages fit) s
    ∙ ⊎_elim
    (λ same.
    let here : s ≡ stage.place = eqb-true s stage.place same in
    let none : stage_among stages s ≡ None =
    none_among stages s (λ k d short.
    false_unless (s == (get_or stages k d).place) (λ is.
    let later = ascend_head stage stages fit.ascend k d short in
    let there : s ≡ (get_or stages k d).place = eqb-true s (get_or stages k d).place is in
    omega (arith, later, here, there))) in
    ap (λ (one : Option Stage). or_here one (stage_at (with_stage graph stage).places s)) none
    ∙ ap (stage_at (with_stage graph stage).places) here
    ∙ with_here graph stage first
    ∙ sym (ap (λ (one : Option Stage). or_here one (stage_at graph.places s)) (cond-true (s == stage.place) (Some stage) (stage_among stages s) same)))
    (λ other.
    ap (or_here (stage_among stages s)) (with_elsewhere graph stage first s (λ same. true≢false (sym (eq-eqb s stage.place same) ∙ other)))
    ∙ sym (ap (λ (one : Option Stage). or_here one (stage_at graph.places s)) (cond-false (s == stage.place) (Some stage) (stage_among stages s) other)))
    (cases_Bool (s == stage.place))

all_elsewhere : (graph : PlainGraph) (stages : List Stage) → AreFitting graph.places stages → (s : ℕ) → is_changed stages s ≡ false → stage_at (with_stages graph stages).places s ≡ stage_at graph.places s
all_elsewhere graph stages fit s other =
    all_here graph stages fit s
    ∙ ap (λ (one : Option Stage). or_here one (stage_at graph.places s)) (nothing (stage_among stages s) (sym (is_changed_among stages s) ∙ other)) where
      nothing : (one : Option Stage) → is_some one ≡ false → one ≡ None
      nothing None none = refl
      nothing (Some stage) none = absurd (true≢false none)

pub all_exchange : (graph : PlainGraph) (stages : List Stage) → AreFitting graph.places stages → IsRanked graph.places → IsExchange graph.places (with_stages graph stages).places (is_changed stages)
all_exchange graph stages fit ranked = record {
  old_ranked = ranked;
  new_ranked = all_ranked graph stages fit ranked;
  feeds = all_feeds graph stages fit;
  elsewhere = all_elsewhere graph stages fit;
}

-- the changed stage that is found, or what stands there where none is
pub stands_changed : (graph : PlainGraph) (stages : List Stage) → AreFitting graph.places stages → (s : ℕ) (stage : Stage) → stage_among stages s ≡ Some stage
    → Some stage ≡ stage_at (with_stages graph stages).places s
stands_changed graph stages fit s stage found = sym (all_here graph stages fit s ∙ ap (λ (one : Option Stage). or_here one (stage_at graph.places s)) found)

pub stands_unchanged : (graph : PlainGraph) (stages : List Stage) → AreFitting graph.places stages → (s : ℕ) → stage_among stages s ≡ None
    → stage_at graph.places s ≡ stage_at (with_stages graph stages).places s
stands_unchanged graph stages fit s none = sym (all_here graph stages fit s ∙ ap (λ (one : Option Stage). or_here one (stage_at graph.places s)) none)

-- none stands only where none did
pub changed_stands : (graph : PlainGraph) (stages : List Stage) → AreFitting graph.places stages → (s : ℕ) → IsLive graph.places s → stage_at (with_stages graph stages).places s ≡ None → ⊥
changed_stands graph stages fit s live none = nothing (stage_among stages s) (stage_at graph.places s) live (sym (all_here graph stages fit s) ∙ none) where
  nothing : (one here : Option Stage) → is_some here ≡ true → or_here one here ≡ None → ⊥
  nothing None None live none = true≢false (sym live)
  nothing None (Some stage) live none = cc
  nothing (Some changed) here live none = cc

-- it is sound where it stands
pub changed_sound : (graph : PlainGraph) (stages : List Stage) → AreFitting graph.places stages → (s : ℕ) (stage : Stage) → stage_among stages s ≡ Some stage → IsSoundStage graph.places s stage
changed_sound graph stages fit s stage found =
    subst (λ (place : ℕ). IsSoundStage graph.places place stage) (sym (among_place stages s stage found)) (among_all (IsFitting graph.places) stages s stage fit.each found).sound

-- the stage that stands there changes nothing
pub with_itself : (graph : PlainGraph) (stage : Stage) → stage_at graph.places stage.place ≡ Some stage → with_stage graph stage ≡ graph
with_itself graph stage stands =
    ap (λ (here : Option Stage). record graph { places = slice_set graph.places stage.place here }) (sym stands)
    ∙ ap (λ (places : List (Option Stage)). record graph { places = places }) (set-get_or graph.places stage.place None)
