-- Each end of each live stage is told of once, in order: a stage that has one completes.
use Rattle.std.proofs.Common.{◌≡◌, ℕ, ◌+◌, true, arith, List, [], ◌∷◌, ◌++◌, Option, Some, None, refl, sym, ap, ◌∙◌, length, map}
use Rattle.std.specs.Prelude.{All, ◌==◌}
use Rattle.std.specs.Option.{option_map, option_to_list}
use Rattle.std.specs.List.{flat_map, range_with_len}
use Rattle.std.proofs.lemmas.Bool.{eqb-true}
use Rattle.std.proofs.lemmas.List.{map-append}
use Rattle.stage_graph.specs.declared.end.End.{End}
use Rattle.stage_graph.specs.declared.stage.Stage.{Stage}
use Rattle.stage_graph.specs.Plain.{PlainGraph, all_places, stage_at}
use Rattle.stage_graph.specs.Sound.{IsSound}
use Rattle.stage_graph.specs.Walk.{IsRanked}
use Rattle.stage_ops.specs.declared.state.Done.{Done}
use Rattle.stage_ops.specs.declared.state.State.{State}
use Rattle.stage_ops.specs.Among.{IsEarlyEnd}
use Rattle.stage_ops.specs.AmongLaws.{limits}
use Rattle.stage_ops.specs.Earliest.{earliest}
use Rattle.stage_ops.specs.Ended.{done_moment, ended, set_by}
use Rattle.stage_ops.specs.Java.{java_step}
use Rattle.stage_ops.specs.JavaLaws.{java_reads_decide}
use Rattle.stage_ops.specs.Natural.{natural}
use Rattle.stage_ops.specs.Pinned.{pinned}
use Rattle.stage_ops.specs.States.{seen_at}
use Rattle.stage_ops.proofs.AmongLemmas.{sound_among}
use Rattle.scratch_eval.proofs.Evaluating.{at_stage}
use Rattle.version_store.specs.Queries.{state_of}
use Rattle.stage_ends.specs.declared.completed.Completed.{Completed}
use Rattle.stage_ends.specs.Ends.{ends, fates_at, fates_from, fates_in, fates_of, completed_at, completed_when}
use Rattle.stage_ends.specs.Told.{all_ends, end_at, end_of, ends_in}

pub none_in : (ends : List End) → (length ends == 0) ≡ true → ends ≡ []
none_in [] is = refl
none_in (end ∷ others) is = let long : length (end ∷ others) ≡ 0 = eqb-true (length (end ∷ others)) 0 is in absurd (omega (arith, long))

-- nothing is told of a stage without ends
pub no_fates : (place : ℕ) (stage : Stage) (completed : Option Completed) → stage.ends ≡ [] → fates_of place stage completed ≡ []
no_fates place stage None none = refl
no_fates place stage (Some completed) none = ap (fates_from place stage completed 0) none

-- a sound graph's stages have early ends
pub early_ends : (graph : PlainGraph) (place : ℕ) (stage : Stage) → IsSound graph → stage_at graph.places place ≡ Some stage → All IsEarlyEnd stage.ends
early_ends graph place stage sound here =
    (limits (length graph.places) stage (sound_among graph.places place stage (sound.stages place stage here))).ends

-- nothing is the earliest only of nothing
no_ends : (completion : Option Done) (ends : List End) → earliest done_moment (option_to_list completion ++ map set_by ends) ≡ None → ends ≡ []
no_ends None [] none = refl
no_ends None (end ∷ others) none = cc
no_ends (Some done) all none = cc

ends_from : (place : ℕ) (stage : Stage) (completed : Completed) (index : ℕ) (ends : List End)
    → map end_of (fates_from place stage completed index ends) ≡ map (end_at place) (range_with_len index (length ends))
ends_from place stage completed index [] = refl
ends_from place stage completed index (end ∷ others) = ap (λ list. end_at place index ∷ list) (ends_from place stage completed (index + 1) others)

module _ (graph : PlainGraph) (ranked : IsRanked graph.places) where
  -- the completion of a live stage is that by its operation and its pins, or by one of its ends
  pub done_at : (place : ℕ) (stage : Stage) → stage_at graph.places place ≡ Some stage
      → (state_of graph place).done ≡ ended stage (pinned stage (natural graph.mode stage (seen_at (state_of graph))))
  done_at place stage here =
      ap (λ (state : State). state.done) (at_stage (java_step graph.mode) (java_reads_decide graph.mode) graph.places ranked place stage here)

  at_stage_told : (place : ℕ) (stage : Stage) → stage_at graph.places place ≡ Some stage → (done : Option Done) → (state_of graph place).done ≡ done
      → map end_of (fates_of place stage (completed_at graph place)) ≡ ends_in place (Some stage)
  at_stage_told place stage here None is =
      let none : stage.ends ≡ [] = no_ends (pinned stage (natural graph.mode stage (seen_at (state_of graph)))) stage.ends (sym (done_at place stage here) ∙ is) in
      ap (λ (done : Option Done). map end_of (fates_of place stage (option_map (completed_when graph place) (option_map done_moment done)))) is
      ∙ ap (λ (ends : List End). map (end_at place) (range_with_len 0 (length ends))) (sym none)
  at_stage_told place stage here (Some done) is =
      ap (λ (done : Option Done). map end_of (fates_of place stage (option_map (completed_when graph place) (option_map done_moment done)))) is
      ∙ ends_from place stage (completed_when graph place done.moment) 0 stage.ends

  in_place : (place : ℕ) (here : Option Stage) → stage_at graph.places place ≡ here → map end_of (fates_in graph place here) ≡ ends_in place here
  in_place place None is = refl
  in_place place (Some stage) is = at_stage_told place stage is (state_of graph place).done refl

  at_places : (places : List ℕ) → map end_of (flat_map (fates_at graph) places) ≡ flat_map (λ place. ends_in place (stage_at graph.places place)) places
  at_places [] = refl
  at_places (place ∷ places) =
      map-append end_of (fates_at graph place) (flat_map (fates_at graph) places)
      ∙ ap (λ first. first ++ map end_of (flat_map (fates_at graph) places)) (in_place place (stage_at graph.places place) refl)
      ∙ ap (λ others. ends_in place (stage_at graph.places place) ++ others) (at_places places)

  pub each_end : map end_of (ends graph) ≡ all_ends graph
  each_end = at_places (all_places graph.places)
