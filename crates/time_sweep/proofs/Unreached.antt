-- What stands at a place that the target cannot wait for doesn't matter to it, so the place has no trial.
use Rattle.std.proofs.Common.{◌≡◌, ℕ, Bool, true, false, List, [], ◌∷◌, Option, Some, None, cond, refl, ap, sym, ◌∙◌}
use Rattle.std.specs.Prelude.{filter_map, is_some, ◌==◌}
use Rattle.std.specs.List.{cons_option}
use Rattle.std.proofs.lemmas.Bool.{eqb-true, true≢false, false≢true}
use Rattle.stage_graph.specs.declared.stage.Stage.{Stage}
use Rattle.stage_graph.specs.Plain.{PlainGraph, all_places, stage_at}
use Rattle.stage_graph.specs.Sound.{IsSound}
use Rattle.stage_graph.specs.Walk.{IsRanked}
use Rattle.stage_ops.specs.declared.state.Done.{Done}
use Rattle.stage_ops.specs.declared.state.State.{State}
use Rattle.stage_ops.specs.Evaluation.{at}
use Rattle.stage_ops.specs.Java.{java_step}
use Rattle.stage_ops.specs.JavaLaws.{java_reads_decide}
use Rattle.propagate.proofs.Members.{false_unless}
use Rattle.time_sweep.specs.declared.trial.Trial.{Trial}
use Rattle.time_sweep.specs.Known.{AreRanksFor, rank_in}
use Rattle.time_sweep.specs.declared.haste.Haste.{Haste}
use Rattle.time_sweep.specs.Hastened.{hastened, hastened_stage}
use Rattle.time_sweep.specs.Sweep.{completion_of, sooner_trial, trial_at, trial_of, trials}
use Rattle.time_sweep.specs.WithStage.{with_stage, IsFitting}
use Rattle.time_sweep.proofs.Exchanging.{exchange}
use Rattle.time_sweep.proofs.Hurrying.{fast_fits, none_sooner}
use Rattle.time_sweep.proofs.Settling.{IsSettling, begun, settled_whole}

-- whether the rank of a place is known
abbrev pub is_known : List (Option ℕ) → ℕ → Bool
is_known ranks place = is_some (rank_in ranks place)

module _ (graph : PlainGraph) (ranked : IsRanked graph.places) (target : ℕ) (ranks : List (Option ℕ)) (are : AreRanksFor graph.places target ranks) (changed : Stage)
    (fits : IsFitting graph.places changed) (unknown : is_known ranks changed.place ≡ false) where
  unmarked : IsSettling (java_step graph.mode) graph.places (with_stage graph changed).places (is_known ranks) [] (λ s. false) (at (java_step graph.mode) graph.places)
  unmarked =
      begun (java_reads_decide graph.mode) (exchange graph changed fits ranked) (is_known ranks) (λ s. false) (at (java_step graph.mode) graph.places)
      (λ s here none. false_unless (s == changed.place) (λ same. true≢false (sym here ∙ ap (is_known ranks) (eqb-true s changed.place same) ∙ unknown)))
      (λ s is. absurd (false≢true is))
      (λ s. refl)

  pub same_completion : completion_of graph target ≡ completion_of (with_stage graph changed) target
  same_completion =
      ap (λ (state : State). state.done)
      (settled_whole (java_reads_decide graph.mode) (exchange graph changed fits ranked) (is_known ranks) are.feeds unmarked (λ m. refl) target are.own)

-- a place of no rank has no trial
pub unreached_at : (graph : PlainGraph) → IsRanked graph.places → IsSound graph → (haste : Haste) (target : ℕ) (ranks : List (Option ℕ)) → AreRanksFor graph.places target ranks → (place : ℕ) → is_known ranks place ≡ false
    → trial_at graph haste target place ≡ None
unreached_at graph ranked sound haste target ranks are place unknown = of (stage_at graph.places place) refl where
  of : (here : Option Stage) → stage_at graph.places place ≡ here → trial_of graph haste target place here ≡ None
  of None none = refl
  of (Some stage) here =
      let own : stage.place ≡ place = (sound.stages place stage here).own_place in
      let stands : stage_at graph.places stage.place ≡ Some stage = ap (stage_at graph.places) own ∙ here in
      ap (λ (new : Option Done). cond (is_some stage.action) (sooner_trial place (completion_of graph target) new) None)
      (sym (same_completion graph ranked target ranks are (hastened_stage haste stage) (fast_fits graph.places haste stage stands (sound.stages stage.place stage stands)) (ap (is_known ranks) own ∙ unknown)))
      ∙ none_sooner (is_some stage.action) place (completion_of graph target)

-- a target that is pending has no trials
no_trial : (graph : PlainGraph) (haste : Haste) (target place : ℕ) (here : Option Stage) → completion_of graph target ≡ None → trial_of graph haste target place here ≡ None
no_trial graph haste target place None pending = refl
no_trial graph haste target place (Some stage) pending =
    ap (λ (old : Option Done). cond (is_some stage.action) (sooner_trial place old (completion_of (hastened graph haste stage) target)) None) pending
    ∙ either (is_some stage.action) where
      either : (acts : Bool) → cond {A = Option Trial} acts None None ≡ None
      either true = refl
      either false = refl

none_found : (trial : ℕ → Option Trial) → ((place : ℕ) → trial place ≡ None) → (places : List ℕ) → filter_map trial places ≡ []
none_found trial none [] = refl
none_found trial none (place ∷ places) = ap (λ (one : Option Trial). cons_option one (filter_map trial places)) (none place) ∙ none_found trial none places

pub pending_trials : (graph : PlainGraph) (haste : Haste) (target : ℕ) → completion_of graph target ≡ None → trials graph haste target ≡ []
pending_trials graph haste target pending = none_found (trial_at graph haste target) (λ place. no_trial graph haste target place (stage_at graph.places place) pending) (all_places graph.places)
