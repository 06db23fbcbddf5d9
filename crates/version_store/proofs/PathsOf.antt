-- Lists of places that a live stage has: its path, and its chain of blame.
use Rattle.std.proofs.Common.{◌≡◌, ℕ, List, Option, Some, Result, Ok, Err, ap, subst, sym, ◌∙◌}
use Rattle.std.specs.Prelude.{IfOk}
use Rattle.stage_graph.specs.declared.stage.Stage.{Stage}
use Rattle.stage_graph.specs.Plain.{PlainGraph, IsLive}
use Rattle.stage_graph.specs.Sound.{IsSound}
use Rattle.stage_graph.specs.Walk.{IsRanked}
use Rattle.scratch_eval.specs.Path.{IsPath, path}
use Rattle.scratch_eval.specs.Queries.{list_at}
use Rattle.scratch_eval.specs.declared.fault.QueryFault.{QueryFault}
use Rattle.scratch_eval.proofs.Pathing.{paths_add_up}
use Rattle.version_store.specs.Plain.{PlainVersion}

-- a list that is the path of a live stage is one, if there was the memory for it
pub adds_up : {E : Type 0} (graph : PlainGraph) → IsSound graph → IsRanked graph.places → (place : ℕ) → IsLive graph.places place
    → (found : Result (List ℕ) E) → IfOk found (λ places. places ≡ path graph place) → IfOk found (IsPath graph place)
adds_up graph sound ranked place live (Ok places) is = subst (IsPath graph place) (sym is) (paths_add_up graph sound ranked place live)
adds_up graph sound ranked place live (Err fault) is = tt

-- the list of the stage that was looked up
pub list_of : (list : PlainGraph → ℕ → List ℕ) (version same : PlainVersion) (place here : ℕ) (stage : Stage) (found : Option Stage) (places : List ℕ)
    → version ≡ same → place ≡ here → Some stage ≡ found → places ≡ list version.graph place
    → ◌≡◌ {A = Result (List ℕ) QueryFault} (Ok places) (list_at (list same.graph) here found)
list_of list version same place here stage found places is there stands listed =
    ap (λ (places : List ℕ). Ok places) (listed ∙ ap (λ (version : PlainVersion). list version.graph place) is ∙ ap (list same.graph) there)
    ∙ ap (list_at (list same.graph) here) stands
