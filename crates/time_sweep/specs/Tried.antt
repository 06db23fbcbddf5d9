-- The results of the trials, part by part.
use Rattle.std.specs.Prelude.{◌≡◌, ◌<◌, ◌≤◌, ◌%◌, ◌==◌, if◌then◌else◌, ℕ, List, [], Vec, Result, Ok, Err, IfOk, drop, take}
use Rattle.std.specs.Global.{Global}
use Rattle.stage_graph.specs.Plain.{PlainGraph}
use Rattle.time_sweep.specs.declared.parts.Parts.{Parts}
use Rattle.time_sweep.specs.declared.trial.Trial.{Trial}
use Rattle.time_sweep.specs.Starts.{IsStart}

-- the trials, unless memory ran out
abbrev pub trials_in : {E : Type 0} → Result (Vec Trial Global) E → List Trial
trials_in (Ok trials) = trials.items
trials_in (Err error) = []

-- the trials that are made at the trial of a number, where memory sufficed
abbrev pub GiveAll : {E : Type 0} → (ℕ → List Trial) → ℕ → Result (Vec Trial Global) E → Type 0
GiveAll trials number answer = IfOk answer (λ made. made.items ≡ trials number)

-- the places whose trials are made at the trial of a number: those of a part at its first trial, and at the others none
abbrev pub part_of : List ℕ → ℕ → ℕ → List ℕ
part_of places size number = if number % size == 0 then take size (drop number places) else []

-- the trials of the graph may be made in these parts
pub record AreParts (graph : PlainGraph) (parts : Parts) : Type 0 where
  pub start : IsStart graph parts.start
  pub some : 0 < parts.size
  pub size : parts.size ≤ 65536
