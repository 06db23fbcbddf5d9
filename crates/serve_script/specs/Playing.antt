-- What a script has done when all of it was read.
use Rattle.std.specs.Prelude.{◌≡◌, ℕ, List, Option, Some}
use Rattle.report_form.specs.declared.form.Format.{Format}
use Rattle.script_lines.specs.Lines.{lines_of}
use Rattle.serve_script.specs.Serves.{ServesAll}
use Rattle.session_core.specs.Machine.{State}
use Rattle.stage_graph.specs.Plain.{PlainGraph}
use Rattle.version_store.specs.Plain.{PlainVersion}
use Rattle.serve_script.specs.Answers.{answers_from, answers_to, last_version, played, played_from}

-- part of a script is done, for every continuation: what is left comes to the same state
abbrev pub PlaysOn : {X : Type 0} → (X → State) → (X → State) → Type 0
PlaysOn {X} before after = (coming : X) → before coming ≡ after coming

-- all was read and answered, and this state is left
pub record PlaysAll (most : ℕ) (format : Format) (s t : State) (had left : Option (List ℕ)) (failures_before failures_after : ℕ) (held holds : Option (List ℕ)) : Type 0 where
  pub serves : ServesAll most (answers_from format 1 s) had left failures_before failures_after held holds
  pub played : t ≡ played_from format 1 s (lines_of serves.read)

-- all was read and answered, and this version was made last
pub record PlaysTo (most : ℕ) (format : Format) (graph : PlainGraph) (version : PlainVersion) (had left : Option (List ℕ)) (failures_before failures_after : ℕ) (held holds : Option (List ℕ)) : Type 0 where
  pub serves : ServesAll most (answers_to format graph) had left failures_before failures_after held holds
  pub last : last_version (played format graph (lines_of serves.read)) ≡ Some version
