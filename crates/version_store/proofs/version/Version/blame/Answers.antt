use Rattle.stage_graph.specs.Plain.{PlainGraph}
use Rattle.stage_ops.specs.Java.{java_step}
use Rattle.scratch_eval.specs.Blame.{chain}
use Rattle.version_store.proofs.PathsOf.{list_of}
use Rattle.version_store.proofs.version.Version.blame.Goals as goal

pub returns-in_ok-blame-in-Some : goal.returns-in_ok-blame-in-Some
returns-in_ok-blame-in-Some g c =
    list_of (λ (graph : PlainGraph). chain (java_step graph.mode) graph.places) _ _ _ _ _ _ _ c.in-Some.ensures.version c.in-Some.ensures.place c.in-Some.ensures.stage c.in_ok-blame-in-Some.ensures
