-- What the trials of a target start from.
use Rattle.stage_graph.specs.Plain.{PlainGraph, IsLive}
use Rattle.stage_ops.specs.Java.{java_step}
use Rattle.propagate.specs.Reach.{AreStates}
use Rattle.time_sweep.specs.declared.trial_start.TrialStart.{TrialStart}
use Rattle.time_sweep.specs.HandedOn.{AreHandedOn}
use Rattle.time_sweep.specs.Known.{AreRanksFor}
use Rattle.time_sweep.specs.Standing.{AreStanding}

-- trials of the graph may start from this
pub record IsStart (graph : PlainGraph) (start : TrialStart) : Type 0 where
  pub live : IsLive graph.places start.target
  pub states : AreStates (java_step graph.mode) graph.places start.before.items
  pub ranks : AreRanksFor graph.places start.target start.ranks.items
  pub standing : AreStanding graph.places start.ranks.items start.standing.items
  pub handed : AreHandedOn (java_step graph.mode) graph.places start.ranks.items start.target start.handed.items
