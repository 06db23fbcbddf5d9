use Rattle.std.proofs.Common.{List, ℕ, Option, subst}
use Rattle.stage_ops.specs.Java.{java_step}
use Rattle.time_sweep.specs.HandedOn.{AreHandedOn}
use Rattle.time_sweep.specs.Standing.{AreStanding}
use Rattle.time_sweep.proofs.trial_start.TrialStart.with_ranks.Goals as goal

pub returns-clause-start : goal.returns-clause-start
returns-clause-start g c =
    let graph = c.args.version.now.graph in
    record {
      live = c.requires.live;
      states = c.in_ok-before.ensures;
      ranks = c.requires.ranks;
      standing = subst (λ (ranks : List (Option ℕ)). AreStanding graph.places ranks c.in_ok-standing.standing.items) c.as_slice.ensures.value c.in_ok-standing.ensures;
      handed = subst (λ (ranks : List (Option ℕ)). AreHandedOn (java_step graph.mode) graph.places ranks c.args.target c.in_ok-handed.handed.items) c.as_slice-3.ensures.value c.in_ok-handed.ensures;
    }
