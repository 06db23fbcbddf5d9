use Rattle.std.proofs.Common.{◌∙◌, List, ℕ, Option, subst, sym}
use Rattle.stage_ops.specs.Java.{java_step}
use Rattle.time_sweep.specs.HandedOn.{AreHandedOn}
use Rattle.time_sweep.proofs.trial_start.TrialStart.completion_with_all.Goals as goal

pub changed_completion-requires-clause-each : goal.changed_completion-requires-clause-each
changed_completion-requires-clause-each g c κs inside = c.requires.room ∙ c.requires.start.states.count

pub changed_completion-requires-clause-handed : goal.changed_completion-requires-clause-handed
changed_completion-requires-clause-handed g c κs inside =
    let graph = c.args.version.now.graph in
    let start = c.args.self.now in
    subst (λ (ranks : List (Option ℕ)). AreHandedOn (java_step graph.mode) graph.places ranks start.target c.as_slice-4.result.now) (sym c.as_slice-2.ensures.value)
    (subst (λ (handed : List (Option ℕ)). AreHandedOn (java_step graph.mode) graph.places start.ranks.items start.target handed) (sym c.as_slice-4.ensures.value) c.requires.start.handed)

pub returns-clause-room : goal.returns-clause-room
returns-clause-room g c = c.in_ok-done.ensures.each ∙ sym c.requires.start.states.count
