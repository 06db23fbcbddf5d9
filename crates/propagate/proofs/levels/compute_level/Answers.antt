use Rattle.std.proofs.Common.{◌∙◌, ℕ, List, Option, rules, subst}
use Rattle.std.specs.Prelude.{All, IsSome}
use Rattle.std.proofs.lemmas.List.Elements.{Contains-get_or}
use Rattle.stage_graph.specs.Plain.{stage_at}
use Rattle.stage_ops.specs.declared.state.State.{State}
use Rattle.stage_ops.specs.States.{state_at}
use Rattle.propagate.specs.Reach.{come_to}
use Rattle.propagate.proofs.Preparing.{all_given}
use Rattle.propagate.proofs.levels.compute_level.Goals as goal

pub run-requires-after_bounds : goal.run-requires-after_bounds
run-requires-after_bounds g c κs within = λ k d lt. (
  (
    c.requires.climbs,
    Contains-get_or c.args.level.now k d lt,
    c.requires.live,
    c.as_slice-passes.ensures.value ∙ c.in_ok-take_passes.ensures.places,
    c.requires.count,
    c.requires.moments,
  ),
  search rules,
)

pub returns-then-are_whole-clause-states : goal.returns-then-are_whole-clause-states
returns-then-are_whole-clause-states g c =
    let state = λ (place : ℕ). come_to (g.O.StageOps.step c.args.ops.now c.args.graph.now.mode) (stage_at c.args.graph.now.places place) (state_at c.args.states.now) in
    all_given state c.args.level.now c.in_ok-results.results.items c.in_ok-results.ensures.results
    (subst (λ (results : List (Option State)). All IsSome results) c.as_slice.ensures.value (c.are_whole.ensures.0 c.if-are_whole.true))
