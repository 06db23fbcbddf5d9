use Rattle.std.proofs.Common.{◌∙◌, ap, List, length}
use Rattle.propagate.specs.Written.{written}
use Rattle.stage_ops.specs.declared.state.State.{State}
use Rattle.stage_ops.specs.States.{state_at}
use Rattle.propagate.proofs.Outcomes.{on_ok}
use Rattle.propagate.proofs.Preparing.{level_written, written_long}
use Rattle.propagate.proofs.states.States.write_level.Goals as goal

pub returns-clause-count : goal.returns-clause-count
returns-clause-count g c =
    let before = c.args.self.now in
    let level = c.args.level.now in
    on_ok c.write_each.result _ _ (λ wrote. ap (λ (states : List State). length states) wrote ∙ written_long before level c.args.results.now) c.write_each.ensures

pub returns-clause-states : goal.returns-clause-states
returns-clause-states g c =
    let before = c.args.self.now in
    let level = c.args.level.now in
    on_ok c.write_each.result _ _
    (λ wrote state same place. ap (λ (states : List State). state_at states place) wrote
    ∙ ap (λ others. state_at (written before level others) place) same
    ∙ level_written state level before place c.requires.within)
    c.write_each.ensures
