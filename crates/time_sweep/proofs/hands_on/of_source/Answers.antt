use Rattle.std.proofs.Common.{◌-◌, ◌∙◌, List, ℕ, ap, sym}
use Rattle.stage_ops.specs.States.{seen_at, state_at}
use Rattle.propagate.proofs.Members.{contains_among}
use Rattle.time_sweep.specs.Forms.{rest_of}
use Rattle.time_sweep.proofs.HandingOn.{hands_on_last}
use Rattle.time_sweep.proofs.hands_on.of_source.Goals as goal

pub returns-clause-hands_on : goal.returns-clause-hands_on
returns-clause-hands_on c =
    let stage = c.args.stage.now in
    let before = c.args.before.now in
    let done = c.in_ok-done.done in
    hands_on_last stage c.requires.plain before c.args.feed done c.in_ok-done.ensures c.requires.waits (contains_among c.args.feed stage.sources c.requires.source)
    (sym c.is_exceptional.ensures ∙ c.if-is_exceptional.false) c.saturating_sub-most.result
    (c.saturating_sub-most.ensures
    ∙ ap (λ (rest : ℕ). done.moment - rest) c.rest_of-rest.ensures
    ∙ ap (λ (sources : List ℕ). done.moment - rest_of stage.created (seen_at (state_at before)) c.args.feed sources) c.as_slice.ensures)
