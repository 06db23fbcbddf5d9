use Rattle.std.proofs.Common.{◌≡◌, subst, ℕ, List, Some}
use Rattle.stage_ops.specs.States.{seen_at, state_at}
use Rattle.stage_ops.specs.Earliest.{earliest}
use Rattle.stage_ops.specs.Sources.{completed, moment_of}
use Rattle.stage_ops.specs.Usual.{as_source}
use Rattle.stage_ops.proofs.UsualLemmas.{decided_by}
use Rattle.stage_ops.proofs.usual.after_earliest.Goals as goal

pub returns : goal.returns
returns g c =
    let inputs = seen_at (state_at (g.L.Look.states c.args.look.now)) in
    let stage = c.args.stage.now in
    let source = c.in_ok-source.source in
    decided_by stage inputs source c.max.result c.after_value.result
    (subst (λ (places : List ℕ). earliest moment_of (completed inputs places) ≡ Some (as_source source)) c.as_slice.ensures c.in_ok-source.ensures.source)
    c.max.ensures c.after_value.ensures
