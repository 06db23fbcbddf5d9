use Rattle.std.proofs.Common.{◌≡◌, max, sym, ap, ◌∙◌, get_or, Some, None}
use Rattle.stage_ops.specs.States.{seen_at, state_at}
use Rattle.stage_ops.specs.Sources.{source_at, latest}
use Rattle.stage_ops.proofs.SourcesLemmas.{completed_none, latest_some}
use Rattle.stage_ops.proofs.reasons.latest.Goals as goal
use Rattle.stage_ops.proofs.reasons.latest.Goals.{in-Some, in_default}

pub loop-place-preserved : goal.loop-place-preserved
loop-place-preserved g c =
    let inputs = seen_at (state_at (g.L.Look.states c.args.look.now)) in
    let places = c.args.places.now in
    let k = c.loop-place.place-index in
    elim c.match-source_at.branch [
      | in-Some w ↦
          let source = w.in-Some.source in
          let some : source_at inputs (get_or places k 0) ≡ Some source = sym w.in-Some.ensures.source in
          w.last-is ∙ w.max-last.ensures ∙ ap (λ last. max last source.moment) c.loop-place.invariant
          ∙ sym (latest_some inputs places k c.loop-place-test.true c.args.created source some)
      | in_default w ↦
          let none : source_at inputs (get_or places k 0) ≡ None = sym w.in_default.ensures.source in
          w.last-is ∙ c.loop-place.invariant ∙ ap (latest c.args.created) (sym (completed_none inputs places k c.loop-place-test.true none))
    ]
