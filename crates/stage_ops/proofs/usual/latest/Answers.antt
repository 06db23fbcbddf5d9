use Rattle.std.proofs.Common.{◌≡◌, max, refl, sym, ap, ◌∙◌, get_or, Some}
use Rattle.stage_ops.specs.declared.sources.Source.{Source}
use Rattle.stage_ops.specs.States.{seen_at, state_at}
use Rattle.stage_ops.specs.Sources.{source_at}
use Rattle.stage_ops.specs.Usual.{as_source}
use Rattle.stage_ops.proofs.SourcesLemmas.{have_completed_some, latest_some, failed_normal}
use Rattle.stage_ops.proofs.usual.latest.Goals as goal

pub loop-place-preserved : goal.loop-place-preserved
loop-place-preserved g c =
    let inputs = seen_at (state_at (g.L.Look.states c.args.look.now)) in
    let places = c.args.places.now in
    let k = c.loop-place.place-index in
    let within = c.loop-place-test.true in
    let source : Source = as_source c.in_ok-source.source in
    let some : source_at inputs (get_or places k 0) ≡ Some source = c.in_ok-source.ensures.source in
    record {
      all = have_completed_some inputs places k within source some c.loop-place.invariant.all;
      last = c.max-trigger.ensures ∙ ap (λ trigger. max trigger source.moment) c.loop-place.invariant.last
          ∙ sym (latest_some inputs places k within c.args.created source some);
      normal = failed_normal inputs places k within source some refl ∙ c.loop-place.invariant.normal;
    }
