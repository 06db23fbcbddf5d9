use Rattle.std.proofs.Common.{◌≡◌, ◌≤◌, ◌^◌, sym, ap, ◌∙◌, subst, get_or, Option, Some, None}
use Rattle.std.specs.Prelude.{IfSome}
use Rattle.std.specs.Option.{option_map}
use Rattle.stage_ops.specs.declared.sources.Source.{Source}
use Rattle.stage_ops.specs.declared.usual.Normal.{Normal}
use Rattle.stage_ops.specs.States.{seen_at, state_at}
use Rattle.stage_ops.specs.Sources.{source_at, moment_of}
use Rattle.stage_ops.specs.Usual.{as_source}
use Rattle.stage_ops.specs.Waiting.{sooner_of}
use Rattle.stage_ops.proofs.EarliestLemmas.{sooner_of_either}
use Rattle.stage_ops.proofs.SourcesLemmas.{earliest_none, earliest_some}
use Rattle.stage_ops.proofs.UsualLemmas.{early_if}
use Rattle.stage_ops.proofs.usual.earliest.Goals as goal
use Rattle.stage_ops.proofs.usual.earliest.Goals.{in-Some, in_default}

pub loop-place-preserved : goal.loop-place-preserved
loop-place-preserved g c =
    let inputs = seen_at (state_at (g.L.Look.states c.args.look.now)) in
    let places = c.args.places.now in
    let k = c.loop-place.place-index in
    let within = c.loop-place-test.true in
    let before = c.loop-place.first in
    elim c.match-found.branch [
      | in-Some w ↦
          let source : Source = as_source w.in-Some.source in
          let some : source_at inputs (get_or places k 0) ≡ Some source = c.in_ok-found.ensures.source ∙ ap (option_map as_source) w.in-Some.is in
          let early : source.moment ≤ 2 ^ 62 =
          subst (λ (found : Option Normal). IfSome found (λ normal. normal.moment ≤ 2 ^ 62)) w.in-Some.is c.in_ok-found.ensures.early in
          record {
            source = earliest_some inputs places k within source some
                ∙ ap (λ found. Some (sooner_of moment_of found source)) c.loop-place.invariant.source
                ∙ ap (λ (x : Source). Some x) (sym w.sooner.ensures) ∙ ap (option_map as_source) (sym w.first-is);
            early = subst (λ (first : Option Normal). IfSome first (λ normal. normal.moment ≤ 2 ^ 62)) (sym w.first-is)
                (subst (λ (first : Source). first.moment ≤ 2 ^ 62) (sym w.sooner.ensures)
                (sooner_of_either moment_of (λ source. source.moment ≤ 2 ^ 62) (option_map as_source before) source
                (early_if (2 ^ 62) before c.loop-place.invariant.early) early));
          }
      | in_default w ↦
          let none : source_at inputs (get_or places k 0) ≡ None = c.in_ok-found.ensures.source ∙ ap (option_map as_source) w.in_default.is in
          record {
            source = earliest_none inputs places k within none ∙ c.loop-place.invariant.source ∙ ap (option_map as_source) (sym w.first-is);
            early = subst (λ (first : Option Normal). IfSome first (λ normal. normal.moment ≤ 2 ^ 62)) (sym w.first-is) c.loop-place.invariant.early;
          }
    ]
