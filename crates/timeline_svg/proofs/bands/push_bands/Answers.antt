use Rattle.std.proofs.Common.{◌++◌, ◌∙◌, ap}
use Rattle.std.specs.Prelude.{string_bytes}
use Rattle.timeline_svg.specs.Frames.{band_text, band_y}
use Rattle.timeline_svg.proofs.Texts.{goes_on, next_number}
use Rattle.timeline_svg.proofs.bands.push_bands.Goals as goal

pub loop-band-preserved : goal.loop-band-preserved
loop-band-preserved c =
    goes_on _ _ _ _ _ _ c.loop-band.invariant
    (next_number (λ band. band_text c.args.scale.now c.args.unit.now c.args.ticks.now (band_y band)) c.loop-band.band c.args.bands c.loop-band-test.true)
    (c.in_ok-push_band.ensures ∙ ap (λ top. string_bytes c.loop-band.line ++ band_text c.args.scale.now c.args.unit.now c.args.ticks.now top) c.band_y.ensures)
