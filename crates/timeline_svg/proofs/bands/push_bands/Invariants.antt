use Rattle.std.proofs.Common.{◌≡◌, ◌++◌, ◌-◌}
use Rattle.std.specs.Prelude.{string_bytes}
use Rattle.std.specs.List.{flat_map, range_with_len}
use Rattle.timeline_svg.specs.Frames.{band_text, band_y}
use Rattle.timeline_svg.proofs.bands.push_bands.Given as goal

-- what is written and what is left make the whole
abbrev pub invariant-loop-band : goal.invariant-loop-band
invariant-loop-band l =
    string_bytes l.line ++ flat_map (λ band. band_text l.scale l.unit l.ticks (band_y band)) (range_with_len l.band (l.bands - l.band))
    ≡ string_bytes l.fn.line ++ flat_map (λ band. band_text l.scale l.unit l.ticks (band_y band)) (range_with_len 0 l.bands)
