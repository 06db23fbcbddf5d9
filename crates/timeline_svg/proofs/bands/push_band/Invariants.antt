use Rattle.std.proofs.Common.{◌≡◌, ◌++◌, drop}
use Rattle.std.specs.Prelude.{string_bytes}
use Rattle.std.specs.List.{flat_map}
use Rattle.timeline_svg.specs.Frames.{axis_text, tick_text}
use Rattle.timeline_svg.proofs.bands.push_band.Given as goal

-- what is written and what is left make the whole
abbrev pub invariant-loop-tick : goal.invariant-loop-tick
invariant-loop-tick l =
    string_bytes l.line ++ flat_map (tick_text l.scale l.unit l.top) (drop l.tick-index l.ticks)
    ≡ (string_bytes l.fn.line ++ axis_text l.scale l.top) ++ flat_map (tick_text l.scale l.unit l.top) l.ticks
