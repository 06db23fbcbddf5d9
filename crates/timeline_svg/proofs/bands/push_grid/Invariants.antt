use Rattle.std.proofs.Common.{◌≡◌, ◌++◌, drop}
use Rattle.std.specs.Prelude.{string_bytes}
use Rattle.std.specs.List.{flat_map}
use Rattle.timeline_svg.specs.Frames.{grid_text}
use Rattle.timeline_svg.proofs.bands.push_grid.Given as goal

-- what is written and what is left make the whole
abbrev pub invariant-loop-tick : goal.invariant-loop-tick
invariant-loop-tick l =
    string_bytes l.line ++ flat_map (grid_text l.scale l.bottom) (drop l.tick-index l.ticks) ≡ string_bytes l.fn.line ++ flat_map (grid_text l.scale l.bottom) l.ticks
