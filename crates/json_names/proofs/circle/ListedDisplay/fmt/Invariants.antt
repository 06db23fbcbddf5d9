use Rattle.std.proofs.Common.{◌++◌, map, take}
use Rattle.std.specs.Fmt.{HasWritten, IsPlainFormatter}
use Rattle.std.specs.Prelude.{codes, flat_map}
use Rattle.json_names.proofs.circle.ListedDisplay.fmt.Given as goal

-- what was written so far: a comma and a name for each
abbrev pub invariant-loop-name : goal.invariant-loop-name
invariant-loop-name g l =
    IsPlainFormatter l.initial.f → HasWritten g.W.Write.write_str_gives l.initial.f (flat_map (λ name. codes ", " ++ name) (map (λ name. name.now) (take l.name-index l.rest))) l.f
