use Rattle.std.proofs.Common.{◌≡◌, map, take}
use Rattle.version_rows.specs.Lines.{numbered_of}
use Rattle.version_rows.proofs.line.numbered.Given as goal

-- the candidates so far
abbrev pub invariant-loop-candidate : goal.invariant-loop-candidate
invariant-loop-candidate g l = l.numbered.items ≡ map (numbered_of l.version.graph l.chosen) (take l.candidate-index l.chosen)
