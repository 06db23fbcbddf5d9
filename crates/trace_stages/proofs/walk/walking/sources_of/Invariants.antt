use Rattle.std.proofs.Common.{◌≡◌, [], ◌∷◌, ◌++◌, take}
use Rattle.std.specs.Prelude.{if◌then◌else◌}
use Rattle.trace_stages.proofs.walk.walking.sources_of.Given as goal

-- those so far
abbrev pub invariant-loop-stage : goal.invariant-loop-stage
invariant-loop-stage l = l.sources.items ≡ (if l.is_used then [] else l.fn.has ∷ []) ++ take l.stage-index l.ended
