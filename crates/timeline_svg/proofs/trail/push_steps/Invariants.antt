use Rattle.std.proofs.Common.{◌≡◌, ◌++◌, length}
use Rattle.std.specs.Prelude.{string_bytes}
use Rattle.timeline_svg.specs.Trails.{steps_text}
use Rattle.timeline_svg.proofs.trail.push_steps.Given as goal

-- what is written and what is left make the whole
abbrev pub invariant-loop-first : goal.invariant-loop-first
invariant-loop-first l =
    string_bytes l.line ++ steps_text l.scale l.rows l.rest ≡ string_bytes l.fn.line ++ steps_text l.scale l.rows l.path

abbrev pub decreases-loop-first : goal.decreases-loop-first
decreases-loop-first l = length l.rest
