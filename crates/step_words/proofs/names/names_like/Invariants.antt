use Rattle.std.proofs.Common.{◌≡◌, take}
use Rattle.step_words.specs.Names.{names_like}
use Rattle.step_words.proofs.names.names_like.Given as goal

-- the names of the places so far
abbrev pub invariant-loop-place : goal.invariant-loop-place
invariant-loop-place g l = l.names ≡ names_like l.like l.text (take l.place l.graph.places)
