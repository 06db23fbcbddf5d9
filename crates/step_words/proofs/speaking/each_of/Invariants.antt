use Rattle.std.proofs.Common.{◌≡◌, take}
use Rattle.step_words.specs.Speaking.{each_of}
use Rattle.step_words.proofs.speaking.each_of.Given as goal

-- the reports of the stages so far
abbrev pub invariant-loop-name : goal.invariant-loop-name
invariant-loop-name l = l.steps ≡ each_of (take l.name-index l.names)
