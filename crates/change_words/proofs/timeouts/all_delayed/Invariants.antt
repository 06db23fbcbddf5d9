use Rattle.std.proofs.Common.{◌≡◌, map, take}
use Rattle.change_words.specs.Timeouts.{delayed}
use Rattle.change_words.proofs.timeouts.all_delayed.Given as goal

-- the ends so far
abbrev pub invariant-loop-end : goal.invariant-loop-end
invariant-loop-end l = l.made ≡ map (delayed l.delay) (take l.end-index l.ends)
