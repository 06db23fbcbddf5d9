use Rattle.std.proofs.Common.{◌≡◌, not, take}
use Rattle.std.specs.Prelude.{filter}
use Rattle.change_words.specs.Timeouts.{is_timeout}
use Rattle.change_words.proofs.timeouts.without_timeouts.Given as goal

-- those of the ends so far that are no timeouts
abbrev pub invariant-loop-end : goal.invariant-loop-end
invariant-loop-end l = l.made ≡ filter (λ end. not (is_timeout end)) (take l.end-index l.ends)
