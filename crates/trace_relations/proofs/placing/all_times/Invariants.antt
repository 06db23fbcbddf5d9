use Rattle.std.proofs.Common.{◌≡◌, ◌++◌, pos, drop, length}
use Rattle.std.specs.Prelude.{unwrap_or}
use Rattle.trace_relations.specs.ClockNumbers.{clock_at}
use Rattle.trace_relations.specs.KeptMoves.{moves_in}
use Rattle.trace_relations.specs.Times.{times_from, times_of}
use Rattle.trace_relations.proofs.placing.all_times.Given as goal

-- those so far, and those of the spans that are left
abbrev pub invariant-loop-span : goal.invariant-loop-span
invariant-loop-span l =
    times_of (λ place. unwrap_or (moves_in l.moves (clock_at l.spans place)) (pos 0)) l.spans ≡ l.times.items ++ times_from (λ place. unwrap_or (moves_in l.moves (clock_at l.spans place)) (pos 0)) (length l.yielded) (drop (length l.yielded) l.spans)
