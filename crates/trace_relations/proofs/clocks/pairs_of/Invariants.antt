use Rattle.std.proofs.Common.{◌≡◌, ◌++◌, drop, length}
use Rattle.std.specs.Prelude.{All}
use Rattle.trace_relations.specs.ClockNumbers.{all_pairs, pairs_from}
use Rattle.trace_relations.specs.KeptMoves.{IsPairAmong}
use Rattle.trace_relations.proofs.clocks.pairs_of.Given as goal

-- those so far, and those of the spans that are left
abbrev pub invariant-loop-place : goal.invariant-loop-place
invariant-loop-place l = record {
  said : all_pairs l.spans ≡ l.pairs.items ++ pairs_from l.spans l.place (drop l.place l.spans);
  among : All (IsPairAmong (length l.spans)) l.pairs.items;
}
