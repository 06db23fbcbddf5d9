use Rattle.std.proofs.Common.{◌≡◌, map, take}
use Rattle.trace_relations.specs.Clocks.{clock_of}
use Rattle.trace_relations.specs.KeptMoves.{HasClocks}
use Rattle.trace_relations.proofs.clocks.clocks_of.Given as goal

-- the clocks of the spans so far, and the first of these that has each
abbrev pub invariant-loop-place : goal.invariant-loop-place
invariant-loop-place l = record {
  clocks : l.clocks.items ≡ map (clock_of l.spans) (take l.place l.spans);
  known : HasClocks l.known (take l.place l.spans);
}
