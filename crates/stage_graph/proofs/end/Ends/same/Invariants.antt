use Rattle.std.proofs.Common.{◌≡◌, take}
use Rattle.stage_graph.proofs.end.Ends.same.Given as goal

-- the ends so far are the same
abbrev pub invariant-loop-at : goal.invariant-loop-at
invariant-loop-at l = take l.at l.ends ≡ take l.at l.others
