use Rattle.std.proofs.Common.{◌≡◌, take}
use Rattle.stage_graph.proofs.same_edits.same_names.Given as goal

-- the names so far are the same
abbrev pub invariant-loop-at : goal.invariant-loop-at
invariant-loop-at l = take l.at l.names ≡ take l.at l.others
