use Rattle.std.proofs.Common.{◌≡◌, ◌++◌, drop}
use Rattle.stage_ends.specs.Ends.{fates_from}
use Rattle.stage_ends.proofs.ends.push_fates.Given as goal

-- what was told and what is left make the whole
abbrev pub invariant-loop-index : goal.invariant-loop-index
invariant-loop-index l =
    l.found.items ++ fates_from l.place l.stage l.completed l.index (drop l.index l.stage.ends)
    ≡ l.fn.found.items ++ fates_from l.place l.stage l.completed 0 l.stage.ends
