use Rattle.std.proofs.Common.{All, take}
use Rattle.stage_graph.specs.declared.end.End.{End}
use Rattle.recording.specs.WrittenStages.{IsAct}
use Rattle.recording_back.proofs.typed.ends_are_typed.Given as goal

-- the ends so far are typed
abbrev pub invariant-loop-end : goal.invariant-loop-end
invariant-loop-end l = All (λ (end : End). IsAct end.act) (take l.end-index l.ends)
