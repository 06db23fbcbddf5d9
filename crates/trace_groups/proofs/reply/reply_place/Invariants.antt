use Rattle.std.proofs.Common.{◌≡◌, false, take}
use Rattle.std.specs.Prelude.{All}
use Rattle.trace_groups.specs.Stages.{is_end_of}
use Rattle.trace_groups.proofs.reply.reply_place.Given as goal

abbrev pub invariant-loop-place : goal.invariant-loop-place
invariant-loop-place l = All (λ stage. is_end_of l.span stage.name ≡ false) (take l.place l.stages)
