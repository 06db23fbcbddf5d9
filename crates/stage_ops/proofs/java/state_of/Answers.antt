use Rattle.std.proofs.Common.{sym, subst, length}
use Rattle.stage_ops.specs.declared.natural.Progress.{Progress}
use Rattle.stage_ops.specs.AmongLaws.{limits}
use Rattle.stage_ops.specs.States.{seen_at, state_at}
use Rattle.stage_ops.specs.Waiting.{AwaitsWithin}
use Rattle.stage_ops.specs.Natural.{progress_of}
use Rattle.stage_ops.specs.ProgressLaws.{is_fair, last_moment}
use Rattle.stage_ops.proofs.InnerLemmas.{awaits_within}
use Rattle.stage_ops.proofs.java.state_of.Goals as goal

pub finished-natural-requires-clause-within : goal.finished-natural-requires-clause-within
finished-natural-requires-clause-within g c =
    let count = length (g.L.Look.states c.args.look.now) in
    let stage = c.args.stage.now in
    let inputs = seen_at (state_at (g.L.Look.states c.args.look.now)) in
    subst (λ (progress : Progress). AwaitsWithin count progress) (sym c.progress_of-progress.ensures)
    (awaits_within count stage (limits count stage c.requires.sound) (last_moment stage inputs) (progress_of stage.op c.args.mode stage inputs) (is_fair c.args.mode stage inputs stage.op))

pub progress_of-progress-requires-clause-limits : goal.progress_of-progress-requires-clause-limits
progress_of-progress-requires-clause-limits g c = limits (length (g.L.Look.states c.args.look.now)) c.args.stage.now c.requires.sound

pub ended-requires : goal.ended-requires
ended-requires g c = (limits (length (g.L.Look.states c.args.look.now)) c.args.stage.now c.requires.sound).ends
