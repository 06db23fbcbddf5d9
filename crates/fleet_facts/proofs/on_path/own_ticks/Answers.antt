use Rattle.std.proofs.Common.{ap}
use Rattle.stage_ops.specs.declared.reason.Reason.{Reason}
use Rattle.fleet_facts.proofs.Telling.{told_reason}
use Rattle.fleet_facts.proofs.on_path.own_ticks.Goals as goal

pub returns-in-Ok-clause-ran : goal.returns-in-Ok-clause-ran
returns-in-Ok-clause-ran g c = ap (λ (reason : Reason). reason.ran) (told_reason c.args.version.now.graph c.args.place c.in-Ok.reason c.in-Ok.ensures)

pub returns-in-Ok-clause-queued : goal.returns-in-Ok-clause-queued
returns-in-Ok-clause-queued g c = ap (λ (reason : Reason). reason.queued) (told_reason c.args.version.now.graph c.args.place c.in-Ok.reason c.in-Ok.ensures)
