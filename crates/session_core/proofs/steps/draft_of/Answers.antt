use Rattle.session_core.proofs.Drafting.{refuses, drafts}
use Rattle.session_core.proofs.steps.draft_of.Goals as goal

pub returns-in-Ok : goal.returns-in-Ok
returns-in-Ok g c = drafts c.args.version.now c.args.edit.now c.in-Ok.draft c.in-Ok.ensures

pub returns-in-Err : goal.returns-in-Err
returns-in-Err g c = rw c.of_fault.ensures (refuses c.args.version.now c.args.edit.now c.in-Err.fault c.in-Err.ensures)
