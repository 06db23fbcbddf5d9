use Rattle.tried_changes.proofs.TryingLemmas.{draft_no_circle, draft_not_refused, numbered_told}
use Rattle.tried_changes.proofs.trying.drafted.Goals as goal

pub returns-in-Ok : goal.returns-in-Ok
returns-in-Ok g c = numbered_told c.numbered.result c.args.version.now c.args.edits.now c.in-Ok.draft c.in-Ok.ensures c.numbered.ensures

pub unreachable-requires : goal.unreachable-requires
unreachable-requires g c = draft_not_refused c.args.version.now c.args.edits.now c.in-Err-Refused.field-0 _ c.in-Err-Refused.field-0-is c.requires.accepted c.in-Err-Refused.ensures

pub unreachable-requires-in-Err-Cycle : goal.unreachable-requires-in-Err-Cycle
unreachable-requires-in-Err-Cycle g c = draft_no_circle c.args.version.now c.args.edits.now c.in-Err-Cycle.field-0 _ c.in-Err-Cycle.field-0-is c.requires.unmoved c.in-Err-Cycle.ensures
