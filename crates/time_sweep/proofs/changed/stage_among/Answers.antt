use Rattle.std.proofs.Common.{sym}
use Rattle.time_sweep.proofs.ChangedStages.{first_among, none_changed, only_elsewhere}
use Rattle.time_sweep.proofs.changed.stage_among.Goals as goal

pub returns-in_err-first : goal.returns-in_err-first
returns-in_err-first c = rw c.from_residual.ensures (sym (none_changed c.args.changed.now c.args.place (sym c.in_err-first.ensures.value)))

pub returns-then-first-place : goal.returns-then-first-place
returns-then-first-place c = sym (first_among c.args.changed.now c.args.place c.in_ok-first.first.now (sym c.in_ok-first.ensures.value) c.if-first-place.true)

pub returns-then-changed-eq1 : goal.returns-then-changed-eq1
returns-then-changed-eq1 c =
    sym (only_elsewhere c.args.changed.now c.args.place c.in_ok-first.first.now (sym c.in_ok-first.ensures.value) c.if-first-place.false c.if-changed-eq1.true)
