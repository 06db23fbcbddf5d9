use Rattle.std.proofs.Common.{◌∙◌, ap, arith}
use Rattle.std.specs.Prelude.{nat_eq}
use Rattle.std.specs.HashMap.{get_by}
use Rattle.trace_stages.specs.Known.{plain_known}
use Rattle.trace_stages.specs.Outcomes.{failing}
use Rattle.trace_stages.proofs.Failing.{one_entered, one_left}
use Rattle.trace_stages.proofs.Tables.{one_failure}
use Rattle.trace_stages.specs.declared.tour.visit.Visit.TheVariants.{Enters}
use Rattle.trace_stages.proofs.failures.failures_of.Goals as goal
use Rattle.trace_stages.proofs.failures.failures_of.Goals.{in-Leaves+in_ok-exception+in_ok-insert, in_default}

pub loop-visit-preserved : goal.loop-visit-preserved
loop-visit-preserved c = elim c.match-visit.branch [
  | in-Leaves+in_ok-exception+in_ok-insert w ↦ λ place.
      ap (λ those. failing those place) w.failures-is
      ∙ one_left (plain_known c.args.known.now) c.args.visits.now c.loop-visit.visit-index w.in-Leaves.place (Enters 0) (failing c.loop-visit.failures) (failing w.insert.new.self) w.in_ok-exception.exception (omega arith) w.in-Leaves.is c.loop-visit.invariant w.in_ok-exception.ensures
      (λ q. one_failure (nat_eq w.in-Leaves.place q) w.in_ok-exception.exception (get_by (nat_eq q) c.loop-visit.failures) (get_by (nat_eq q) w.insert.new.self) (w.in_ok-insert.ensures.updates.0 q)) place
  | in_default w ↦ λ place.
      ap (λ those. failing those place) w.failures-is
      ∙ one_entered (plain_known c.args.known.now) c.args.visits.now c.loop-visit.visit-index w.in_default.field-0 (Enters 0) (failing c.loop-visit.failures) (omega arith) w.in_default.is c.loop-visit.invariant place
]
