use Rattle.std.proofs.Common.{arith}
use Rattle.std.specs.Prelude.{nat_eq}
use Rattle.std.specs.HashMap.{get_by}
use Rattle.trace_stages.proofs.Beginning.{one_noted}
use Rattle.trace_stages.proofs.beginnings.note_all.Goals as goal

pub loop-begin-preserved : goal.loop-begin-preserved
loop-begin-preserved c = one_noted c.args.begins.now c.loop-begin.begin-index _ (λ q. get_by (nat_eq q) c.args.begun.now) (λ q. get_by (nat_eq q) c.loop-begin.begun) (λ q. get_by (nat_eq q) c.note.new.begun) (omega arith) c.loop-begin.invariant c.in_ok-note.ensures
