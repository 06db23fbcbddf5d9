use Rattle.std.proofs.Common.{◌∙◌, ap, arith}
use Rattle.std.specs.Prelude.{nat_eq}
use Rattle.std.specs.HashMap.{get_by}
use Rattle.trace_stages.proofs.Beginning.{all_noted}
use Rattle.trace_stages.proofs.beginnings.all_begun.Goals as goal

pub loop-holding-preserved : goal.loop-holding-preserved
loop-holding-preserved c = all_noted c.args.holdings.now c.loop-holding.holding-index c.holding-item.result c.deref.result.now (λ q. get_by (nat_eq q) c.loop-holding.begun) (λ q. get_by (nat_eq q) c.note_all.new.begun) (omega arith) (c.deref.ensures.value ∙ ap (λ those. those.begins.items) c.holding-item.is) c.loop-holding.invariant c.in_ok-note_all.ensures
