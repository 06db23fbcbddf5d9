use Rattle.trace_stages.specs.HandedOn.{handed_sources}
use Rattle.trace_stages.specs.Known.{plain_known}
use Rattle.trace_stages.specs.Outcomes.{failing}
use Rattle.trace_stages.proofs.Tables.{table_more}
use Rattle.trace_stages.proofs.handed_on.all_handed.Goals as goal

pub loop-place-preserved : goal.loop-place-preserved
loop-place-preserved c = table_more (λ those. those.items) (handed_sources (plain_known c.args.known.now) (failing c.args.failures.now)) c.loop-place.all.items c.push.new.self.items c.in_ok-sources.sources c.loop-place.place c.loop-place.invariant c.in_ok-sources.ensures c.in_ok-push.ensures.items
