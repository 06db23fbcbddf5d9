use Rattle.change_words.specs.Timeouts.{delayed}
use Rattle.change_words.proofs.TimeoutLemmas.{mapped_more}
use Rattle.change_words.proofs.timeouts.all_delayed.Goals as goal

pub loop-end-preserved : goal.loop-end-preserved
loop-end-preserved c =
    mapped_more (delayed c.args.delay) c.args.ends.now c.loop-end.end-index c.end-item.result c.delayed.result c.loop-end.made c.push.new.self
    c.loop-end-test.true c.end-item.is c.delayed.ensures c.loop-end.invariant c.in_ok-push.ensures.added
