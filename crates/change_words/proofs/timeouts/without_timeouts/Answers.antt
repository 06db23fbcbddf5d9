use Rattle.std.proofs.Common.{not}
use Rattle.change_words.specs.Timeouts.{is_timeout}
use Rattle.change_words.proofs.TimeoutLemmas.{filtered_more}
use Rattle.change_words.proofs.timeouts.without_timeouts.Goals as goal

pub loop-end-preserved : goal.loop-end-preserved
loop-end-preserved c =
    filtered_more (λ end. not (is_timeout end)) c.args.ends.now c.loop-end.end-index c.end-item.result c.loop-end.made c.push_lasting.new.ends
    c.loop-end-test.true c.end-item.is c.loop-end.invariant c.in_ok-push_lasting.ensures
