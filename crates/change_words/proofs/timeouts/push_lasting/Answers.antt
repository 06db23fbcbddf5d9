use Rattle.std.proofs.Common.{not, sym, ap}
use Rattle.change_words.specs.Timeouts.{is_timeout}
use Rattle.change_words.proofs.TimeoutLemmas.{if_kept, one_left}
use Rattle.change_words.proofs.timeouts.push_lasting.Goals as goal

pub returns-then-is_timeout : goal.returns-then-is_timeout
returns-then-is_timeout c = one_left (λ end. not (is_timeout end)) c.args.end.now c.args.ends.now (ap not (sym c.if-is_timeout.ensures))

pub returns : goal.returns
returns c = if_kept c.push.result (λ end. not (is_timeout end)) c.args.end.now c.args.ends.now c.push.new.self (ap not (sym c.if-is_timeout.ensures)) c.push.ensures.added
