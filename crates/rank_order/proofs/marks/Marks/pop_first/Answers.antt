use Rattle.rank_order.proofs.Marking.{first_taken, stays}
use Rattle.rank_order.proofs.marks.Marks.pop_first.Goals as goal

pub returns-clause-first : goal.returns-clause-first
returns-clause-first c = λ ranks are. first_taken ranks c.args.self.now c.pop_mark.new.self c.in_ok-mark.mark.rank c.in_ok-mark.mark.place c.in_ok-mark.ensures.some are

pub returns-clause-left : goal.returns-clause-left
returns-clause-left c = stays c.args.self.now c.pop_mark.new.self c.in_ok-mark.mark.rank c.in_ok-mark.mark.place c.in_ok-mark.ensures.some
