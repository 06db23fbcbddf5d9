use Rattle.report_text.proofs.words.push_fate.Goals as goal

pub returns-in-NotReached : goal.returns-in-NotReached
returns-in-NotReached c = rw c.in-NotReached.is c.push_ticks.ensures

pub returns-in-TooLate : goal.returns-in-TooLate
returns-in-TooLate c = rw c.in-TooLate.is c.push_ticks-in-TooLate.ensures
