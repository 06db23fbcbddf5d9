use Rattle.desk.proofs.desk.Desk.close.Goals as goal

pub returns-then-not-may_end-clause-torn : goal.returns-then-not-may_end-clause-torn
returns-then-not-may_end-clause-torn g c = λ torn. rw c.as_mut_slice.ensures.value at c.if-not-may_end.ensures.ends
