use Rattle.many_scripts.proofs.Steps.{reports_head, reports_refused}
use Rattle.many_scripts.proofs.answering.answer_stand.Goals as goal

pub returns-in-Ok-clause-ok : goal.returns-in-Ok-clause-ok
returns-in-Ok-clause-ok g c =
    reports_head c.args.access.now.form c.answer_of.result c.args.client.now c.snapshot.new.client c.answer_of.new.client c.args.session c.in-Ok.version c.deref.result.now c.args.asked.now (g.S.Sink.held c.args.sink.now) (g.S.Sink.held c.answer_of.new.sink)
    c.in-Ok.ensures.later c.in-Ok.ensures.kept c.in-Ok.ensures.gives c.deref.ensures c.answer_of.ensures.ok

pub returns-in-Err-Refused-clause-ok : goal.returns-in-Err-Refused-clause-ok
returns-in-Err-Refused-clause-ok g c =
    reports_refused c.args.access.now.form c.write_lone_reply.result c.args.client.now c.snapshot.new.client c.args.session c.in-Err-Refused.refusal c.args.asked.now (g.S.Sink.held c.args.sink.now) (g.S.Sink.held c.write_lone_reply.new.sink)
    c.requires.heard c.in-Err-Refused.ensures.later (rw c.in-Err-Refused.field-0-is at c.in-Err-Refused.ensures.kept) (rw c.in-Err-Refused.field-0-is at c.in-Err-Refused.ensures.named) c.write_lone_reply.ensures.ok
