use Rattle.std.proofs.Common.{refl}
use Rattle.many_scripts.proofs.Steps.{edits_head, edits_refused}
use Rattle.many_scripts.proofs.answering.answer_head.Goals as goal

pub returns-in-Ok-clause-ok : goal.returns-in-Ok-clause-ok
returns-in-Ok-clause-ok g c =
    edits_head c.args.access.now.form c.answer_commit.result c.args.client.now c.snapshot.new.client c.answer_commit.new.client c.args.session c.in-Ok.base c.in-Ok.base c.args.edits c.args.listed (g.S.Sink.held c.args.sink.now) (g.S.Sink.held c.answer_commit.new.sink)
    c.in-Ok.ensures.later c.in-Ok.ensures.kept c.in-Ok.ensures.gives refl c.answer_commit.ensures.ok

pub returns-in-Err-Refused-clause-ok : goal.returns-in-Err-Refused-clause-ok
returns-in-Err-Refused-clause-ok g c =
    edits_refused c.args.access.now.form c.write_lone_reply.result c.args.client.now c.snapshot.new.client c.args.session c.in-Err-Refused.refusal c.args.edits c.args.listed (g.S.Sink.held c.args.sink.now) (g.S.Sink.held c.write_lone_reply.new.sink)
    c.requires.heard c.in-Err-Refused.ensures.later (rw c.in-Err-Refused.field-0-is at c.in-Err-Refused.ensures.kept) (rw c.in-Err-Refused.field-0-is at c.in-Err-Refused.ensures.named) (rw c.in-Err-Refused.field-0-is at c.write_lone_reply.ensures.ok)
