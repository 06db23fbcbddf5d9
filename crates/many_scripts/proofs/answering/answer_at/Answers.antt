use Rattle.std.proofs.Common.{Err, ap, ◌∙◌, refl}
use Rattle.many_scripts.proofs.Steps.{edits_read, edits_none}
use Rattle.many_scripts.proofs.answering.answer_at.Goals as goal

pub returns-in-Ok-clause-ok : goal.returns-in-Ok-clause-ok
returns-in-Ok-clause-ok g c =
    edits_read c.args.access.now.form c.answer_commit.result c.args.client.now c.version.new.self c.answer_commit.new.client c.args.session c.args.number c.in-Ok.base c.in-Ok.base c.args.edits c.args.listed (g.S.Sink.held c.args.sink.now) (g.S.Sink.held c.answer_commit.new.sink)
    c.in-Ok.ensures.later c.in-Ok.ensures.calls c.in-Ok.ensures.found.0 c.in-Ok.ensures.found.1 refl c.answer_commit.ensures.ok

pub returns-in-Err-NoVersion-clause-ok : goal.returns-in-Err-NoVersion-clause-ok
returns-in-Err-NoVersion-clause-ok g c =
    edits_none c.args.access.now.form c.tell_no_version.result c.args.client.now c.version.new.self c.args.session c.args.number c.args.edits c.args.listed (g.S.Sink.held c.args.sink.now) (g.S.Sink.held c.tell_no_version.new.sink)
    c.requires.heard c.version.ensures.later c.version.ensures.calls (c.version.ensures.none (c.in-Err-NoVersion.is ∙ ap Err c.in-Err-NoVersion.field-0-is)) c.tell_no_version.ensures.ok
