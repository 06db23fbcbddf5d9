use Rattle.std.proofs.Common.{Err, ap, ◌∙◌}
use Rattle.many_scripts.proofs.Steps.{reports_version, reports_none}
use Rattle.many_scripts.proofs.answering.answer_version.Goals as goal

pub returns-in-Ok-clause-ok : goal.returns-in-Ok-clause-ok
returns-in-Ok-clause-ok g c =
    reports_version c.args.access.now.form c.answer_of.result c.args.client.now c.version.new.self c.answer_of.new.client c.args.number c.in-Ok.version c.deref.result.now c.args.asked.now (g.S.Sink.held c.args.sink.now) (g.S.Sink.held c.answer_of.new.sink)
    c.in-Ok.ensures.later c.in-Ok.ensures.calls c.in-Ok.ensures.found.0 c.in-Ok.ensures.found.1 c.deref.ensures c.answer_of.ensures.ok

pub returns-in-Err-NoVersion-clause-ok : goal.returns-in-Err-NoVersion-clause-ok
returns-in-Err-NoVersion-clause-ok g c =
    reports_none c.args.access.now.form c.tell_no_version.result c.args.client.now c.version.new.self c.args.number c.args.asked.now (g.S.Sink.held c.args.sink.now) (g.S.Sink.held c.tell_no_version.new.sink)
    c.requires.heard c.version.ensures.later c.version.ensures.calls (c.version.ensures.none (c.in-Err-NoVersion.is ∙ ap Err c.in-Err-NoVersion.field-0-is)) c.tell_no_version.ensures.ok
