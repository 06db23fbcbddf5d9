use Rattle.std.proofs.Common.{Err, Some, OnOk, ap, ◌∙◌, subst}
use Rattle.std.specs.Io.KnownBytes.{Appends}
use Rattle.serve_script.specs.Answers.{report_asked}
use Rattle.many_scripts.proofs.Steps.{reports_against, reports_against_none}
use Rattle.many_scripts.proofs.answering.answer_against.Goals as goal

pub returns-in-Ok-clause-ok : goal.returns-in-Ok-clause-ok
returns-in-Ok-clause-ok g c =
    let held = g.S.Sink.held c.args.sink.now in
    let holds = g.S.Sink.held c.write_asked.new.sink in
    reports_against c.args.access.now.form c.write_asked.result c.args.client.now c.version.new.self c.args.version.now c.args.asked.now c.args.number c.in-Ok.against held holds
    c.requires.heard c.in-Ok.ensures.later c.in-Ok.ensures.calls c.in-Ok.ensures.found.0 c.in-Ok.ensures.found.1
    (subst (λ against. OnOk c.write_asked.result (Appends held holds (report_asked c.args.access.now.form c.args.version.now (Some against) c.args.asked.now))) c.deref.ensures c.write_asked.ensures.ok)

pub returns-in-Err-NoVersion-clause-ok : goal.returns-in-Err-NoVersion-clause-ok
returns-in-Err-NoVersion-clause-ok g c =
    reports_against_none c.args.access.now.form c.tell_no_version.result c.args.client.now c.version.new.self c.args.version.now c.args.asked.now c.args.number (g.S.Sink.held c.args.sink.now) (g.S.Sink.held c.tell_no_version.new.sink)
    c.requires.heard c.version.ensures.later c.version.ensures.calls (c.version.ensures.none (c.in-Err-NoVersion.is ∙ ap Err c.in-Err-NoVersion.field-0-is)) c.tell_no_version.ensures.ok
