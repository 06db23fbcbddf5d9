use Rattle.std.proofs.Common.{OnOk, option_copied, subst, sym, ◌∙◌}
use Rattle.std.specs.Io.KnownBytes.{Appends}
use Rattle.serve_script.specs.Answers.{against_in, report_asked}
use Rattle.many_scripts.proofs.Steps.{reports}
use Rattle.many_scripts.proofs.answering.answer_of.Goals as goal

pub returns-in-None-clause-ok : goal.returns-in-None-clause-ok
returns-in-None-clause-ok g c =
    let held = g.S.Sink.held c.args.sink.now in
    let holds = g.S.Sink.held c.write_asked.new.sink in
    reports c.args.access.now.form c.write_asked.result c.args.client.now c.args.version.now c.args.asked.now (against_in c.args.asked.now) held holds c.requires.heard (sym c.against_in.ensures ∙ c.in-None.is)
    (subst (λ against. OnOk c.write_asked.result (Appends held holds (report_asked c.args.access.now.form c.args.version.now (option_copied against) c.args.asked.now))) c.no_version-against.ensures c.write_asked.ensures.ok)
