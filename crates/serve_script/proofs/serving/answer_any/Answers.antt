use Rattle.std.proofs.Common.{OnOk, OnErr, subst, sym, ap}
use Rattle.std.specs.Option.{option_map}
use Rattle.text_io.specs.Sink.{AppendsPrefix}
use Rattle.script_lines.specs.Seen.{seen}
use Rattle.serve_script.specs.Answers.{IsAnswered, answer_line}
use Rattle.serve_script.proofs.Answering.{advances, skips, stops_short}
use Rattle.serve_script.proofs.Playing.{plays, plays_blank}
use Rattle.serve_script.proofs.serving.answer_any.Goals as goal

pub returns-in-Some-clause-ok : goal.returns-in-Some-clause-ok
returns-in-Some-clause-ok g c =
    let held = g.S.Sink.held c.args.sink.now in
    let holds = g.S.Sink.held c.answer.new.sink in
    advances c.answer.result c.args.format c.args.number c.form.result c.args.server.now c.answer.new.self (option_map seen c.args.line) held holds c.form.ensures
    (subst (λ line. OnOk c.answer.result (IsAnswered (answer_line c.form.result c.args.server.now (option_map seen line)) c.answer.new.self held holds)) (sym c.in-Some.is) c.answer.ensures.ok)

pub returns-in-Some-clause-err : goal.returns-in-Some-clause-err
returns-in-Some-clause-err g c =
    let held = g.S.Sink.held c.args.sink.now in
    let holds = g.S.Sink.held c.answer.new.sink in
    stops_short c.answer.result c.args.format c.args.number c.form.result c.args.server.now (option_map seen c.args.line) held holds c.form.ensures
    (subst (λ line. OnErr c.answer.result (AppendsPrefix held holds (answer_line c.form.result c.args.server.now (option_map seen line)).0)) (sym c.in-Some.is) c.answer.ensures.err)

pub returns-in-None-clause-ok : goal.returns-in-None-clause-ok
returns-in-None-clause-ok g c =
    skips c.args.format c.args.number c.args.server.now (option_map seen c.args.line) (g.S.Sink.held c.args.sink.now) (ap (option_map seen) c.in-None.is)

pub returns-in-Some-clause-played : goal.returns-in-Some-clause-played
returns-in-Some-clause-played g c =
    let held = g.S.Sink.held c.args.sink.now in
    let holds = g.S.Sink.held c.answer.new.sink in
    plays c.answer.result c.args.format c.args.number c.form.result c.args.server.now c.answer.new.self (option_map seen c.args.line) held holds c.form.ensures
    (subst (λ line. OnOk c.answer.result (IsAnswered (answer_line c.form.result c.args.server.now (option_map seen line)) c.answer.new.self held holds)) (sym c.in-Some.is) c.answer.ensures.ok)

pub returns-in-None-clause-played : goal.returns-in-None-clause-played
returns-in-None-clause-played g c = plays_blank c.args.format c.args.number c.args.server.now (option_map seen c.args.line) (ap (option_map seen) c.in-None.is)
