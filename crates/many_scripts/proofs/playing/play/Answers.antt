use Rattle.std.proofs.Common.{arith, refl, ◌∙◌}
use Rattle.std.specs.Option.{option_map}
use Rattle.std.proofs.lemmas.Result.{err_from_is_err_and}
use Rattle.serve_script.specs.Faults.{is_read_fault, served, unread}
use Rattle.script_lines.specs.LineReader.{StopsReading}
use Rattle.script_lines.specs.Seen.{seen}
use Rattle.serve_script.specs.declared.fault.ServeFault.{ServeFault}
use Rattle.many_scripts.proofs.PlayedOn.{at_err, begins, comes_to_end, goes_on, stops_answering, stops_in_line}
use Rattle.many_scripts.proofs.playing.play.Goals as goal

pub loop-steps-init : goal.loop-steps-init
loop-steps-init g c = (
  begins c.args.format c.args.client.now c.args.reader.now (g.R.Source.remaining c.args.source.now) (g.S.Sink.held c.args.sink.now) c.requires.heard c.requires.nothing,
  refl,
  refl,
)

pub loop-steps-preserved : goal.loop-steps-preserved
loop-steps-preserved g c = (
  goes_on c.args.format c.args.reader.now.left c.loop-steps.number c.form.result c.args.client.now c.loop-steps.client c.answer_any.new.client c.loop-steps.reader c.advance.new.self
      (g.R.Source.remaining c.args.source.now) (g.R.Source.remaining c.loop-steps.source) (g.R.Source.remaining c.advance.new.source)
      (g.S.Sink.held c.args.sink.now) (g.S.Sink.held c.loop-steps.sink) (g.S.Sink.held c.answer_any.new.sink)
      (option_map seen c.line.result) c.in_ok-advance.field-0
      c.loop-steps.invariant.0 c.if-branch.true c.in_ok-advance.ensures.reads c.line.ensures c.form.ensures c.in_ok-answer_any.ensures.ok,
  c.in_ok-advance.ensures.no_failure ∙ c.loop-steps.invariant.1,
  (let more = c.in_ok-answer_any.ensures.failures in let before = c.loop-steps.invariant.2 in grind (arith, more, before)),
)

pub returns-in_err-advance-clause-err : goal.returns-in_err-advance-clause-err
returns-in_err-advance-clause-err g c =
    at_err c.from_residual.result
    (λ (fault : ServeFault). StopsReading (is_read_fault fault) c.args.reader.now.left (g.R.Source.remaining c.args.source.now) (g.R.Source.remaining c.advance.new.source) (g.R.Source.failures c.args.source.now) (g.R.Source.failures c.advance.new.source))
    (unread c.in_err-advance.field-0.0) (err_from_is_err_and c.from_residual.result c.from_residual.ensures.1)
    (stops_in_line c.args.format c.args.reader.now.left c.loop-steps.number c.args.client.now c.loop-steps.client c.loop-steps.reader
    (g.R.Source.remaining c.args.source.now) (g.R.Source.remaining c.loop-steps.source) (g.R.Source.remaining c.advance.new.source)
    (g.R.Source.failures c.args.source.now) (g.R.Source.failures c.loop-steps.source) (g.R.Source.failures c.advance.new.source)
    (g.S.Sink.held c.args.sink.now) (g.S.Sink.held c.loop-steps.sink) c.in_err-advance.field-0.0
    c.loop-steps.invariant.0 c.loop-steps.invariant.1 c.in_err-advance.ensures.err)

pub returns-in_err-answer_any-clause-err : goal.returns-in_err-answer_any-clause-err
returns-in_err-answer_any-clause-err g c =
    at_err c.from_residual-in_err-answer_any.result
    (λ (fault : ServeFault). StopsReading (is_read_fault fault) c.args.reader.now.left (g.R.Source.remaining c.args.source.now) (g.R.Source.remaining c.advance.new.source) (g.R.Source.failures c.args.source.now) (g.R.Source.failures c.advance.new.source))
    (served c.in_err-answer_any.field-0.0) (err_from_is_err_and c.from_residual-in_err-answer_any.result c.from_residual-in_err-answer_any.ensures.1)
    (stops_answering c.args.format c.args.reader.now.left c.loop-steps.number c.args.client.now c.loop-steps.client c.loop-steps.reader c.advance.new.self
    (g.R.Source.remaining c.args.source.now) (g.R.Source.remaining c.loop-steps.source) (g.R.Source.remaining c.advance.new.source)
    (g.R.Source.failures c.args.source.now) (g.R.Source.failures c.advance.new.source)
    (g.S.Sink.held c.args.sink.now) (g.S.Sink.held c.loop-steps.sink) c.in_err-answer_any.field-0.0 c.in_ok-advance.field-0
    c.loop-steps.invariant.0 c.in_ok-advance.ensures.reads (c.in_ok-advance.ensures.no_failure ∙ c.loop-steps.invariant.1))

pub returns-in_err-answer_any-2-clause-err : goal.returns-in_err-answer_any-2-clause-err
returns-in_err-answer_any-2-clause-err g c =
    at_err c.from_residual-in_err-answer_any-2.result
    (λ (fault : ServeFault). StopsReading (is_read_fault fault) c.args.reader.now.left (g.R.Source.remaining c.args.source.now) (g.R.Source.remaining c.advance.new.source) (g.R.Source.failures c.args.source.now) (g.R.Source.failures c.advance.new.source))
    (served c.in_err-answer_any-2.field-0.0) (err_from_is_err_and c.from_residual-in_err-answer_any-2.result c.from_residual-in_err-answer_any-2.ensures.1)
    (stops_answering c.args.format c.args.reader.now.left c.loop-steps.number c.args.client.now c.loop-steps.client c.loop-steps.reader c.advance.new.self
    (g.R.Source.remaining c.args.source.now) (g.R.Source.remaining c.loop-steps.source) (g.R.Source.remaining c.advance.new.source)
    (g.R.Source.failures c.args.source.now) (g.R.Source.failures c.advance.new.source)
    (g.S.Sink.held c.args.sink.now) (g.S.Sink.held c.loop-steps.sink) c.in_err-answer_any-2.field-0.0 c.in_ok-advance.field-0
    c.loop-steps.invariant.0 c.in_ok-advance.ensures.reads (c.in_ok-advance.ensures.no_failure ∙ c.loop-steps.invariant.1))

pub returns-clause-ok : goal.returns-clause-ok
returns-clause-ok g c =
    comes_to_end c.args.format c.args.reader.now.left c.loop-steps.number c.form-2.result c.args.client.now c.loop-steps.client c.answer_any-2.new.client c.loop-steps.reader c.advance.new.self
    (g.R.Source.remaining c.args.source.now) (g.R.Source.remaining c.loop-steps.source) (g.R.Source.remaining c.advance.new.source)
    (g.R.Source.failures c.args.source.now) (g.R.Source.failures c.advance.new.source)
    (g.S.Sink.held c.args.sink.now) (g.S.Sink.held c.loop-steps.sink) (g.S.Sink.held c.answer_any-2.new.sink)
    (option_map seen c.line-2.result) c.in_ok-advance.field-0
    c.loop-steps.invariant.0 c.if-branch.false c.in_ok-advance.ensures.reads (c.in_ok-advance.ensures.no_failure ∙ c.loop-steps.invariant.1) c.line-2.ensures c.form-2.ensures c.in_ok-answer_any-2.ensures.ok
