use Rattle.std.proofs.Common.{arith, refl, ◌+◌, ◌∙◌}
use Rattle.std.specs.Option.{option_map}
use Rattle.text_io.proofs.Written.{Advances-none, Advances-trans, StopsShort-after, StopsShort-from_step}
use Rattle.script_lines.specs.Seen.{seen}
use Rattle.serve_script.proofs.Steps.{answers_line, goes_on, on_err, stops_in_line}
use Rattle.serve_script.proofs.Counted.{takes_one}
use Rattle.serve_script.specs.Answers.{answers_from, played_from}
use Rattle.serve_script.proofs.Playing.{plays_begun, plays_line, then_plays}
use Rattle.serve_script.proofs.serving.answer_waiting.Goals as goal

pub loop-lines-init : goal.loop-lines-init
loop-lines-init g c = record {
  answered = Advances-none _ _ _ (λ bytes. refl);
  played = λ bytes. refl;
  counted = omega arith;
  left = refl;
  unfailed = refl;
}

pub loop-lines-preserved : goal.loop-lines-preserved
loop-lines-preserved g c = record {
  answered = Advances-trans _ _ _ _ _ _ c.loop-lines.invariant.answered
      (answers_line (answers_from c.args.format c.loop-lines.number c.loop-lines.server) (answers_from c.args.format (c.loop-lines.number + 1) c.answer_any.new.server) c.loop-lines.lines c.take_line.new.self c.clear.new.self (option_map seen c.line.result) _ _ _
      c.if-branch.true c.in_ok-take_line.ensures.takes c.line.ensures c.clear.ensures.line c.clear.ensures.waiting c.in_ok-answer_any.ensures.ok);
  played = then_plays _ _ _ c.loop-lines.invariant.played
      (plays_line (played_from c.args.format c.loop-lines.number c.loop-lines.server) (played_from c.args.format (c.loop-lines.number + 1) c.answer_any.new.server) c.loop-lines.lines c.take_line.new.self c.clear.new.self (option_map seen c.line.result) _
      c.if-branch.true c.in_ok-take_line.ensures.takes c.line.ensures c.clear.ensures.line c.clear.ensures.waiting c.in_ok-answer_any.ensures.played);
  counted = takes_one c.loop-lines.lines c.take_line.new.self c.clear.new.self c.loop-lines.number _ _ c.if-branch.true c.in_ok-take_line.ensures.takes c.clear.ensures.waiting c.loop-lines.invariant.counted;
  left = c.clear.ensures.left ∙ c.in_ok-take_line.ensures.left ∙ c.loop-lines.invariant.left;
  unfailed = let more = c.in_ok-answer_any.ensures.failures in let before = c.loop-lines.invariant.unfailed in grind (arith, more, before);
}

pub returns-in_err-take_line-clause-err : goal.returns-in_err-take_line-clause-err
returns-in_err-take_line-clause-err g c = on_err _ (StopsShort-from_step _ _ _ _ c.loop-lines.invariant.answered)

pub returns-in_err-answer_any-clause-err : goal.returns-in_err-answer_any-clause-err
returns-in_err-answer_any-clause-err g c =
    on_err _ (StopsShort-after _ _ _ _ _ c.loop-lines.invariant.answered
    (stops_in_line (answers_from c.args.format c.loop-lines.number c.loop-lines.server) c.loop-lines.lines c.take_line.new.self (option_map seen c.line.result) _ _ _
    c.if-branch.true c.in_ok-take_line.ensures.takes c.line.ensures c.in_err-answer_any.ensures.err))

pub returns-clause-ok : goal.returns-clause-ok
returns-clause-ok g c =
    goes_on (answers_from c.args.format c.args.number.now c.args.server.now) (answers_from c.args.format c.loop-lines.number c.loop-lines.server) c.args.lines.now c.loop-lines.lines c.take_line.new.self _ _ _
    c.if-branch.false c.in_ok-take_line.ensures.takes c.loop-lines.invariant.answered

pub returns-clause-played : goal.returns-clause-played
returns-clause-played g c =
    plays_begun (played_from c.args.format c.args.number.now c.args.server.now) (played_from c.args.format c.loop-lines.number c.loop-lines.server) c.args.lines.now c.loop-lines.lines c.take_line.new.self _
    c.if-branch.false c.in_ok-take_line.ensures.takes c.loop-lines.invariant.played
