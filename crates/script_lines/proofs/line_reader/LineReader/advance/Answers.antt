use Rattle.std.proofs.Common.{arith}
use Rattle.script_lines.proofs.Advancing.{reads_more, reads_last}
use Rattle.script_lines.proofs.line_reader.LineReader.advance.Goals as goal

pub returns-then-not-branch-2-clause-reads : goal.returns-then-not-branch-2-clause-reads
returns-then-not-branch-2-clause-reads g c =
    reads_last c.args.self.now c.loop-self.self c.take_line.new.self c.read_more.new.self _ _ _ _ _ c.loop-self.invariant.0 c.if-not-branch.true c.in_ok-take_line.ensures.takes c.in_ok-take_line.ensures.left
    (let some = c.if-left-eq0.false in let is = c.left.ensures in grind (arith, some, is)) c.in_ok-take_line.ensures.begun
    c.if-not-branch-2.true c.in_ok-read_more.ensures.ok c.in_ok-read_more.ensures.line

pub loop-self-preserved : goal.loop-self-preserved
loop-self-preserved g c = (
  reads_more c.args.self.now c.loop-self.self c.take_line.new.self c.read_more.new.self _ _ _ _ _ c.loop-self.invariant.0 c.if-not-branch.true c.in_ok-take_line.ensures.takes c.in_ok-take_line.ensures.left
      c.if-not-branch-2.false c.in_ok-read_more.ensures.ok c.in_ok-read_more.ensures.line,
  (let failed = c.in_ok-read_more.ensures.failures in let before = c.loop-self.invariant.1 in grind (arith, failed, before)),
)
