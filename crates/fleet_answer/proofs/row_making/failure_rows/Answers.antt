use Rattle.std.proofs.Common.{arith}
use Rattle.std.proofs.lemmas.Grind.{common_steps}
use Rattle.fleet_answer.specs.Rows.{failure_row}
use Rattle.fleet_answer.proofs.Lists.{rows_all, rows_more}
use Rattle.fleet_answer.proofs.row_making.failure_rows.Goals as goal

pub loop-failure-preserved : goal.loop-failure-preserved
loop-failure-preserved c = record {
  can = tt;
  finite = tt;
  whole =
      rows_more failure_row c.loop-failure.rows.items c.push.new.self.items c.loop-failure.failure-iterator c.next.new.self c.args.failures.now c.in_ok-row.row (c.in-Some.failure.now, c.in-Some.replies.now)
      (grind (arith, common_steps)) c.in-Some.ensures.steps c.in_ok-row.ensures.row c.loop-failure.invariant.whole;
}

pub returns-clause-rows : goal.returns-clause-rows
returns-clause-rows c = rows_all failure_row c.loop-failure.rows.items c.loop-failure.failure-iterator c.args.failures.now c.in-None.ensures.steps.0 c.loop-failure.invariant.whole
