use Rattle.std.proofs.Common.{arith}
use Rattle.std.proofs.lemmas.Grind.{common_steps}
use Rattle.fleet_answer.specs.Rows.{IsTryRow}
use Rattle.fleet_answer.proofs.Lists.{zip_all, zip_next}
use Rattle.fleet_answer.proofs.row_making.try_rows.Goals as goal

pub loop-tried-preserved : goal.loop-tried-preserved
loop-tried-preserved c =
    zip_next IsTryRow c.loop-tried.rows.items c.push.new.self.items c.args.tries.now c.loop-tried.tried-index c.in_ok-row.row c.tried-item.result
    c.loop-tried-test.true c.tried-item.is (grind (arith, common_steps)) c.in_ok-row.ensures.row c.loop-tried.invariant

pub returns-clause-rows : goal.returns-clause-rows
returns-clause-rows c = zip_all IsTryRow c.loop-tried.rows.items c.args.tries.now c.loop-tried.tried-index c.loop-tried-test.false c.loop-tried.invariant
