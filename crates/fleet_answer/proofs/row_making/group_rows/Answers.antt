use Rattle.std.proofs.Common.{arith}
use Rattle.std.proofs.lemmas.Grind.{common_steps}
use Rattle.fleet_answer.proofs.RowsSoFar.{HasRows-all, HasRows-more}
use Rattle.fleet_answer.proofs.row_making.group_rows.Goals as goal

pub loop-name-preserved : goal.loop-name-preserved
loop-name-preserved c = record {
  can = tt;
  finite = tt;
  has =
      HasRows-more c.args.all.now c.args.slowest c.args.groups.now c.loop-name.name-iterator c.next.new.self c.loop-name.rows.items c.push.new.self.items (c.in-Some.name.now, c.in-Some.counts.now)
      c.in_ok-row.row c.in-Some.ensures.steps (grind (arith, common_steps)) c.in_ok-row.ensures.row c.loop-name.invariant.has;
}

pub returns-clause-rows : goal.returns-clause-rows
returns-clause-rows c = HasRows-all c.args.all.now c.args.slowest c.args.groups.now c.loop-name.name-iterator c.loop-name.rows.items c.in-None.ensures.steps.0 c.loop-name.invariant.has
