use Rattle.fleet_answer.proofs.RowsSoFar.{HasRows}
use Rattle.fleet_answer.proofs.row_making.group_rows.Given as goal

abbrev pub invariant-loop-name : goal.invariant-loop-name
invariant-loop-name l = record {
  can : (goal.iterator-loop-name).can_next l.name-iterator;
  finite : (goal.iterator-loop-name).is_finite l.name-iterator;
  has : HasRows l.all l.slowest l.groups l.name-iterator l.rows.items;
}
