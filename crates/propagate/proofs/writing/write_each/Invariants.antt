use Rattle.std.proofs.Common.{◌≡◌, length, drop}
use Rattle.propagate.specs.Written.{written}
use Rattle.propagate.proofs.writing.write_each.Given as goal

-- what is left to write in the list so far makes the list wanted
abbrev pub invariant-loop-at : goal.invariant-loop-at
invariant-loop-at g l = record {
  count : length (g.K.Keeps.items l.list) ≡ length (g.K.Keeps.items l.fn.list);
  same : written (g.K.Keeps.items l.list) (drop l.at l.places) (drop l.at l.others) ≡ written (g.K.Keeps.items l.fn.list) l.places l.fn.others;
}
