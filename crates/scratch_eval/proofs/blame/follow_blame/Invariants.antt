use Rattle.std.proofs.Common.{◌≡◌, ◌-◌, ◌++◌}
use Rattle.scratch_eval.specs.Blame.{followed}
use Rattle.scratch_eval.proofs.blame.follow_blame.Given as goal

abbrev pub invariant-loop : goal.invariant-loop
invariant-loop g l = l.chain.items ++ followed (g.F.Failures.state l.failures) (l.most - l.counter) l.next ≡ followed (g.F.Failures.state l.failures) l.most l.place
