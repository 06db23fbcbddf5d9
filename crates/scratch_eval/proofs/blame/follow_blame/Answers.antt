use Rattle.std.proofs.Common.{◌≡◌, ◌<◌, ◌+◌, ◌-◌, sym, arith}
use Rattle.scratch_eval.specs.Blame.{followed}
use Rattle.scratch_eval.proofs.Querying.{followed_out, followed_to_end, followed_to_origin, followed_on}
use Rattle.scratch_eval.proofs.blame.follow_blame.Goals as goal
use Rattle.scratch_eval.proofs.blame.follow_blame.Goals.{else-loop-test, then-loop-test+in_default, then-loop-test+in-Some+in_ok-push+in_default-from}

pub loop-preserved : goal.loop-preserved
loop-preserved g c =
    let states = g.F.Failures.state c.args.failures.now in
    let count = c.args.most in
    let within : 0 < count - c.loop.counter = omega (arith, c.loop-test.true) in
    let fewer : count - (c.loop.counter + 1) ≡ count - c.loop.counter - 1 = omega arith in
    rw (c.in_ok-push.ensures.items, fewer)
    (followed_on states c.loop.chain.items (followed states count c.args.place) (count - c.loop.counter) c.loop.next c.loop.invariant
    c.in-Some.failure c.in-Some-from.source within (sym c.in-Some.ensures) c.in-Some-from.is)

pub returns : goal.returns
returns g c =
    let states = g.F.Failures.state c.args.failures.now in
    let count = c.args.most in
    elim c.loop-test.branch [
      | else-loop-test w ↦
          let none : count - c.loop.counter ≡ 0 = omega (arith, w.loop-test.false) in
          rw (c.from_vec.ensures, w.chain-is)
          (followed_out states c.loop.chain.items (followed states count c.args.place) (count - c.loop.counter) c.loop.next c.loop.invariant none)
      | then-loop-test+in_default w ↦
          rw (c.from_vec.ensures, w.chain-is)
          (followed_to_end states c.loop.chain.items (followed states count c.args.place) (count - c.loop.counter) c.loop.next c.loop.invariant (sym w.in_default.ensures))
      | then-loop-test+in-Some+in_ok-push+in_default-from w ↦
          let within : 0 < count - c.loop.counter = omega (arith, w.loop-test.true) in
          rw (c.from_vec.ensures, w.chain-is, w.in_ok-push.ensures.items)
          (followed_to_origin states c.loop.chain.items (followed states count c.args.place) (count - c.loop.counter) c.loop.next c.loop.invariant
          w.in-Some.failure within (sym w.in-Some.ensures) w.in_default-from.is)
    ]
