use Rattle.trace_stages.specs.Held.{looked}
use Rattle.trace_stages.specs.OwnWork.{worked}
use Rattle.trace_stages.proofs.walk.walking.after.Goals as goal

pub returns-in_ok-work-in-Starts : goal.returns-in_ok-work-in-Starts
returns-in_ok-work-in-Starts c = λ plain h.
    rw c.in-Starts.is (c.begin.ensures (worked c.args.span (looked c.args.span plain) c.in-Starts.tick) (c.in_ok-work-in-Starts.ensures (looked c.args.span plain) (c.in_ok-look_again-in-Starts.ensures plain h)))

pub returns-in-Ends : goal.returns-in-Ends
returns-in-Ends c = λ plain h. rw c.in-Ends.is (c.end.ensures plain h)
