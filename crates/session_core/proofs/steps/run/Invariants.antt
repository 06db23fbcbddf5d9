use Rattle.std.proofs.Common.{◌≡◌, ◌+◌, ◌-◌, ◌≤◌, ◌++◌, List, length, take, vec_len}
use Rattle.std.specs.Vec.{vec_capacity}
use Rattle.session_core.specs.declared.event.Reply.{Reply}
use Rattle.session_core.specs.Runs.{Runs}
use Rattle.session_core.proofs.steps.run.Given as goal

-- the events so far gave these replies, and there is room for the others
abbrev pub invariant-loop-event : goal.invariant-loop-event
invariant-loop-event g l =
    ((given : List Reply) × (l.replies.items ≡ l.fn.replies.items ++ given) × Runs l.fn.table (take l.event-index l.events) given l.table)
    × (vec_len l.replies + (length l.events - l.event-index) ≤ vec_capacity l.replies)
