use Rattle.std.proofs.Common.{◌≡◌, None, take}
use Rattle.std.specs.Prelude.{find, option_copied}
use Rattle.trace_groups.specs.Replies.{answers_for}
use Rattle.trace_groups.proofs.reply.replying_span.Given as goal

-- none of those so far
abbrev pub invariant-loop-place : goal.invariant-loop-place
invariant-loop-place l = find (answers_for l.spans l.parents (option_copied l.fn.wanted)) (take l.place-index l.order) ≡ None
