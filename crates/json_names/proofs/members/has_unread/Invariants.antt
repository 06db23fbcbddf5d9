use Rattle.std.proofs.Common.{◌≡◌, length}
use Rattle.json_names.specs.Members.{is_unread}
use Rattle.json_names.proofs.Unread.{HasUnread}
use Rattle.json_names.proofs.members.has_unread.Given as goal

-- an unread member is among those that are left
abbrev pub invariant-members : goal.invariant-members
invariant-members l = HasUnread (is_unread l.fn.read) l.initial.members ≡ HasUnread (is_unread l.fn.read) l.members

abbrev pub decreases-members : goal.decreases-members
decreases-members l = length l.members
