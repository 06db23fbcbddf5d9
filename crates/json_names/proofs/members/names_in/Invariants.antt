use Rattle.std.proofs.Common.{◌≡◌, length, map}
use Rattle.std.specs.Map.{keys_of}
use Rattle.json_names.proofs.Unread.{put_names}
use Rattle.json_names.specs.Members.{member_names}
use Rattle.json_names.proofs.members.names_in.Given as goal

-- the names so far, with those that are left put in
abbrev pub invariant-members : goal.invariant-members
invariant-members l = member_names l.fn.object ≡ put_names l.members (map (λ name. name.now) (keys_of l.names.entries))

abbrev pub decreases-members : goal.decreases-members
decreases-members l = length l.members
