use Rattle.std.proofs.Common.{◌≡◌, map, take}
use Rattle.std.specs.Prelude.{filter}
use Rattle.json_names.specs.Members.{is_unread}
use Rattle.json_names.specs.declared.members.TheConstants.{MOST_UNREAD}
use Rattle.json_names.proofs.members.unread_members.Given as goal

-- the unread ones of the members so far
abbrev pub invariant-loop-name : goal.invariant-loop-name
invariant-loop-name l = map (λ member. member.now) l.unread.items ≡ take MOST_UNREAD (filter (is_unread l.read) (map (λ name. name.now.now) l.yielded))
