use Rattle.std.proofs.Common.{ap, ◌∙◌}
use Rattle.json_names.specs.Members.{is_unread}
use Rattle.json_names.proofs.Unread.{HasUnread, none_unread}
use Rattle.json_names.proofs.members.has_unread.Goals as goal

pub returns : goal.returns
returns c = λ _.
    none_unread (is_unread c.args.read.now) c.args.object.now c.in-Some.members c.in-Some.ensures
    (c.members.invariant ∙ ap (HasUnread (is_unread c.args.read.now)) c.in_default-next.ensures.value.0)
