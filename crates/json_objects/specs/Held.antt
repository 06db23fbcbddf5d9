-- What an object holds while members are added to it.
use Rattle.serde_json.specs.Data.{Members}
use Rattle.serde_json.specs.View.{members_view}
use Rattle.json_objects.specs.declared.object.Object.{Object}

abbrev pub held : Object → Members
held object = members_view object.members.entries
