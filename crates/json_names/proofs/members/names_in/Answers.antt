use Rattle.json_names.proofs.Unread.{no_name_yet, one_name_more}
use Rattle.json_names.proofs.members.names_in.Goals as goal

pub members-init : goal.members-init
members-init c = no_name_yet c.args.object.now c.in-Some.members c.new-names.result.entries c.in-Some.ensures c.new-names.ensures.empty

pub members-preserved : goal.members-preserved
members-preserved c =
    one_name_more _ c.members.members c.next.new.self c.in-Some-next.name c.in-Some-next.field-0-1 c.members.names.entries c.insert.new.self.entries c.members.invariant c.in-Some-next.ensures.value c.in_ok-insert.ensures.entries
