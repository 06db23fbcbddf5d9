-- Which types may be sent to another thread.
use denote.RattleType.{RattleType}
use denote.Param.Send.{IsSend, IsSync, sendable}
use denote.Param.SendFields.{declared_send, declared_sync}
use Rattle.std.proofs.Common.{Option}
use Rattle.share_tree.specs.declared.again.Held.{Held}
use Rattle.share_tree.specs.declared.keeps.Keeps
use Rattle.share_tree.specs.contracts.again.Held as held
use Rattle.stage_graph.specs.declared.stage.Stage.{Stage}
use Rattle.std.proofs.Crossing.{crosses, Arc-send, Arc-sync}
use Rattle.std.proofs.MapsCrossing.{crosses as maps_cross}
use Rattle.act_expr.proofs.Crossing.{expr_send, expr_sync}
use Rattle.act_expr.specs.contracts.outcome.Outcome as outcome
use Rattle.stage_graph.specs.contracts.name.Name as name
use Rattle.stage_graph.specs.contracts.name.NameList as names
use Rattle.stage_graph.specs.contracts.places.Places as places
use Rattle.stage_graph.specs.contracts.end.Ends as ends
use Rattle.stage_graph.specs.contracts.stage.Spec as spec
use Rattle.stage_graph.specs.contracts.edit.Edit as edit
use Rattle.stage_graph.specs.contracts.edit.Edits as edits
use Rattle.stage_graph.specs.contracts.name_tree.Entry as entry
use Rattle.stage_graph.specs.contracts.name_tree.Part as part
use Rattle.stage_graph.specs.contracts.name_tree.NameTree as name_tree
use Rattle.stage_graph.proofs.name_tree.Part.TheLaws.TheKnot as knot
use Rattle.stage_graph.specs.contracts.list_hasher.ListHasher as list_hasher
use Rattle.stage_graph.specs.contracts.name_table.FirstPlaces as first_places
use Rattle.stage_graph.specs.contracts.name_table.NameTable as name_table
use Rattle.stage_graph.specs.contracts.graph.Graph as graph

pub name_send : IsSend name.the_row
name_send = search (sendable, crosses, maps_cross) depth 60 fits 100000

pub name_sync : IsSync name.the_row
name_sync = search (sendable, crosses, maps_cross) depth 60 fits 100000

pub names_send : IsSend names.the_row
names_send = search (sendable, crosses, name_send) depth 60 fits 100000

pub names_sync : IsSync names.the_row
names_sync = search (sendable, crosses, name_sync) depth 60 fits 100000

pub places_send : IsSend places.the_row
places_send = search (sendable, crosses) depth 60 fits 100000

pub places_sync : IsSync places.the_row
places_sync = search (sendable, crosses) depth 60 fits 100000

pub outcome_send : IsSend outcome.the_row
outcome_send = search (sendable, crosses) depth 60 fits 100000

pub outcome_sync : IsSync outcome.the_row
outcome_sync = search (sendable, crosses) depth 60 fits 100000

pub ends_send : IsSend ends.the_row
ends_send = search (sendable, crosses) depth 60 fits 100000

pub ends_sync : IsSync ends.the_row
ends_sync = search (sendable, crosses) depth 60 fits 100000

pub spec_send : IsSend spec.the_row
spec_send = search (sendable, crosses, maps_cross, name_send, names_send, outcome_send, ends_send, expr_send) depth 60 fits 100000

pub spec_sync : IsSync spec.the_row
spec_sync = search (sendable, crosses, maps_cross, name_sync, names_sync, outcome_sync, ends_sync, expr_sync) depth 60 fits 100000

pub edit_send : IsSend edit.the_row
edit_send = search (sendable, crosses, maps_cross, name_send, names_send, outcome_send, ends_send, expr_send, spec_send) depth 60 fits 100000

pub edit_sync : IsSync edit.the_row
edit_sync = search (sendable, crosses, maps_cross, name_sync, names_sync, outcome_sync, ends_sync, expr_sync, spec_sync) depth 60 fits 100000

pub edits_send : IsSend edits.the_row
edits_send = search (sendable, crosses, edit_send) depth 60 fits 100000

pub edits_sync : IsSync edits.the_row
edits_sync = search (sendable, crosses, edit_sync) depth 60 fits 100000

list_hasher_send : IsSend list_hasher.the_row
list_hasher_send = search (sendable, crosses) depth 60 fits 100000

list_hasher_sync : IsSync list_hasher.the_row
list_hasher_sync = search (sendable, crosses) depth 60 fits 100000

pub first_places_send : IsSend first_places.the_row
first_places_send = search (sendable, crosses, maps_cross, list_hasher_send) depth 60 fits 100000

pub first_places_sync : IsSync first_places.the_row
first_places_sync = search (sendable, crosses, maps_cross, list_hasher_sync) depth 60 fits 100000

entry_send : IsSend entry.the_row
entry_send = search (sendable, crosses, name_send) depth 60 fits 100000

entry_sync : IsSync entry.the_row
entry_sync = search (sendable, crosses, name_sync) depth 60 fits 100000

entries_send : IsSend (held.the_field entry.the_row).row
entries_send = search (sendable, crosses, entry_send, entry_sync) depth 60 fits 100000

entries_sync : IsSync (held.the_field entry.the_row).row
entries_sync = search (sendable, crosses, entry_send, entry_sync) depth 60 fits 100000

part_send : IsSend (part.the_field).row
part_send = knot.both_send-Part entries_send entries_sync (λ h s y. Arc-send h s y) (λ h s y. Arc-sync h s y)

part_sync : IsSync (part.the_field).row
part_sync = knot.both_sync-Part entries_send entries_sync (λ h s y. Arc-send h s y) (λ h s y. Arc-sync h s y)

pub name_tree_send : IsSend name_tree.the_row
name_tree_send = search (sendable, crosses, part_send, part_sync) depth 60 fits 100000

pub name_tree_sync : IsSync name_tree.the_row
name_tree_sync = search (sendable, crosses, part_send, part_sync) depth 60 fits 100000

loaded_send : IsSend (held.the_field first_places.the_row).row
loaded_send = search (sendable, crosses, first_places_send, first_places_sync) depth 60 fits 100000

loaded_sync : IsSync (held.the_field first_places.the_row).row
loaded_sync = search (sendable, crosses, first_places_send, first_places_sync) depth 60 fits 100000

pub name_table_send : IsSend name_table.the_row
name_table_send = declared_send name_table.the_type (loaded_send, (search (sendable, name_tree_send), tt))

pub name_table_sync : IsSync name_table.the_row
name_table_sync = declared_sync name_table.the_type (loaded_sync, (search (sendable, name_tree_sync), tt))

module _ (K T : RattleType) (g : Keeps.Ghosts T.Denot (Option (Held Stage))) where
  pub graph_send : IsSend T → IsSend (graph.the_row K T g)
  graph_send s = search (sendable, crosses, name_table_send, name_table_sync) depth 60 fits 100000

  pub graph_sync : IsSync T → IsSync (graph.the_row K T g)
  graph_sync y = search (sendable, crosses, name_table_send, name_table_sync) depth 60 fits 100000
