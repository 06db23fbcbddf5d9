-- Which types may be sent to another thread, with a representation whose lists may be sent.
use denote.RattleType.{RattleType}
use denote.Param.Send.{IsSend, IsSync, sendable}
use denote.Param.SendFields.{declared_send, declared_sync}
use denote.Struct.Field.{u32-field}
use Rattle.std.proofs.Common.{Option}
use Rattle.std.proofs.Crossing.{crosses}
use Rattle.std.proofs.MapsCrossing.{crosses as maps_cross}
use Rattle.share_tree.specs.declared.again.Held.{Held}
use Rattle.share_tree.specs.declared.keeps.Keeps
use Rattle.stage_graph.specs.declared.places.Places.{Places}
use Rattle.stage_graph.specs.declared.stage.Stage.{Stage}
use Rattle.stage_ops.specs.declared.state.State.{State}
use Rattle.stage_graph.proofs.Crossing.{edits_send, edits_sync}
use Rattle.version_store.proofs.Crossing.{version_send}
use Rattle.session_core.specs.contracts.event.Event as event
use Rattle.session_core.specs.contracts.event.Entry as entry
use Rattle.session_core.specs.contracts.event.Reply as reply
use Rattle.session_core.specs.contracts.refusal.Refusal as refusal
use Rattle.session_core.specs.contracts.machine.Span as span
use Rattle.session_core.specs.contracts.machine.Machine as machine
use Rattle.session_core.specs.contracts.table.Table as table

pub event_send : IsSend event.the_row
event_send = search (sendable, crosses, edits_send, edits_sync) depth 60 fits 100000

pub event_sync : IsSync event.the_row
event_sync = search (sendable, crosses, edits_send, edits_sync) depth 60 fits 100000

pub refusal_send : IsSend refusal.the_row
refusal_send = search (sendable, crosses) depth 60 fits 100000

pub refusal_sync : IsSync refusal.the_row
refusal_sync = search (sendable, crosses) depth 60 fits 100000

pub reply_send : IsSend reply.the_row
reply_send = search (sendable, crosses) depth 60 fits 100000

pub reply_sync : IsSync reply.the_row
reply_sync = search (sendable, crosses) depth 60 fits 100000

pub entry_send : IsSend entry.the_row
entry_send = declared_send entry.the_type (search sendable, (event_send, (reply_send, tt)))

pub entry_sync : IsSync entry.the_row
entry_sync = declared_sync entry.the_type (search sendable, (event_sync, (reply_sync, tt)))

pub span_send : IsSend span.the_row
span_send = search (sendable, crosses) depth 60 fits 100000

-- T to T3: the representation's lists of states, ranks, dependents and stages
module _ (K T T' T'' T3 : RattleType) (g : Keeps.Ghosts T3.Denot (Option (Held Stage))) (g' : Keeps.Ghosts T'.Denot (u32-field).Value)
    (g'' : Keeps.Ghosts T''.Denot (Held Places)) (g3 : Keeps.Ghosts T.Denot (Held State))
    (s : IsSend T) (y : IsSync T) (s' : IsSend T') (y' : IsSync T') (s'' : IsSend T'') (y'' : IsSync T'') (s3 : IsSend T3) (y3 : IsSync T3) where
  machine_send : IsSend (machine.the_row K T T' T'' T3 g g' g'' g3)
  machine_send = let a = version_send K T T' T'' T3 g g' g'' g3 s y s' y' s'' y'' s3 y3 in search (sendable, crosses, maps_cross, span_send) depth 60 fits 100000

  pub table_send : IsSend (table.the_row K T T' T'' T3 g g' g'' g3)
  table_send = let a = machine_send in search (sendable, crosses, entry_send) depth 60 fits 100000
