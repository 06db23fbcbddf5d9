-- Which types may be sent to another thread, with a representation whose lists may be sent.
use denote.RattleType.{RattleType}
use denote.Param.Send.{IsSend, IsSync, sendable}
use denote.Struct.Field.{u32-field}
use Rattle.std.proofs.Common.{Option}
use Rattle.std.proofs.Crossing.{crosses}
use Rattle.share_tree.specs.declared.again.Held.{Held}
use Rattle.share_tree.specs.declared.keeps.Keeps
use Rattle.stage_graph.specs.declared.places.Places.{Places}
use Rattle.stage_graph.specs.declared.stage.Stage.{Stage}
use Rattle.stage_ops.specs.declared.state.State.{State}
use Rattle.stage_graph.proofs.Crossing.{edits_send, edits_sync, places_send, places_sync, graph_send, graph_sync}
use Rattle.rank_order.specs.contracts.order.Order as order
use Rattle.propagate.specs.contracts.states.States as states
use Rattle.version_store.specs.contracts.evaluated.Evaluated as evaluated
use Rattle.version_store.specs.contracts.origin.Origin as origin
use Rattle.version_store.specs.contracts.version.Version as version

-- T to T3: the representation's lists of states, ranks, dependents and stages
module _ (K T T' T'' T3 : RattleType) (g : Keeps.Ghosts T3.Denot (Option (Held Stage))) (g' : Keeps.Ghosts T'.Denot (u32-field).Value)
    (g'' : Keeps.Ghosts T''.Denot (Held Places)) (g3 : Keeps.Ghosts T.Denot (Held State)) where
  pub order_send : IsSend T' → IsSend T'' → IsSend T3 → IsSync T3 → IsSend (order.the_row K T' T'' T3 g g' g'')
  order_send s' s'' s3 y3 = let a = graph_send K T3 g s3 in let b = graph_sync K T3 g y3 in search (sendable, crosses) depth 60 fits 100000

  pub order_sync : IsSync T' → IsSync T'' → IsSend T3 → IsSync T3 → IsSync (order.the_row K T' T'' T3 g g' g'')
  order_sync y' y'' s3 y3 = let a = graph_send K T3 g s3 in let b = graph_sync K T3 g y3 in search (sendable, crosses) depth 60 fits 100000

  pub states_send : IsSend T → IsSend (states.the_row K T T' T'' T3 g g' g'' g3)
  states_send s = search (sendable, crosses) depth 60 fits 100000

  pub states_sync : IsSync T → IsSync (states.the_row K T T' T'' T3 g g' g'' g3)
  states_sync y = search (sendable, crosses) depth 60 fits 100000

  module _ (s : IsSend T) (y : IsSync T) (s' : IsSend T') (y' : IsSync T') (s'' : IsSend T'') (y'' : IsSync T'') (s3 : IsSend T3) (y3 : IsSync T3) where
    pub evaluated_send : IsSend (evaluated.the_row K T T' T'' T3 g g' g'' g3)
    evaluated_send = let a = graph_send K T3 g s3 in let b = graph_sync K T3 g y3 in let c = order_send s' s'' s3 y3 in let d = states_send s in
        search (sendable, crosses) depth 60 fits 100000

    pub evaluated_sync : IsSync (evaluated.the_row K T T' T'' T3 g g' g'' g3)
    evaluated_sync = let a = graph_send K T3 g s3 in let b = graph_sync K T3 g y3 in let c = order_sync y' y'' s3 y3 in let d = states_sync y in
        search (sendable, crosses) depth 60 fits 100000

    pub origin_send : IsSend (origin.the_row K T T' T'' T3 g g' g'' g3)
    origin_send = let a = evaluated_send in let b = evaluated_sync in search (sendable, crosses, edits_send, edits_sync) depth 60 fits 100000

    pub origin_sync : IsSync (origin.the_row K T T' T'' T3 g g' g'' g3)
    origin_sync = let a = evaluated_send in let b = evaluated_sync in search (sendable, crosses, edits_send, edits_sync) depth 60 fits 100000

    pub version_send : IsSend (version.the_row K T T' T'' T3 g g' g'' g3)
    version_send = let a = evaluated_send in let b = evaluated_sync in let c = origin_send in
        search (sendable, crosses, places_send, places_sync) depth 60 fits 100000

    pub version_sync : IsSync (version.the_row K T T' T'' T3 g g' g'' g3)
    version_sync = let a = evaluated_send in let b = evaluated_sync in let c = origin_sync in
        search (sendable, crosses, places_send, places_sync) depth 60 fits 100000
