use denote.Param.Send.{sendable}
use Rattle.desk.proofs.SharedCrossing.{stages_send, stages_sync}
use Rattle.whatif.proofs.at_once.run_many.Goals as goal

pub graph-requires-send-R-Stages : goal.graph-requires-send-R-Stages
graph-requires-send-R-Stages g c κs = search (sendable, stages_send)

pub graph-requires-sync-R-Stages : goal.graph-requires-sync-R-Stages
graph-requires-sync-R-Stages g c κs = search (sendable, stages_sync) depth 60 fits 100000
